-- `isolation::in_pages` holds. Assumes nothing.
use Rattle.isolation.proofs.Runs as runs
use Rattle.isolation.proofs.in_pages.Goals as goal

pub returns : goal.returns
returns c = runs.in_pages
