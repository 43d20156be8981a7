-- `isolation::integrity` holds. Assumes nothing.
use Rattle.isolation.proofs.Runs as runs
use Rattle.isolation.proofs.integrity.Goals as goal

pub returns : goal.returns
returns c = runs.integrity
