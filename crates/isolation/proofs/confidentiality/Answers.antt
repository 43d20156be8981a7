-- `isolation::confidentiality` holds. Assumes nothing.
use Rattle.isolation.proofs.Runs as runs
use Rattle.isolation.proofs.confidentiality.Goals as goal

pub returns : goal.returns
returns c = runs.confidentiality
