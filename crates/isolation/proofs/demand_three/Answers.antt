-- `isolation::demand_three` holds. Assumes nothing.
use Rattle.isolation.proofs.Runs as runs
use Rattle.isolation.proofs.demand_three.Goals as goal

pub returns : goal.returns
returns c = runs.demand3
