-- `isolation::in_runs` holds. Assumes nothing.
use Rattle.isolation.proofs.Events as events
use Rattle.isolation.proofs.in_runs.Goals as goal

pub returns : goal.returns
returns c = events.in_runs
