-- `isolation::in_scripts` holds. Assumes nothing.
use Rattle.isolation.proofs.Events as events
use Rattle.isolation.proofs.in_scripts.Goals as goal

pub returns : goal.returns
returns c = events.in_scripts
