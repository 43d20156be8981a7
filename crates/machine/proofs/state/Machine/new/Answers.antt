-- `machine::state::Machine::new` meets its contract. Assumes nothing.
use Rattle.machine.proofs.States.{new_is}
use Rattle.machine.proofs.state.Machine.new.Goals as goal

pub returns : goal.returns
returns c = search new_is
