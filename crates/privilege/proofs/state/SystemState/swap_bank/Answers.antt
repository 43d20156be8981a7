-- `privilege::state::SystemState::swap_bank` meets its contract: the two banks are those that its calls made. Assumes nothing.
use Rattle.privilege.proofs.Traps.{exchanged_is}
use Rattle.privilege.proofs.state.SystemState.swap_bank.Goals as goal

pub returns : goal.returns
returns c = search exchanged_is
