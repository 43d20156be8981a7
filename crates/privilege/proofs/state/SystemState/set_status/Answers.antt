-- `privilege::state::SystemState::set_status` meets its contract: each mask tests a bit. Assumes nothing.
use Rattle.privilege.proofs.States.{status_set_lem}
use Rattle.privilege.proofs.state.SystemState.set_status.Goals as goal

pub returns : goal.returns
returns c = search status_set_lem
