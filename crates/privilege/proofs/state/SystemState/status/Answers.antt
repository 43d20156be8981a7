-- `privilege::state::SystemState::status` meets its contract: the bits are the definition's. Assumes nothing.
use Rattle.privilege.proofs.States.{status_is}
use Rattle.privilege.proofs.state.SystemState.status.Goals as goal

pub returns : goal.returns
returns c = search status_is
