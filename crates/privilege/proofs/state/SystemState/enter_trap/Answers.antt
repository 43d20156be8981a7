-- `privilege::state::SystemState::enter_trap` meets its contract: from user mode with the exchange, from supervisor mode without. Assumes nothing.
use Rattle.privilege.proofs.Traps.{from_user, from_supervisor}
use Rattle.privilege.proofs.state.SystemState.enter_trap.Goals as goal

pub returns-then-self : goal.returns-then-self
returns-then-self c = search from_user

pub returns : goal.returns
returns c = search from_supervisor
