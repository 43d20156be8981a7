-- `privilege::state::SystemState::leave_trap` meets its contract: user mode is entered with the exchange, or all but IE stays. Assumes nothing.
use Rattle.privilege.proofs.Traps.{to_user, stays}
use Rattle.privilege.proofs.state.SystemState.leave_trap.Goals as goal

pub returns-then-enters : goal.returns-then-enters
returns-then-enters c = search to_user

pub returns : goal.returns
returns c = search stays
