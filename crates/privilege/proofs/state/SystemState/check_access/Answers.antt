-- `privilege::state::SystemState::check_access` meets its contract: let in and checked, or refused. Assumes nothing.
use Rattle.privilege.proofs.Checks.{let_in, shut}
use Rattle.privilege.proofs.state.SystemState.check_access.Goals as goal

pub returns-in-Ok : goal.returns-in-Ok
returns-in-Ok c = search (let_in, c.in-Ok.ensures)

pub returns-in-Err : goal.returns-in-Err
returns-in-Err c = search (shut, c.in-Err.ensures)
