-- `privilege::state::SystemState::debug_translate` meets its contract: let in and looked up, or refused. Assumes nothing.
use Rattle.std.proofs.lemmas.Result.{err_from_is_err_and}
use Rattle.privilege.proofs.Views.{view_shown, view_refused}
use Rattle.privilege.proofs.state.SystemState.debug_translate.Goals as goal

pub returns-in_err-admit : goal.returns-in_err-admit
returns-in_err-admit c =
    let p = err_from_is_err_and c.from_residual.result c.from_residual.ensures.1 in rw (p.1, p.2) (search (view_refused, c.in_err-admit.ensures))

pub returns : goal.returns
returns c = search (view_shown, c.in_ok-admit.ensures)
