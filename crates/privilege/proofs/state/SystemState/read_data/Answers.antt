-- `privilege::state::SystemState::read_data` meets its contract: let in and read, or refused. Assumes nothing.
use Rattle.std.proofs.lemmas.Result.{err_from_is_err_and}
use Rattle.privilege.proofs.Transfers.{open_good, read_good, read_refused}
use Rattle.privilege.proofs.state.SystemState.read_data.Goals as goal

pub read_spots-requires : goal.read_spots-requires
read_spots-requires c = open_good _ _ _ c.data_size.ensures _ c.in_ok-admit.ensures

pub returns-in_err-admit : goal.returns-in_err-admit
returns-in_err-admit c =
    let p = err_from_is_err_and c.from_residual.result c.from_residual.ensures.1 in rw (p.1, p.2) (search (read_refused, c.in_err-admit.ensures))

pub returns : goal.returns
returns c = search (read_good, c.in_ok-admit.ensures)
