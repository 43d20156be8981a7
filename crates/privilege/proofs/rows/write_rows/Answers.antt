-- `privilege::rows::write_rows` meets its contract: let in and written, or refused. Assumes nothing.
use Rattle.std.proofs.lemmas.Result.{err_from_is_err_and}
use Rattle.privilege.proofs.Transfers.{open_good, write_good, memory_written, write_refused, memory_kept}
use Rattle.privilege.proofs.rows.write_rows.Goals as goal

pub write_there-all-requires : goal.write_there-all-requires
write_there-all-requires c = open_good _ _ _ c.data_size.ensures _ c.in_ok-admit.ensures

pub returns-in_err-admit : goal.returns-in_err-admit
returns-in_err-admit c =
    let p = err_from_is_err_and c.from_residual.result c.from_residual.ensures.1 in rw (p.1, p.2) (search (write_refused, c.in_err-admit.ensures), search (memory_kept, c.in_err-admit.ensures))

pub returns : goal.returns
returns c = (search (write_good, c.in_ok-admit.ensures), search (memory_written, c.in_ok-admit.ensures))
