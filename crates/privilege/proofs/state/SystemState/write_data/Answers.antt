-- `privilege::state::SystemState::write_data` meets its contract: let in and written, or refused. Assumes nothing.
use Rattle.std.proofs.lemmas.Result.{err_from_is_err_and}
use Rattle.std.proofs.Common.{arith, rules}
use Rattle.privilege.specs.Rows.Laws.{spot}
use Rattle.privilege.proofs.Places.{each_inside, each_put}
use Rattle.privilege.proofs.Transfers.{open_good, write_good, memory_written, write_refused, memory_kept}
use Rattle.privilege.proofs.state.SystemState.write_data.Goals as goal

pub write_each-all-requires : goal.write_each-all-requires
write_each-all-requires c =
    let o = open_good _ _ _ c.data_size.ensures _ c.in_ok-admit.ensures in
    record { small = o.0; good = o.1; answers = search rules }

pub returns-in_err-admit : goal.returns-in_err-admit
returns-in_err-admit c =
    let p = err_from_is_err_and c.from_residual.result c.from_residual.ensures.1 in rw (p.1, p.2) (search (write_refused, c.in_err-admit.ensures), search (memory_kept, c.in_err-admit.ensures))

pub returns : goal.returns
returns c =
    let e = c.write_each-all.ensures (spot c.args.self c.args.va) (λ i r h k. search rules) in
    let inside = each_inside c.args.self c.args.va _ (omega arith) _ _ e.0 in
    let put = each_put c.args.self c.args.va _ (omega arith) _ c.args.value _ e.1 in
    (search (write_good, c.in_ok-admit.ensures), search (memory_written, c.in_ok-admit.ensures))
