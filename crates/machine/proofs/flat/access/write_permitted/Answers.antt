-- `machine::flat::access::write_permitted` meets its contract. Assumes nothing.
use Rattle.std.proofs.Common.{rules, sym, ap, ◌∙◌, Ok}
use Rattle.machine.proofs.Accesses.{writing, writes_allowed, written_mapped}
use Rattle.machine.proofs.flat.access.write_permitted.Goals as goal

pub returns-in-Ok : goal.returns-in-Ok
returns-in-Ok c =
    let p = c.in-Ok in
    let is = written_mapped _ _ _ c.and.ensures c.map_err.ensures.cases in
    writes_allowed _ _ _ _ _ _ _ _ _ _ _ _ _ (search rules) (p.is ∙ ap Ok (sym p.field-0-is)) c.ask-stall.ensures c.write_rows-data.ensures is c.answer_of.ensures

pub returns-in-Err : goal.returns-in-Err
returns-in-Err c = search (writing, rules)
