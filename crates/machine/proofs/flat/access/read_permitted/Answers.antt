-- `machine::flat::access::read_permitted` meets its contract. Assumes nothing.
use Rattle.std.proofs.Common.{rules, sym, ap, ◌∙◌, Ok}
use Rattle.machine.proofs.Accesses.{reading, reads_allowed, read_mapped}
use Rattle.machine.proofs.flat.access.read_permitted.Goals as goal

pub returns-in-Ok : goal.returns-in-Ok
returns-in-Ok c =
    let p = c.in-Ok in
    let is = read_mapped _ _ c.map_err.ensures.cases in
    reads_allowed _ _ _ _ _ _ _ _ _ _ _ _ c.requires (search rules) (p.is ∙ ap Ok (sym p.field-0-is)) c.ask-stall.ensures c.read_rows-data.ensures is c.answer_of.ensures

pub returns-in-Err : goal.returns-in-Err
returns-in-Err c = search (reading, rules)
