-- `machine::flat::access::access_any` meets its contract. Assumes nothing.
use Rattle.std.proofs.Common.{rules}
use Rattle.machine.proofs.Accesses.{event_read, event_written, kind_reads}
use Rattle.machine.proofs.flat.access.access_any.Goals as goal

pub returns-then-e-eq1 : goal.returns-then-e-eq1
returns-then-e-eq1 c =
    let w = c in
    let test = w in
    let k = test in
    let kind = k in
    event_written _ _ _ _ _ kind.args.e _ _ _ kind.access_of-access.ensures k.check-permit.ensures _ test.if-e-eq1.true w.write_permitted.ensures

pub read_permitted-requires : goal.read_permitted-requires
read_permitted-requires c = search (event_read, event_written, kind_reads, rules)

pub returns : goal.returns
returns c =
    let w = c in
    let test = w in
    let k = test in
    let kind = k in
    event_read _ _ _ _ _ kind.args.e _ _ _ kind.access_of-access.ensures k.check-permit.ensures test.if-e-eq1.false w.read_permitted.ensures
