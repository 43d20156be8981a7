-- `machine::flat::access::read` meets its contract. Assumes nothing.
use Rattle.machine.proofs.Accesses.{any_read}
use Rattle.machine.proofs.flat.access.read.Goals as goal

pub returns : goal.returns
returns c =
    let is = c.in-Some.ensures.cases in
    any_read _ _ _ _ _ _ _ _ _ _ is.long (rw is.same at c.check-permit.ensures) c.requires c.read_permitted.ensures
