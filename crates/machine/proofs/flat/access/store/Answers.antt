-- `machine::flat::access::store` meets its contract. Assumes nothing.
use Rattle.machine.proofs.Accesses.{any_written}
use Rattle.machine.proofs.flat.access.store.Goals as goal

pub returns : goal.returns
returns c =
    let is = c.in-Some.ensures.cases in
    any_written _ _ _ _ _ _ _ _ _ _ _ is.long (rw is.same at c.check-permit.ensures) c.write_permitted.ensures
