-- `machine::flat::access::write_granted` meets its contract. Assumes nothing.
use Rattle.machine.proofs.Accesses.{granted_writes}
use Rattle.std.proofs.Common.{rules}
use Rattle.machine.proofs.flat.access.write_granted.Goals as goal

pub returns : goal.returns
returns c = search (granted_writes, rules)
