-- `machine::flat::access::read_granted` meets its contract. Assumes nothing.
use Rattle.machine.proofs.Accesses.{granted_reads}
use Rattle.std.proofs.Common.{rules}
use Rattle.machine.proofs.flat.access.read_granted.Goals as goal

pub returns : goal.returns
returns c = search (granted_reads, rules)
