-- `machine::flat::access::check` meets its contract. Assumes nothing.
use Rattle.std.proofs.Common.{rules}
use Rattle.machine.proofs.Accesses.{check_permits}
use Rattle.machine.proofs.flat.access.check.Goals as goal

pub returns : goal.returns
returns c = search (check_permits, rules)
