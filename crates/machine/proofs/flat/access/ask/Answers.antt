-- `machine::flat::access::ask` meets its contract. Assumes nothing.
use Rattle.std.proofs.Common.{rules}
use Rattle.machine.proofs.Accesses.{asks}
use Rattle.machine.proofs.flat.access.ask.Goals as goal

pub returns-in-Read : goal.returns-in-Read
returns-in-Read c = search (asks, rules)

pub returns-in-Fetch : goal.returns-in-Fetch
returns-in-Fetch c = search (asks, rules)

pub returns-in-Write : goal.returns-in-Write
returns-in-Write c = search (asks, rules)
