-- `privilege::check::legal_size` meets its contract, by the kind of access. Assumes nothing.
use Rattle.std.proofs.Common.{rules}
use Rattle.privilege.proofs.Checks.{word_size, read_size, write_size, fetch_size_lem}
use Rattle.privilege.proofs.check.legal_size.Goals as goal

pub returns-then-size-eq4 : goal.returns-then-size-eq4
returns-then-size-eq4 c = search (word_size, rules)

pub returns-in-Read : goal.returns-in-Read
returns-in-Read c = search read_size

pub returns-in-Write : goal.returns-in-Write
returns-in-Write c = search write_size

pub returns-in-Fetch : goal.returns-in-Fetch
returns-in-Fetch c = search fetch_size_lem
