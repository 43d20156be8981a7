-- `privilege::rows::read_there` meets its contract: inside its page an access is one row. Assumes nothing.
use Rattle.std.proofs.Common.{rules}
use Rattle.privilege.proofs.Places.{word_there, byte_there, half_there}
use Rattle.privilege.proofs.rows.read_there.Goals as goal

pub returns-then-addr : goal.returns-then-addr
returns-then-addr c = search (word_there, rules)

pub returns-then-size-eq1 : goal.returns-then-size-eq1
returns-then-size-eq1 c = search (byte_there, rules)

pub returns-then-addr-2 : goal.returns-then-addr-2
returns-then-addr-2 c = search (half_there, rules)
