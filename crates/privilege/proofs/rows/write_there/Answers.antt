-- `privilege::rows::write_there` meets its contract: inside its page an access is one row. Assumes nothing.
use Rattle.std.proofs.Common.{rules}
use Rattle.privilege.proofs.Places.{word_inside, word_put, byte_inside, byte_put, half_inside, half_put}
use Rattle.privilege.proofs.rows.write_there.Goals as goal

pub returns-then-addr : goal.returns-then-addr
returns-then-addr c = (search (word_inside, rules), search (word_put, rules))

pub returns-then-size-eq1 : goal.returns-then-size-eq1
returns-then-size-eq1 c = (search (byte_inside, rules), search (byte_put, rules))

pub returns-then-addr-2 : goal.returns-then-addr-2
returns-then-addr-2 c = (search (half_inside, rules), search (half_put, rules))
