-- `privilege::rows::put_place` meets its contract: a good map has no byte past its end. Assumes nothing.
use Rattle.std.proofs.Common.{rules}
use Rattle.privilege.proofs.Places.{out, put_past}
use Rattle.privilege.proofs.rows.put_place.Goals as goal

pub returns-then-at-ge-MAP_END : goal.returns-then-at-ge-MAP_END
returns-then-at-ge-MAP_END c = (search (out, rules), search (put_past, rules))
