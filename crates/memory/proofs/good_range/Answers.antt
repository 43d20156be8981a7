-- `memory::good_range` meets its contract: each test is one of the definition's, and a length over the limit fails the sum. Assumes nothing.
use Rattle.memory.proofs.Places.{map_base, map_length, map_long, map_end}
use Rattle.memory.proofs.good_range.Goals as goal

pub returns-then-base-ne0 : goal.returns-then-base-ne0
returns-then-base-ne0 c = search map_base

pub returns-then-len-ne0 : goal.returns-then-len-ne0
returns-then-len-ne0 c = search map_length

pub returns-then-len-gt-MAP_END : goal.returns-then-len-gt-MAP_END
returns-then-len-gt-MAP_END c = search map_long

pub returns : goal.returns
returns c = search map_end
