-- `privilege::flat::regions::put_regions` meets its contract. The loop's invariant: the first i regions are written. Assumes nothing.
use Rattle.std.proofs.Common.{rules}
use Rattle.privilege.proofs.flat.Tables.{put_none, put_next, put_done}
use Rattle.privilege.proofs.flat.regions.put_regions.Goals as goal

pub loop-i-init : goal.loop-i-init
loop-i-init c = (search (put_none, rules), search rules)

pub loop-i-preserved : goal.loop-i-preserved
loop-i-preserved c = (search (put_next, rules), search rules)

pub returns : goal.returns
returns c = search (put_done, rules)
