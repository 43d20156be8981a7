-- `privilege::flat::regions::regions_of` meets its contract. The loop's invariant: the first i regions are read. Assumes nothing.
use Rattle.std.proofs.Common.{rules}
use Rattle.privilege.proofs.flat.Tables.{take_none, take_next, take_done}
use Rattle.privilege.proofs.flat.regions.regions_of.Goals as goal

pub loop-i-init : goal.loop-i-init
loop-i-init c = take_none _ _

pub loop-i-preserved : goal.loop-i-preserved
loop-i-preserved c = search (take_next, rules)

pub returns : goal.returns
returns c = search (take_done, rules)
