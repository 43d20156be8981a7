-- `privilege::flat::regions::put_region` meets its contract: its three words are the region. Assumes nothing.
use Rattle.std.proofs.Common.{arith, length-set, rules}
use Rattle.privilege.specs.Flat.Laws.{region_put}
use Rattle.privilege.proofs.flat.regions.put_region.Goals as goal

pub bounds-regions-at-2 : goal.bounds-regions-at-2
bounds-regions-at-2 c = simp length-set (omega arith)

pub bounds-regions-at-3 : goal.bounds-regions-at-3
bounds-regions-at-3 c = simp length-set (omega arith)

pub returns : goal.returns
returns c = search (region_put, rules)
