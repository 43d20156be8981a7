-- `mmu::flat::invalidate` meets its contract. The loop's invariant: the entries below `i` are dropped, the others as they were. Assumes nothing.
use Rattle.std.proofs.Common.{rules}
use Rattle.layout.specs.Words.{over_all}
use Rattle.mmu.proofs.Flats.{drops}
use Rattle.mmu.proofs.flat.invalidate.Goals as goal

pub loop-i-init : goal.loop-i-init
loop-i-init c = search drops

pub loop-i-preserved : goal.loop-i-preserved
loop-i-preserved c = search (drops, rules)

pub returns : goal.returns
returns c = rw (← c.in-Some.ensures.cases.same) (search (over_all, drops, rules))
