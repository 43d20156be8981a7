-- `mmu::flat::put_tlb` meets its contract. The loop's invariant: the entries below `i` are put, the others as they were. Assumes nothing.
use Rattle.std.proofs.Common.{rules}
use Rattle.mmu.proofs.Flats.{put_none, put_next, put_done}
use Rattle.mmu.proofs.flat.put_tlb.Goals as goal

pub loop-i-init : goal.loop-i-init
loop-i-init c = put_none _ _

pub loop-i-preserved : goal.loop-i-preserved
loop-i-preserved c = search (put_next, rules)

pub returns : goal.returns
returns c = search (put_done, rules)
