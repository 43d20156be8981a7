-- `mmu::flat::tlb_at` meets its contract. The loop's invariant: the entries below `i` are read. Assumes nothing.
use Rattle.std.proofs.Common.{sym, rules}
use Rattle.common.specs.Lists.{over_to_none}
use Rattle.mmu.proofs.Flats.{read_next, read_done}
use Rattle.mmu.proofs.flat.tlb_at.Goals as goal

pub loop-i-init : goal.loop-i-init
loop-i-init c = sym (over_to_none _ _)

pub loop-i-preserved : goal.loop-i-preserved
loop-i-preserved c = search (read_next, rules)

pub returns : goal.returns
returns c = search (read_done, rules)
