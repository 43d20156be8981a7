-- `mmu::flat::tlb_at` meets its contract. The loop's invariant: the entries below `i` are read. Assumes nothing.
use Rattle.std.proofs.Common.{◌≡◌}
use Rattle.common.specs.Lists.{over_to}
use Rattle.mmu.specs.Flat.{vm_at}
use Rattle.mmu.proofs.flat.tlb_at.Given as goal

abbrev pub invariant-loop-i : goal.invariant-loop-i
invariant-loop-i l =
    l.entry-items ≡ over_to l.i (vm_at l.words).tlb l.initial.entry-items
