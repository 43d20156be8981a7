-- `mmu::flat::invalidate` meets its contract. The loop's invariant: the entries below `i` are dropped, the others as they were. Assumes nothing.
use Rattle.mmu.specs.Flat.{vm_at}
use Rattle.mmu.proofs.Flats.{DroppedTo}
use Rattle.mmu.proofs.flat.invalidate.Given as goal

abbrev pub invariant-loop-i : goal.invariant-loop-i
invariant-loop-i l =
    DroppedTo l.i l.page (vm_at l.initial.vm) l.vm
