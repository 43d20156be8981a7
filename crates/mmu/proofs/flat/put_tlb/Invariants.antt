-- `mmu::flat::put_tlb` meets its contract. The loop's invariant: the entries below `i` are put, the others as they were. Assumes nothing.
use Rattle.mmu.specs.Flat.{vm_at}
use Rattle.mmu.proofs.Flats.{PutTo}
use Rattle.mmu.proofs.flat.put_tlb.Given as goal

abbrev pub invariant-loop-i : goal.invariant-loop-i
invariant-loop-i l =
    PutTo l.i l.entry-items (vm_at l.initial.words) l.words
