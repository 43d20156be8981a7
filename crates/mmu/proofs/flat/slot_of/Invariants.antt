-- `mmu::flat::slot_of` meets its contract. The loop's invariant: the whole search is the search from slot `i` on. Assumes nothing.
use Rattle.std.proofs.Common.{◌≡◌, drop}
use Rattle.mmu.specs.Flat.{vm_at}
use Rattle.mmu.specs.Tlb.{first_match}
use Rattle.mmu.proofs.flat.slot_of.Given as goal

abbrev pub invariant-loop-i : goal.invariant-loop-i
invariant-loop-i l =
    first_match l.vpn 0 (vm_at l.vm).tlb ≡ first_match l.vpn l.i (drop l.i (vm_at l.vm).tlb)
