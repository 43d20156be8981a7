-- `mmu::tlb::lookup` meets its contract. The loop's invariant: the whole search is the search from slot `i` on. Assumes nothing.
use Rattle.std.proofs.Common.{◌≡◌, drop}
use Rattle.mmu.specs.Tlb.{first_match}
use Rattle.mmu.proofs.tlb.lookup.Given as goal

abbrev pub invariant-loop-i : goal.invariant-loop-i
invariant-loop-i l =
    first_match l.vpn 0 l.entry-items ≡ first_match l.vpn l.i (drop l.i l.entry-items)
