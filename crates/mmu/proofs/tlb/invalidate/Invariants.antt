-- `mmu::tlb::invalidate` meets its contract. The loop's invariant: the entries so far are dropped, the others as they were.
-- Assumes nothing.
use Rattle.std.proofs.Common.{◌≡◌}
use Rattle.common.specs.Lists.{map_to}
use Rattle.mmu.specs.Tlb.{dropped}
use Rattle.mmu.proofs.tlb.invalidate.Given as goal

abbrev pub invariant-loop-entry : goal.invariant-loop-entry
invariant-loop-entry l =
    l.entry-items ≡ map_to (dropped l.vpn) l.entry-index l.initial.entry-items
