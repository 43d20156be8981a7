-- `mmu::tlb::lookup` meets its contract. The loop's invariant: the whole search is the search from slot `i` on. Assumes nothing.
use Rattle.std.proofs.Common.{rules}
use Rattle.mmu.proofs.Search.{none_left, found_here, not_valid, other_page}
use Rattle.mmu.proofs.tlb.lookup.Goals as goal
use Rattle.mmu.proofs.tlb.lookup.Goals.{else-entry-via-then-entry+else-entry-vpn, else-entry-via-else-entry}

pub returns-then-entry-vpn : goal.returns-then-entry-vpn
returns-then-entry-vpn c = search (found_here, rules)

pub loop-i-preserved : goal.loop-i-preserved
loop-i-preserved c =
    elim c.else-entry.branch [ else-entry-via-then-entry+else-entry-vpn w ↦ search (other_page, rules) | else-entry-via-else-entry w ↦ search (not_valid, rules) ]

pub returns : goal.returns
returns c = search (none_left, rules)
