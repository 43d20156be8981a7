-- `mmu::flat::slot_of` meets its contract. The loop's invariant: the whole search is the search from slot `i` on. Assumes nothing.
use Rattle.std.proofs.Common.{refl, rules}
use Rattle.mmu.proofs.Flats.{slots}
use Rattle.mmu.proofs.flat.slot_of.Goals as goal
use Rattle.mmu.proofs.flat.slot_of.Goals.{else-vm-at-via-then-vm-at+else-vm-at-eq1, else-vm-at-via-else-vm-at}

pub loop-i-init : goal.loop-i-init
loop-i-init c = refl

pub loop-i-preserved : goal.loop-i-preserved
loop-i-preserved c =
    elim c.else-vm-at.branch [ else-vm-at-via-then-vm-at+else-vm-at-eq1 w ↦ search (slots, rules) | else-vm-at-via-else-vm-at w ↦ search (slots, rules) ]

pub returns-then-vm-at-eq1-clause-found : goal.returns-then-vm-at-eq1-clause-found
returns-then-vm-at-eq1-clause-found c = search (slots, rules)

pub returns-clause-found : goal.returns-clause-found
returns-clause-found c = search (slots, rules)
