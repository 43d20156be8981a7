-- `mmu::flat::put_entry` meets its contract: four words set are the entry. Assumes nothing.
use Rattle.mmu.proofs.Flats.{entry_inside, entry_put}
use Rattle.std.proofs.Common.{rules}
use Rattle.mmu.proofs.flat.put_entry.Goals as goal

pub bounds-vm-at-2 : goal.bounds-vm-at-2
bounds-vm-at-2 c = search (entry_inside, rules)

pub bounds-vm-at-3 : goal.bounds-vm-at-3
bounds-vm-at-3 c = search (entry_inside, rules)

pub bounds-vm-at-4 : goal.bounds-vm-at-4
bounds-vm-at-4 c = search (entry_inside, rules)

pub returns : goal.returns
returns c = search (entry_put, rules)
