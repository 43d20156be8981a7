-- `mmu::flat::fill` meets its contract: the entry in the victim's slot, and the next victim. Assumes nothing.
use Rattle.mmu.proofs.Flats.{fill_done}
use Rattle.std.proofs.Common.{rules}
use Rattle.mmu.proofs.flat.fill.Goals as goal

pub returns : goal.returns
returns c = search (fill_done, rules)
