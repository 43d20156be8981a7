-- `mmu::flat::entry_at` meets its contract: an entry is what its four words are. Assumes nothing.
use Rattle.mmu.proofs.Flats.{entry_read}
use Rattle.std.proofs.Common.{rules}
use Rattle.mmu.proofs.flat.entry_at.Goals as goal

pub returns : goal.returns
returns c = search (entry_read, rules)
