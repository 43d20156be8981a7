-- `mmu::flat::put_victim` meets its contract: a number is its two halves. Assumes nothing.
use Rattle.mmu.proofs.Flats.{victim_put}
use Rattle.std.proofs.Common.{rules}
use Rattle.mmu.proofs.flat.put_victim.Goals as goal

pub returns : goal.returns
returns c = search (victim_put, rules)
