-- `mmu::flat::pack` meets its contract: the TLB's words, the victim's and the registers'. Assumes nothing.
use Rattle.layout.specs.Words.{over_all}
use Rattle.mmu.proofs.Flats.{pack_done}
use Rattle.std.proofs.Common.{rules}
use Rattle.mmu.proofs.flat.pack.Goals as goal

pub returns : goal.returns
returns c = rw (← c.in-Some.ensures.cases.same) (search (over_all, pack_done, rules))
