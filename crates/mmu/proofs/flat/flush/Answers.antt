-- `mmu::flat::flush` meets its contract: entries of zeros, and the first victim. Assumes nothing.
use Rattle.layout.specs.Words.{over_all}
use Rattle.mmu.proofs.Flats.{flush_done}
use Rattle.std.proofs.Common.{rules}
use Rattle.mmu.proofs.flat.flush.Goals as goal

pub returns : goal.returns
returns c = rw (← c.in-Some.ensures.cases.same) (search (over_all, flush_done, rules))
