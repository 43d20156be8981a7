-- `mmu::flat::frame_of` meets its contract: the page is resident, or it is not. Assumes nothing.
use Rattle.layout.specs.Words.{reads_all}
use Rattle.mmu.proofs.Flats.{frames}
use Rattle.std.proofs.Common.{rules}
use Rattle.mmu.proofs.flat.frame_of.Goals as goal

pub returns-in-Some-slot_of : goal.returns-in-Some-slot_of
returns-in-Some-slot_of c = rw (← c.in-Some.ensures.cases.same) (reads_all _ _ _ _ _ (search rules) (search (frames, rules)))

pub returns-in-None : goal.returns-in-None
returns-in-None c = rw (← c.in-Some.ensures.cases.same) (reads_all _ _ _ _ _ (search rules) (search (frames, rules)))
