-- `mmu::corners` meets its contract, by `Sentences.antt`. Assumes nothing.
use Rattle.mmu.proofs.Sentences.{corners_hold}
use Rattle.mmu.proofs.corners.Goals as goal

pub returns : goal.returns
returns c = corners_hold
