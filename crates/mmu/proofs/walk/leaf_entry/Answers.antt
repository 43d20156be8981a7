-- `mmu::walk::leaf_entry` meets its contract: the mask takes bits 1 to 4. Assumes nothing.
use Rattle.mmu.proofs.Masks.{leaf_flags}
use Rattle.mmu.proofs.walk.leaf_entry.Goals as goal

pub returns : goal.returns
returns c = leaf_flags _ _
