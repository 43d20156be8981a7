-- `mmu::meaning` meets its contract, by `Sentences.antt`. Assumes nothing.
use Rattle.mmu.proofs.Sentences.{meaning_holds}
use Rattle.mmu.proofs.meaning.Goals as goal

pub returns : goal.returns
returns c = meaning_holds
