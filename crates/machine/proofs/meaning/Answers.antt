-- `machine::meaning` meets its contract: the laws are `Sentences.antt`'s. Assumes nothing.
use Rattle.machine.proofs.Sentences.{meaning_holds}
use Rattle.machine.proofs.meaning.Goals as goal

pub returns : goal.returns
returns c = meaning_holds
