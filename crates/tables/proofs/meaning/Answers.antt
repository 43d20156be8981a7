-- `tables::meaning` meets its contract, by `Sentences.antt`. Assumes nothing.
use Rattle.tables.proofs.Sentences.{meaning_holds}
use Rattle.tables.proofs.meaning.Goals as goal

pub returns : goal.returns
returns c = meaning_holds
