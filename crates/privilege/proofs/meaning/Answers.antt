-- `privilege::meaning` meets its contract: the laws are `Sentences.antt`'s. Assumes nothing.
use Rattle.privilege.proofs.Sentences.{meaning_holds}
use Rattle.privilege.proofs.meaning.Goals as goal

pub returns : goal.returns
returns c = meaning_holds
