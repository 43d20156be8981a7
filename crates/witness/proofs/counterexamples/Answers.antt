-- `witness::counterexamples` holds. Assumes nothing.
use Rattle.witness.proofs.Broken as needed_of
use Rattle.witness.proofs.counterexamples.Goals as goal

pub returns : goal.returns
returns c = needed_of.needed
