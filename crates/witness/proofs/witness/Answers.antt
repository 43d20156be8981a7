-- `witness::witness` holds. Assumes nothing.
use Rattle.witness.proofs.Shown as witness-of
use Rattle.witness.proofs.witness.Goals as goal

pub returns : goal.returns
returns c = witness-of.witness
