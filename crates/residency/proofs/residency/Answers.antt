-- `residency::residency` holds. Assumes nothing.
use Rattle.residency.proofs.Rules.{holds}
use Rattle.residency.proofs.residency.Goals as goal

pub returns : goal.returns
returns c = holds
