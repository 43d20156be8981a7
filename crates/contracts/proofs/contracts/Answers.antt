-- `contracts::contracts` holds: each contract is settled. Assumes nothing.
use Rattle.contracts.proofs.Coincide.{all_settled}
use Rattle.contracts.proofs.contracts.Goals as goal

pub returns : goal.returns
returns c = all_settled
