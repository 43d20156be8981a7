-- `privilege::transfer::join` meets its contract: the two parts share no bit. Assumes nothing.
use Rattle.privilege.proofs.Transfers.{joined_is}
use Rattle.privilege.proofs.transfer.join.Goals as goal

pub returns : goal.returns
returns c = joined_is _ _
