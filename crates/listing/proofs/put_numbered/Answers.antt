-- `listing::put_numbered` meets its contract: the word, the number and the newline are written one after the other. Assumes nothing.
use Rattle.listing.proofs.Chains.{numbered_written}
use Rattle.listing.proofs.put_numbered.Goals as goal

pub returns : goal.returns
returns c = search numbered_written
