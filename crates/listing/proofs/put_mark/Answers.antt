-- `listing::put_mark` meets its contract: the index, the blank and the letter are written one after the other. Assumes nothing.
use Rattle.listing.proofs.Chains.{mark_written}
use Rattle.listing.proofs.put_mark.Goals as goal

pub returns : goal.returns
returns c = search mark_written
