-- `listing::put_spaced_hex` meets its contract: the blank and the digits are written one after the other. Assumes nothing.
use Rattle.listing.proofs.Chains.{spaced_written}
use Rattle.listing.proofs.put_spaced_hex.Goals as goal

pub returns : goal.returns
returns c = search spaced_written
