-- `listing::put_spaced_decimal` meets its contract: the blank and the number are written one after the other. Assumes nothing.
use Rattle.listing.proofs.Chains.{spaced_written}
use Rattle.listing.proofs.put_spaced_decimal.Goals as goal

pub returns : goal.returns
returns c = search spaced_written
