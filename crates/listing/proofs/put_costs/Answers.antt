-- `listing::put_costs` meets its contract: the two numbers and the newline are written one after the other. Assumes nothing.
use Rattle.listing.proofs.Chains.{costs_written}
use Rattle.listing.proofs.put_costs.Goals as goal

pub returns : goal.returns
returns c = search costs_written
