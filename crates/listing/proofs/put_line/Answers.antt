-- `listing::put_line` meets its contract: there is no room, or mark, digits and costs are written one after the other, and so are
-- their parts. Assumes nothing.
use Rattle.text.specs.Text.Laws.{written_full}
use Rattle.listing.proofs.Chains.{line_written}
use Rattle.listing.proofs.put_line.Goals as goal

pub returns-then-at-out : goal.returns-then-at-out
returns-then-at-out c = search written_full

pub returns : goal.returns
returns c = search line_written
