-- `cache::flat::invalidate_line` meets its contract: the line goes only where its tag is the address's. Assumes nothing.
use Rattle.cache.proofs.FlatBanks.{line_drops}
use Rattle.cache.proofs.flat.invalidate_line.Goals as goal

pub returns-then-bank-at : goal.returns-then-bank-at
returns-then-bank-at c = search line_drops

pub returns-else-bank-at : goal.returns-else-bank-at
returns-else-bank-at c = search line_drops
