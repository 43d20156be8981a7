-- `cache::flat::clear_stats` meets its contract: the strobe clears the counts, or they stay. Assumes nothing.
use Rattle.cache.proofs.FlatBanks.{counts_cleared}
use Rattle.cache.proofs.flat.clear_stats.Goals as goal

pub returns : goal.returns
returns c = search counts_cleared
