-- `cache::flat::invalidate_all` meets its contract: the strobe empties the bank, or it stays. Assumes nothing.
use Rattle.cache.specs.Bank.{no_tags}
use Rattle.cache.proofs.flat.invalidate_all.Goals as goal

pub returns : goal.returns
unfolding no_tags
returns c = c.set_tags.ensures
