-- `cache::flat::pack` meets its contract: the two banks, then the range and the penalty. Assumes nothing.
use Rattle.std.proofs.Common.{rules}
use Rattle.layout.specs.Words.{overs}
use Rattle.cache.proofs.FlatBanks.{set_after}
use Rattle.cache.proofs.FlatCaches.{cache_packed}
use Rattle.cache.proofs.flat.pack.Goals as goal

pub returns-then-words-ne-CACHE_WORDS : goal.returns-then-words-ne-CACHE_WORDS
returns-then-words-ne-CACHE_WORDS c = search (overs, rules)

pub bounds-words-1 : goal.bounds-words-1
bounds-words-1 c = search (set_after, rules)

pub bounds-words-2 : goal.bounds-words-2
bounds-words-2 c = search (set_after, rules)

pub returns : goal.returns
returns c = search cache_packed
