-- `cache::flat::unpack` meets its contract: the range and the penalty, and the two banks. Assumes nothing.
use Rattle.std.proofs.Common.{rules}
use Rattle.layout.specs.Words.{overs}
use Rattle.cache.proofs.FlatCaches.{cache_unpacked}
use Rattle.cache.proofs.flat.unpack.Goals as goal

pub returns-then-words-ne-CACHE_WORDS : goal.returns-then-words-ne-CACHE_WORDS
returns-then-words-ne-CACHE_WORDS c = search (overs, rules)

pub returns : goal.returns
returns c = search (cache_unpacked, rules)
