-- `cache::flat::reset` meets its contract: both banks are new. Assumes nothing.
use Rattle.std.proofs.Common.{rules}
use Rattle.layout.specs.Words.{overs}
use Rattle.cache.proofs.FlatCaches.{cache_reset}
use Rattle.cache.proofs.flat.reset.Goals as goal

pub returns-then-cache-ne-CACHE_WORDS : goal.returns-then-cache-ne-CACHE_WORDS
returns-then-cache-ne-CACHE_WORDS c = search (overs, rules)

pub returns : goal.returns
returns c = search cache_reset
