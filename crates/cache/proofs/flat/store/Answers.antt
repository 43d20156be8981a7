-- `cache::flat::store` meets its contract: the matching instruction line goes, where the address is cacheable. Assumes nothing.
use Rattle.std.proofs.Common.{rules}
use Rattle.layout.specs.Words.{overs}
use Rattle.cache.proofs.FlatCaches.{accesses}
use Rattle.cache.proofs.flat.store.Goals as goal

pub returns-then-cache-ne-CACHE_WORDS : goal.returns-then-cache-ne-CACHE_WORDS
returns-then-cache-ne-CACHE_WORDS c = search (overs, rules)

pub returns-then-within : goal.returns-then-within
returns-then-within c = search accesses

pub returns-else-within : goal.returns-else-within
returns-else-within c = search accesses
