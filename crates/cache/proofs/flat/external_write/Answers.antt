-- `cache::flat::external_write` meets its contract: each bank is swept up to the saturated end. Assumes nothing.
use Rattle.std.proofs.Common.{rules}
use Rattle.layout.specs.Words.{overs}
use Rattle.cache.proofs.FlatCaches.{changes}
use Rattle.cache.proofs.flat.external_write.Goals as goal

pub returns-then-cache-ne-CACHE_WORDS : goal.returns-then-cache-ne-CACHE_WORDS
returns-then-cache-ne-CACHE_WORDS c = search (overs, rules)

pub returns : goal.returns
returns c = search changes
