-- `cache::flat::access` meets its contract: another length, an access to the bank, or an address that is not cacheable. Assumes nothing.
use Rattle.std.proofs.Common.{◌≡◌, ◌+◌, ◌-◌, arith}
use Rattle.cache.specs.Flat.{bank_words}
use Rattle.cache.proofs.FlatCaches.{access_none, access_out, access_in}
use Rattle.cache.proofs.flat.access.Goals as goal

pub returns-then-cache-ne-CACHE_WORDS : goal.returns-then-cache-ne-CACHE_WORDS
returns-then-cache-ne-CACHE_WORDS c c' = search access_none

pub returns-then-within : goal.returns-then-within
returns-then-within c c' = let all : c.row.AT + 259 - c.row.AT ≡ bank_words = omega arith in search access_in

pub returns : goal.returns
returns c c' = search access_out
