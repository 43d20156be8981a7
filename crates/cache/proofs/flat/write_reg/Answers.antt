-- `cache::flat::write_reg` meets its contract: the control word's bits, tested by masks, reach each bank. Assumes nothing.
use Rattle.std.proofs.Common.{rules}
use Rattle.layout.specs.Words.{overs}
use Rattle.cache.proofs.FlatCaches.{changes}
use Rattle.cache.proofs.flat.write_reg.Goals as goal

pub returns-then-cache-ne-CACHE_WORDS : goal.returns-then-cache-ne-CACHE_WORDS
returns-then-cache-ne-CACHE_WORDS c = search (overs, rules)

pub returns-then-offset-ne4 : goal.returns-then-offset-ne4
returns-then-offset-ne4 c = search changes

pub returns : goal.returns
returns c = search changes
