-- `cache::flat::set_tags` meets its contract: the bank's other words stay. Assumes nothing.
use Rattle.std.proofs.Common.{rules}
use Rattle.cache.proofs.FlatBanks.{tags_set}
use Rattle.cache.proofs.flat.set_tags.Goals as goal

pub returns : goal.returns
returns c = search (tags_set, rules)
