-- `machine::flat::access::grant_word` meets its contract: a word inside its page, over a good map; other accesses are not asked for. Assumes nothing.
use Rattle.std.proofs.Common.{rules}
use Rattle.machine.proofs.Accesses.{map_is, grants_word}
use Rattle.machine.proofs.flat.access.grant_word.Goals as goal

pub returns-then-good_map : goal.returns-then-good_map
returns-then-good_map c = search (map_is, grants_word, rules)
