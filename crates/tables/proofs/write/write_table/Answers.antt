-- `tables::write::write_table` meets its contract. The loop's invariant: the words to come make the whole. Assumes nothing.
use Rattle.std.proofs.Common.{refl, rules}
use Rattle.tables.specs.Tables.{level2}
use Rattle.tables.proofs.Written.{words_begin, words_turn, words_end}
use Rattle.tables.proofs.write.write_table.Goals as goal

pub loop-i-init : goal.loop-i-init
unfolding level2
loop-i-init c = (words_begin _ _ _ _ _, search rules, refl)

pub loop-i-preserved : goal.loop-i-preserved
loop-i-preserved c = (search words_turn, search rules, search rules)

pub returns : goal.returns
returns c = search words_end
