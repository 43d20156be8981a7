-- `tables::write::write_level1` meets its contract. The loop's invariant: the words to come make the whole. Assumes nothing.
use Rattle.std.proofs.Common.{◌+◌, ◌≡◌, refl, rules, arith}
use Rattle.tables.specs.Tables.{level1}
use Rattle.tables.proofs.Written.{frames_some, words_begin, words_turn, words_end}
use Rattle.tables.proofs.write.write_level1.Goals as goal

pub loop-directory-init : goal.loop-directory-init
unfolding level1
loop-directory-init c = (words_begin _ _ _ _ _, search rules, refl)

pub overflow_add-first : goal.overflow_add-first
overflow_add-first c = omega (arith, frames_some c.args.vpns.now)

pub put_word-requires : goal.put_word-requires
put_word-requires c = omega (arith, frames_some c.args.vpns.now)

pub loop-directory-preserved : goal.loop-directory-preserved
loop-directory-preserved c =
    let i = c.loop-directory.directory in
    let e : i ≡ 0 + i = omega arith in
    (search words_turn, search rules, search rules)

pub returns : goal.returns
returns c = search words_end
