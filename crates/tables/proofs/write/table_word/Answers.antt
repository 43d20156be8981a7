-- `tables::write::table_word` meets its contract. The loop's invariant: the word is that of the directories to come, whose tables stand after
-- `frame`, and they have room. Assumes nothing.
use Rattle.std.proofs.Common.{refl, rules, arith}
use Rattle.tables.proofs.Written.{room_whole, room_same, room_new, room_here, table_none, table_here, table_same, table_later}
use Rattle.tables.proofs.write.table_word.Goals as goal
use Rattle.tables.proofs.write.table_word.Goals.{else-directory-last, then-directory-last+else-directory-wanted}

pub loop-vpn-init : goal.loop-vpn-init
loop-vpn-init c = (refl, room_whole _ _, search rules)

pub overflow_add-frame : goal.overflow_add-frame
overflow_add-frame c =
    let l = c.loop-vpn in
    omega (arith, room_here _ l.frame 0 _ 0 _ _ l.invariant.1 c.loop-vpn-test.true c.if-directory-last.true)

pub overflow_add-result : goal.overflow_add-result
overflow_add-result c =
    let l = c.loop-vpn in
    omega (arith, room_here _ l.frame 0 _ 0 _ _ l.invariant.1 c.loop-vpn-test.true c.if-directory-last.true)

pub returns-then-directory-wanted : goal.returns-then-directory-wanted
returns-then-directory-wanted c = search table_here

pub loop-vpn-preserved : goal.loop-vpn-preserved
loop-vpn-preserved c = (
  elim c.if-directory-last.branch [ then-directory-last+else-directory-wanted w ↦ search table_later | else-directory-last w ↦ search table_same ],
  elim c.if-directory-last.branch [ then-directory-last+else-directory-wanted w ↦ search room_new | else-directory-last w ↦ search room_same ],
  search rules,
)

pub returns : goal.returns
returns c = search table_none
