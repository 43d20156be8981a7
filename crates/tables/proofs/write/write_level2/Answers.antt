-- `tables::write::write_level2` meets its contract. The loop's invariant: the tables of the directories to come make the whole, and they have
-- room. Assumes nothing.
use Rattle.std.proofs.Common.{refl, rules, arith}
use Rattle.tables.proofs.Written.{room_whole, room_same, room_new, room_here, tables_done, tables_same, tables_new, kept_size}
use Rattle.tables.proofs.write.write_level2.Goals as goal
use Rattle.tables.proofs.write.write_level2.Goals.{else-directory-last, then-directory-last}

pub loop-k-init : goal.loop-k-init
loop-k-init c = (refl, room_whole _ _, search rules, refl)

pub overflow_add-frame : goal.overflow_add-frame
overflow_add-frame c =
    let l = c.loop-k in
    omega (arith, room_here _ l.frame 0 _ 0 _ _ l.invariant.1 c.loop-k-test.true c.if-directory-last.true)

pub write_table-requires : goal.write_table-requires
write_table-requires c =
    let l = c.loop-k in
    let room = room_here _ l.frame 0 _ 0 _ _ l.invariant.1 c.loop-k-test.true c.if-directory-last.true in
    let page = c.type_inv.vpns l.k in
    (omega arith, search rules, omega arith)

pub loop-k-preserved : goal.loop-k-preserved
loop-k-preserved c =
    elim c.if-directory-last.branch [ then-directory-last w ↦ (search tables_new, search room_new, search rules, search kept_size) | else-directory-last w ↦ (search tables_same, search room_same, search rules, search rules) ]

pub returns : goal.returns
returns c = search tables_done
