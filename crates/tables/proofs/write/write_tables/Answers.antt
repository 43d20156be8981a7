-- `tables::write::write_tables` meets its contract: what is not refused has room, and level 1 and the tables after it are the whole image.
-- Assumes nothing.
use Rattle.tables.proofs.Answered.{good_few, passed, has_room, all_written}
use Rattle.tables.proofs.write.write_tables.Goals as goal

pub frames_for-used-requires : goal.frames_for-used-requires
frames_for-used-requires c =
    let l = c.in_ok-list.list in
    good_few _ l.vpns.now l.ppns.now l.bits.now l.good c.in_ok-list.ensures.0

pub write_level1-requires : goal.write_level1-requires
write_level1-requires c =
    let l = c.in_ok-list.list in
    let e = c.in_ok-list.ensures in
    has_room c.args.base c.args.mem.now _ c.args.ppns.now c.args.bits.now c.args.first c.args.frames
    (passed _ _ _ _ _ _ _ l.vpns.now l.ppns.now l.bits.now c.frames_for-used.result e.0 e.1 e.2 c.good_map.ensures c.if-not-good_map.false l.good
    c.all_good.ensures c.if-not-all_good.false c.good_run.ensures c.if-not-good_run.false c.frames_for-used.ensures c.if-frames-used.false)

pub write_level2-requires : goal.write_level2-requires
write_level2-requires c =
    let l = c.in_ok-list.list in
    let e = c.in_ok-list.ensures in
    rw e.0
    (has_room c.args.base c.args.mem.now _ c.args.ppns.now c.args.bits.now c.args.first c.args.frames
    (passed _ _ _ _ _ _ _ l.vpns.now l.ppns.now l.bits.now c.frames_for-used.result e.0 e.1 e.2 c.good_map.ensures c.if-not-good_map.false l.good
    c.all_good.ensures c.if-not-all_good.false c.good_run.ensures c.if-not-good_run.false c.frames_for-used.ensures c.if-frames-used.false))

pub returns : goal.returns
returns c =
    let l = c.in_ok-list.list in
    let e = c.in_ok-list.ensures in
    all_written c.args.base c.args.mem.now c.args.vpns.now c.args.ppns.now c.args.bits.now c.args.first c.args.frames
    (passed _ _ _ _ _ _ _ l.vpns.now l.ppns.now l.bits.now c.frames_for-used.result e.0 e.1 e.2 c.good_map.ensures c.if-not-good_map.false l.good
    c.all_good.ensures c.if-not-all_good.false c.good_run.ensures c.if-not-good_run.false c.frames_for-used.ensures c.if-frames-used.false)
    l.vpns.now l.ppns.now l.bits.now _ _ _ e.0 e.1 e.2 c.frames_for-used.ensures c.write_level1.ensures c.write_level2.ensures
