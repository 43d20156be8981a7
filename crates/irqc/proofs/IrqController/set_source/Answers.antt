-- `irqc::IrqController::set_source` meets its contract: the test of the source's bit is `bit_set`, and each way is the definition's.
-- Assumes nothing.
use Rattle.std.proofs.Common.{lt-ltb, le-ltb}
use Rattle.common.specs.Bits.Laws.{one_shifted, clear_bit, set_bit}
use Rattle.irqc.specs.Irqc.{source_set}
use Rattle.irqc.proofs.IrqController.set_source.Goals as goal
use Rattle.irqc.proofs.IrqController.set_source.Goals.{else-self-bit-eq0, then-self-bit-eq0}

pub returns-then-number-ge-SOURCE_COUNT : goal.returns-then-number-ge-SOURCE_COUNT
unfolding source_set
returns-then-number-ge-SOURCE_COUNT c = simp (le-ltb _ _ c.if-number-ge-SOURCE_COUNT.true)

pub returns-after-self-bit-eq0 : goal.returns-after-self-bit-eq0
unfolding source_set
returns-after-self-bit-eq0 c =
    let a = c.args in
    let h = c.if-number-ge-SOURCE_COUNT.false in
    let one = one_shifted 16 a.number h in
    let level = a.self.source_level in
    elim c.if-self-bit-eq0.branch [
      | then-self-bit-eq0 w ↦ simp (w.self-is, one, lt-ltb _ _ h, c.if-level.true, clear_bit level a.number (simp one at w.if-self-bit-eq0.true))
      | else-self-bit-eq0 w ↦ simp (w.self-is, one, lt-ltb _ _ h, c.if-level.true, set_bit level a.number (simp one at w.if-self-bit-eq0.false))
    ]

pub returns-else-level : goal.returns-else-level
unfolding source_set
returns-else-level c =
    let h = c.if-number-ge-SOURCE_COUNT.false in
    simp (one_shifted 16 c.args.number h, lt-ltb _ _ h, c.if-level.false)
