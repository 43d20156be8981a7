-- `irqc::IrqController::set_source_levels` meets its contract: setting the sources that change is setting all of the mask's, and
-- where none changes nothing does. Assumes nothing.
use Rattle.std.proofs.Common.{ℕ, sym, ap, ◌∙◌, arith, lit≤, bit_and}
use Rattle.irqc.specs.Irqc.{each_set}
use Rattle.irqc.proofs.Sources.{none_changed, changed_is}
use Rattle.irqc.proofs.IrqController.set_source_levels.Goals as goal

pub returns-then-changed-eq0 : goal.returns-then-changed-eq0
returns-then-changed-eq0 c =
    let a = c.args in
    let on = bit_and a.levels a.mask in
    sym (none_changed a.self on 16)
    ∙ ap (λ (m : ℕ). each_set a.self m on 16) (sym c.if-changed-eq0.true)
    ∙ changed_is a.self a.mask a.levels 16 (omega arith, omega arith, omega arith) (lit≤ tt)

pub returns : goal.returns
returns c =
    let a = c.args in
    c.set_changed_source_levels.ensures ∙ changed_is a.self a.mask a.levels 16 (omega arith, omega arith, omega arith) (lit≤ tt)
