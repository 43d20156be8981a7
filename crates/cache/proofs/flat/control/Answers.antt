-- `cache::flat::control` meets its contract, in each of the four ways through its two strobes. Assumes nothing.
use Rattle.std.proofs.Common.{ap, ◌∙◌}
use Rattle.cache.specs.Bank.{stats_cleared}
use Rattle.cache.specs.Flat.{bank_at}
use Rattle.cache.proofs.Banks.{control_both, control_drop, control_clear, control_none}
use Rattle.cache.proofs.flat.control.Goals as goal
use Rattle.cache.proofs.flat.control.Goals.{then-invalidate, else-invalidate}

pub returns-then-clear : goal.returns-then-clear
returns-then-clear c =
    let a = c.args in
    let b = bank_at a.bank.now in
    let x = bank_at c.set_enabled.new.bank in
    let z = c.clear_stats in
    elim c.if-invalidate.branch [
      | then-invalidate w ↦
          control_both b x a.enabled a.invalidate a.clear c.set_enabled.ensures (bank_at c.if-invalidate.bank) (bank_at z.new.bank) w.if-invalidate.true
          (ap bank_at w.bank-is ∙ w.invalidate_all.ensures) c.if-clear.true z.ensures
      | else-invalidate w ↦
          control_clear b x a.enabled a.invalidate a.clear c.set_enabled.ensures (bank_at z.new.bank) w.if-invalidate.false c.if-clear.true
          (z.ensures ∙ ap stats_cleared (ap bank_at w.bank-is))
    ]

pub returns-else-clear : goal.returns-else-clear
returns-else-clear c =
    let a = c.args in
    let b = bank_at a.bank.now in
    let x = bank_at c.set_enabled.new.bank in
    elim c.if-invalidate.branch [
      | then-invalidate w ↦
          control_drop b x a.enabled a.invalidate a.clear c.set_enabled.ensures (bank_at c.if-invalidate.bank) w.if-invalidate.true
          (ap bank_at w.bank-is ∙ w.invalidate_all.ensures) c.if-clear.false
      | else-invalidate w ↦
          ap bank_at w.bank-is ∙ control_none b x a.enabled a.invalidate a.clear c.set_enabled.ensures w.if-invalidate.false c.if-clear.false
    ]
