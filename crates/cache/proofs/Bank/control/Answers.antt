-- `cache::Bank::control` meets its contract, in each of the four ways through its two strobes. Assumes nothing.
use Rattle.std.proofs.Common.{ap, ◌∙◌}
use Rattle.cache.specs.Bank.{stats_cleared}
use Rattle.cache.proofs.Banks.{control_both, control_drop, control_clear, control_none}
use Rattle.cache.proofs.Bank.control.Goals as goal
use Rattle.cache.proofs.Bank.control.Goals.{then-invalidate, else-invalidate}

pub returns-then-clear : goal.returns-then-clear
returns-then-clear c =
    let a = c.args in
    let x = c.set_enabled-bank in
    let z = c.clear_stats-bank in
    elim c.if-invalidate.branch [
      | then-invalidate w ↦
          control_both a.self x.result a.enabled a.invalidate a.clear x.ensures c.if-invalidate.bank z.result w.if-invalidate.true
          (w.bank-is ∙ w.invalidate_all-bank.ensures) c.if-clear.true z.ensures
      | else-invalidate w ↦
          control_clear a.self x.result a.enabled a.invalidate a.clear x.ensures z.result w.if-invalidate.false c.if-clear.true
          (z.ensures ∙ ap stats_cleared w.bank-is)
    ]

pub returns-else-clear : goal.returns-else-clear
returns-else-clear c =
    let a = c.args in
    let x = c.set_enabled-bank in
    elim c.if-invalidate.branch [
      | then-invalidate w ↦
          control_drop a.self x.result a.enabled a.invalidate a.clear x.ensures c.if-invalidate.bank w.if-invalidate.true
          (w.bank-is ∙ w.invalidate_all-bank.ensures) c.if-clear.false
      | else-invalidate w ↦ w.bank-is ∙ control_none a.self x.result a.enabled a.invalidate a.clear x.ensures w.if-invalidate.false c.if-clear.false
    ]
