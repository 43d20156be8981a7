-- `machine::flat::run::run` meets its contract. The loop's invariant: the whole run is what is left of it from here, on the machine of the
-- words. Assumes nothing.
use Rattle.std.proofs.Common.{sym, refl, ◌∙◌, arith, rules}
use Rattle.machine.proofs.Runs.{going_first, words_next, words_end, words_none, event_here}
use Rattle.machine.proofs.flat.run.run.Goals as goal

pub returns-then-state-ne-STATE_WORDS : goal.returns-then-state-ne-STATE_WORDS
returns-then-state-ne-STATE_WORDS c = search (words_none, rules)

pub loop-k-init : goal.loop-k-init
loop-k-init c =
    (going_first _ _ _ _ _ _ _ _ _ c.new-totals.ensures, refl, refl, search rules, search rules, omega arith, refl, search rules)

pub overflow_add-from : goal.overflow_add-from
overflow_add-from c =
    let step = c in
    let test = step in
    let inv = test.loop-k.invariant in
    record { fits = omega (arith, test.loop-k-test.true, inv.3, inv.4, inv.5) }

pub loop-k-preserved : goal.loop-k-preserved
loop-k-preserved c =
    let step = c in
    let test = step in
    let inv = test.loop-k.invariant in
    let long = inv.6 ∙ inv.7 in (
      words_next _ _ _ _ _ _ _ _ _ _ _ _ inv.0 _ _ _ _ _ _ _ long test.loop-k-test.true (event_here _ _ _ _ _ step.event_of.ensures inv.5) step.step-line.ensures c.put_line-place.ensures c.add-totals.ensures,
      search (rules, step.step-line.auto, inv.1),
      search (rules, c.put_line-place.auto, inv.2),
      inv.3,
      inv.4,
      omega (arith, inv.5),
      (step.step-line.ensures.0 long).0 ∙ sym inv.7,
      inv.7,
    )

pub returns : goal.returns
returns c =
    let test = c in
    let inv = test.loop-k.invariant in
    words_end _ _ _ _ _ _ _ _ _ _ _ _ _ _ inv.0 (search rules) test.loop-k-test.false inv.7 inv.6 _ _ c.put_end.ensures
