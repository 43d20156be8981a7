-- `text::decimal_digits` meets its contract. The loop's invariant: the digits that stand, with those of `rest` still to come before
-- them, are the whole number's. Assumes nothing.
use Rattle.std.proofs.Common.{rules}
use Rattle.text.specs.Text.Laws.{decimal_next}
use Rattle.text.proofs.Digits.{decimal_start, decimal_lent, decimal_whole}
use Rattle.text.proofs.decimal_digits.Goals as goal

pub loop-first-init : goal.loop-first-init
loop-first-init c = (search (decimal_start, rules), search rules, search rules)

pub loop-first-preserved : goal.loop-first-preserved
loop-first-preserved c = (search decimal_next, search rules, search rules)

pub returns : goal.returns
returns c = search decimal_whole

pub returns-then-rest-lt10 : goal.returns-then-rest-lt10
returns-then-rest-lt10 c = search decimal_lent
