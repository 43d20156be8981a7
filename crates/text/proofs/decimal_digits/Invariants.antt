-- `text::decimal_digits` meets its contract. The loop's invariant: the digits that stand, with those of `rest` still to come before
-- them, are the whole number's. Assumes nothing.
use Rattle.std.proofs.Common.{◌≡◌, ◌≤◌, length, drop}
use Rattle.text.specs.Text.{decimal_of, decimal_before}
use Rattle.text.proofs.decimal_digits.Given as goal

abbrev pub invariant-loop-first : goal.invariant-loop-first
invariant-loop-first l =
    (decimal_of l.v ≡ decimal_before l.first l.rest (drop l.first l.bytes)) × (l.first ≤ 20) × (length l.bytes ≡ 20)
