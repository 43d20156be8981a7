-- `text::put_bytes` meets its contract. The loop's invariant: the whole text written is what is left of it written from here.
-- Assumes nothing.
use Rattle.std.proofs.Common.{◌≡◌, drop}
use Rattle.text.specs.Text.{written}
use Rattle.text.proofs.put_bytes.Given as goal

abbrev pub invariant-loop-b : goal.invariant-loop-b
invariant-loop-b l =
    written (l.initial.out, l.at) l.text ≡ written (l.out, l.place) (drop l.b-index l.text)
