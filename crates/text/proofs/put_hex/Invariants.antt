-- `text::put_hex` meets its contract. The loop's invariant: all digits written are the k that are left written from here.
-- Assumes nothing.
use Rattle.std.proofs.Common.{◌≡◌}
use Rattle.text.specs.Text.{written, hex_of}
use Rattle.text.proofs.put_hex.Given as goal

abbrev pub invariant-loop-k : goal.invariant-loop-k
invariant-loop-k l =
    written (l.initial.out, l.at) (hex_of l.digits l.v) ≡ written (l.out, l.place) (hex_of l.k l.v)
