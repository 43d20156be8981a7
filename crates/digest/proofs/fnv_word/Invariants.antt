-- `digest::fnv_word` meets its contract. The loop's invariant: the digest of the four bytes is that of what is left, from here.
-- Assumes nothing.
use Rattle.std.proofs.Common.{◌≡◌, drop}
use Rattle.digest.specs.Digest.{fnv_bytes}
use Rattle.digest.proofs.fnv_word.Given as goal

abbrev pub invariant-loop-b : goal.invariant-loop-b
invariant-loop-b l =
    fnv_bytes l.h l.b-items ≡ fnv_bytes l.sum (drop l.b-index l.b-items)
