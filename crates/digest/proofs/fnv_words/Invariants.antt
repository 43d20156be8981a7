-- `digest::fnv_words` meets its contract. The loop's invariant: the digest of the whole is that of what is left, from here.
-- Assumes nothing.
use Rattle.std.proofs.Common.{◌≡◌, drop}
use Rattle.digest.specs.Digest.{fnv_words}
use Rattle.digest.proofs.fnv_words.Given as goal

abbrev pub invariant-loop-w : goal.invariant-loop-w
invariant-loop-w l =
    fnv_words l.h l.words ≡ fnv_words l.sum (drop l.w-index l.words)
