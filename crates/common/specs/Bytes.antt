-- Numbers as bytes, high byte first.
--
--   big_endian l == the number whose bytes are l
--   bytes_of n v == the lowest n bytes of v
--   bytes_four   == the four bytes of a word
use Rattle.std.specs.Prelude.{ℕ, zero, suc, ◌+◌, ◌*◌, ◌/◌, ◌%◌, ◌^◌, ◌<◌, ◌≡◌, List, [], ◌∷◌}
use Rattle.std.proofs.Common.{div-one, arith}

-- the number that starts with `high` and goes on with the bytes
abbrev pub joined : ℕ → List ℕ → ℕ
joined high [] = high
joined high (b ∷ l) = joined (high * 256 + b) l

abbrev pub big_endian : List ℕ → ℕ
big_endian l = joined 0 l

unfoldable pub bytes_of : ℕ → ℕ → List ℕ
bytes_of zero v = []
bytes_of (suc n) v = v / 256 ^ n % 256 ∷ bytes_of n v

-- the first byte of a word needs no `% 256`
pub bytes_four : (w : ℕ) → w < 2 ^ 32 → bytes_of 4 w ≡ w / 16777216 ∷ w / 65536 % 256 ∷ w / 256 % 256 ∷ w % 256 ∷ []
unfolding bytes_of
bytes_four w h = let high : w / 256 ^ 3 % 256 ≡ w / 16777216 = omega arith in rw (high, div-one)
