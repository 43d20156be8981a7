-- One bit of a word, and a word with bits set or cleared.
--
--   bit_set x i          == bit i of x is set
--   with_bit x i         == x with bit i set
--   without_bits w x m   == x, a word of w bits, with the bits of m cleared
--   without_bit w x i    == x, a word of w bits, with bit i cleared
--
-- A test is written by `/` and `%`, so that it computes on numerals and is linear arithmetic. The words are written by
-- the machine's own `&` and `|`, so that a reader can hold them against the Rust. `Laws` ties the two together.
use Rattle.std.specs.Prelude.{ℕ, ◌-◌, ◌/◌, ◌%◌, ◌^◌, Bool, eqb}
use Rattle.std.specs.Int.Bits.{bit_and, bit_or}
pub mod Laws

unfoldable pub bit_set : ℕ → ℕ → Bool
bit_set x i = eqb (x / 2 ^ i % 2) 1

abbrev pub with_bit : ℕ → ℕ → ℕ
with_bit x i = bit_or x (2 ^ i)

abbrev pub without_bits : ℕ → ℕ → ℕ → ℕ
without_bits w x mask = bit_and x ((2 ^ w - 1) - mask)

abbrev pub without_bit : ℕ → ℕ → ℕ → ℕ
without_bit w x i = without_bits w x (2 ^ i)
