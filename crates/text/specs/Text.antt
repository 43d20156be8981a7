-- Text as a list of bytes, and what a buffer holds after text was written into it.
--
--   hex_of k v             == the lowest k hexadecimal digits of v, a word of 32 bits, upper case, the highest of them first
--   decimal_of v           == v in decimal with no leading zeros; a number of 64 bits has at most twenty digits
--   written (out, at) text == the buffer with the text from place `at` on, and the next place; what has no room is left out
use Rattle.std.specs.Prelude.{ℕ, zero, suc, ◌+◌, ◌*◌, ◌/◌, ◌%◌, ◌^◌, cond, List, [], ◌∷◌, ltb, length, set}
pub mod Laws

-- '0' to '9', then 'A' to 'F'
abbrev pub hex_byte : ℕ → ℕ
hex_byte n = cond (ltb n 10) (48 + n) (55 + n)

-- digit k of v, counted from the lowest
unfoldable pub hex_digit : ℕ → ℕ → ℕ
hex_digit v k = hex_byte (v / 2 ^ (4 * k) % 16)

unfoldable pub hex_of : ℕ → ℕ → List ℕ
hex_of zero v = []
hex_of (suc k) v = hex_digit v k ∷ hex_of k v

-- '0' to '9'
abbrev pub decimal_byte : ℕ → ℕ
decimal_byte n = 48 + n % 10

-- the digits of v, at most k of them, before the text
unfoldable pub decimal_before : ℕ → ℕ → List ℕ → List ℕ
decimal_before zero v text = text
decimal_before (suc k) v text = cond (ltb v 10) (decimal_byte v ∷ text) (decimal_before k (v / 10) (decimal_byte v ∷ text))

abbrev pub decimal_of : ℕ → List ℕ
decimal_of v = decimal_before 20 v []

-- one byte, where there is room
unfoldable pub put : List ℕ × ℕ → ℕ → List ℕ × ℕ
put (out, at) b = cond (ltb at (length out)) (set out at b, at + 1) (out, at)

unfoldable pub written : List ℕ × ℕ → List ℕ → List ℕ × ℕ
written w [] = w
written w (b ∷ text) = written (put w b) text
