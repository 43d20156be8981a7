-- The data of an access, given where its bytes are: a row of bytes in its first page and, over two pages, a row in the second.
--
--   room_of a               == the bytes from a to the end of its page
--   next_page a             == the address after the last of a's page
--   place_of a pa pb i      == where byte i of an access at a is, if its first byte is at pa and the second page's first at pb
--   places_by at i n        == where n bytes are, from byte i on, if byte i is at `at i`
--   rows_of a n pa pb       == where the bytes of an access of n bytes at a are
--   Stands answers at       == what answers where byte i is answers `at i`
--
-- The addresses of a row go on without wrapping; a page's bytes lie in one row, so for an access that was checked none passes 32 bits.
use Rattle.std.specs.Prelude.{◌≡◌, ◌<◌, ℕ, zero, suc, ◌+◌, ◌-◌, ◌%◌, ◌^◌, cond, List, [], ◌∷◌, nat_lt}
pub mod Laws

abbrev pub room_of : ℕ → ℕ
room_of a = 4096 - a % 4096

-- "Addresses step modulo 2^32"
abbrev pub next_page : ℕ → ℕ
next_page a = (a + room_of a) % 2 ^ 32

unfoldable pub place_of : ℕ → ℕ → ℕ → ℕ → ℕ
place_of a pa pb i = cond (nat_lt i (room_of a)) (pa + i) (pb + (i - room_of a))

unfoldable pub places_by : (ℕ → ℕ) → ℕ → ℕ → List ℕ
places_by at i zero = []
places_by at i (suc n) = at i ∷ places_by at (i + 1) n

abbrev pub rows_of : ℕ → ℕ → ℕ → ℕ → List ℕ
rows_of a n pa pb = places_by (place_of a pa pb) 0 n

-- what answers byte i's place answers `at i`, of an access's four bytes at most
abbrev pub Stands : (ℕ → ℕ → Type 0) → (ℕ → ℕ) → Type 0
Stands answers at = (i r : ℕ) → i < 4 → answers i r → r ≡ at i
