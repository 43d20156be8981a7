-- Lent memory: document 01's stand-in for the bus. Everything that depends on memory goes through `byte_at`.
--
--   Memory                 == the lent bytes and the physical address of the first
--   good_map base n        == base and length are multiples of 4,096 and base + length is at most 0xFFFF0000, as a true sum
--   byte_at m a            == the byte at physical address a, None outside the map
--   read_at m l            == the number whose bytes, high byte first, stand at the addresses l; None if one of them is outside
--   inside m a             == a is in the map
--   readable, writable m a == a byte can be read there, or written
--   put_byte m a b         == m with b at a, where a is writable
--   put_at m l bs          == m with the bytes bs at the addresses l, one after the other
--   all_writable m l       == every address of l is writable
--
-- Reads and writes are over a list of addresses: where an access's addresses come from is the question of the parts above.
-- A second, read-only memory would change `Memory`, `readable`, `byte_at` and `map_gate`, and none of what is said through them.
use Rattle.std.specs.Prelude.{ℕ, ◌+◌, ◌-◌, ◌*◌, ◌%◌, Bool, true, cond, ◌&&◌, List, [], ◌∷◌, map, leb, ltb, eqb, length, get_or, set, Option, Some, None}
pub mod Laws
pub mod Bytewise

pub record Memory : Type 0 where
  pub base : ℕ
  pub bytes : List ℕ

abbrev pub lent : ℕ → List ℕ → Memory
lent base bytes = record { base = base; bytes = bytes }

unfoldable pub good_map : ℕ → ℕ → Bool
good_map base n = eqb (base % 4096) 0 && eqb (n % 4096) 0 && leb (base + n) 0xFFFF_0000

unfoldable pub inside : Memory → ℕ → Bool
inside m a = leb m.base a && ltb (a - m.base) (length m.bytes)

-- one memory, all of it for reading and writing
abbrev pub readable : Memory → ℕ → Bool
readable m a = inside m a

abbrev pub writable : Memory → ℕ → Bool
writable m a = inside m a

unfoldable pub byte_at : Memory → ℕ → Option ℕ
byte_at m a = cond (readable m a) (Some (get_or m.bytes (a - m.base) 0)) None

-- the bytes go on after `high`; one that is missing makes the whole unreadable
unfoldable pub gathered : ℕ → List (Option ℕ) → Option ℕ
gathered high [] = Some high
gathered high (None ∷ l) = None
gathered high (Some b ∷ l) = gathered (high * 256 + b) l

unfoldable pub read_at : Memory → List ℕ → Option ℕ
read_at m l = gathered 0 (map (byte_at m) l)

-- the four addresses of a word
abbrev pub word_spots : ℕ → List ℕ
word_spots a = a ∷ (a + 1) ∷ (a + 2) ∷ (a + 3) ∷ []

unfoldable pub put_byte : Memory → ℕ → ℕ → Memory
put_byte m a b = cond (writable m a) (lent m.base (set m.bytes (a - m.base) b)) m

unfoldable pub put_at : Memory → List ℕ → List ℕ → Memory
put_at m [] bs = m
put_at m (a ∷ l) [] = m
put_at m (a ∷ l) (b ∷ bs) = put_at (put_byte m a b) l bs

unfoldable pub all_writable : Memory → List ℕ → Bool
all_writable m [] = true
all_writable m (a ∷ l) = writable m a && all_writable m l
