-- Lent memory byte by byte, as a loop reads or writes it, and the four bytes of a word. Assumes nothing.
--
--   read_on m high l                                == the number that starts with `high` and goes on with the bytes at l
--   read_whole, read_none, read_value, read_outside == a read, byte by byte
--   byte_small                                      == a byte of a list of bytes is below 256
--   put_none, put_next                              == a write, byte by byte
--   writable_none, writable_next                    == that every address is writable, one by one
--   put_four, read_four                             == a word's four bytes, written and read
use Rattle.std.specs.Prelude.{ℕ, ◌+◌, ◌-◌, ◌*◌, ◌<◌, ◌≡◌, true, ◌&&◌, List, [], ◌∷◌, map, get_or, Option, Some, None}
use Rattle.std.proofs.Math.Path.{refl}
use Rattle.common.specs.Bytes.{big_endian}
use Rattle.common.specs.Cases.{cond_case, absurd_eq}
use Rattle.memory.specs.Memory.{Memory, readable, writable, byte_at, gathered, read_at, word_spots, put_byte, put_at, all_writable}

abbrev pub read_on : Memory → ℕ → List ℕ → Option ℕ
read_on m high l = gathered high (map (byte_at m) l)

pub read_whole : (m : Memory) (l : List ℕ) → read_at m l ≡ read_on m 0 l
unfolding read_at
read_whole m l = refl

module _ (m : Memory) (high : ℕ) where
  pub read_none : read_on m high [] ≡ Some high
  unfolding gathered
  read_none = refl

  pub read_value : (a b : ℕ) (l : List ℕ) → byte_at m a ≡ Some b → read_on m high (a ∷ l) ≡ read_on m (high * 256 + b) l
  unfolding gathered
  read_value a b l e = rw e

  pub read_outside : (a : ℕ) (l : List ℕ) → byte_at m a ≡ None → read_on m high (a ∷ l) ≡ None
  unfolding gathered
  read_outside a l e = rw e

pub byte_small : (m : Memory) (a b : ℕ) → ((i : ℕ) → get_or m.bytes i 0 < 256) → byte_at m a ≡ Some b → b < 256
unfolding byte_at
byte_small m a b h =
    cond_case (λ (x : Option ℕ). x ≡ Some b → b < 256) (readable m a)
    (λ t e. let q : get_or m.bytes (a - m.base) 0 ≡ b = cc in rw q at (h (a - m.base)))
    (λ t e. absurd_eq (cc))

pub put_none : (m : Memory) (bs : List ℕ) → put_at m [] bs ≡ m
unfolding put_at
put_none m bs = refl

pub put_next : (m : Memory) (a b : ℕ) (l bs : List ℕ) → put_at m (a ∷ l) (b ∷ bs) ≡ put_at (put_byte m a b) l bs
unfolding put_at
put_next m a b l bs = refl

pub writable_none : (m : Memory) → all_writable m [] ≡ true
unfolding all_writable
writable_none m = refl

pub writable_next : (m : Memory) (a : ℕ) (l : List ℕ) → all_writable m (a ∷ l) ≡ (writable m a && all_writable m l)
unfolding all_writable
writable_next m a l = refl

-- ---- a word

pub put_four : (m : Memory) (a b₀ b₁ b₂ b₃ : ℕ)
    → put_at m (word_spots a) (b₀ ∷ b₁ ∷ b₂ ∷ b₃ ∷ []) ≡ put_byte (put_byte (put_byte (put_byte m a b₀) (a + 1) b₁) (a + 2) b₂) (a + 3) b₃
unfolding put_at
put_four m a b₀ b₁ b₂ b₃ = refl

pub read_four : (m : Memory) (a b₀ b₁ b₂ b₃ : ℕ) → byte_at m a ≡ Some b₀ → byte_at m (a + 1) ≡ Some b₁ → byte_at m (a + 2) ≡ Some b₂ → byte_at m (a + 3) ≡ Some b₃
    → read_at m (word_spots a) ≡ Some (big_endian (b₀ ∷ b₁ ∷ b₂ ∷ b₃ ∷ []))
unfolding read_at gathered
read_four m a b₀ b₁ b₂ b₃ p q r s = rw (p, q, r, s)
