-- One event of a script: document 01, "Events have 12 bytes: kind, size, aux (u16), a, b (u32)", big-endian.
--
--   event_at s at      == the event whose bytes start at place `at` of s; a byte past the end is 0
--   events_from n s at == the n events from place `at` on
--   event_address      == of bytes, an event's address is a 32-bit number
use Rattle.std.specs.Prelude.{◌≡◌, ℕ, zero, suc, ◌+◌, ◌^◌, ◌<◌, List, [], ◌∷◌, slice_index}
use Rattle.std.proofs.Math.Path.{refl}
use Rattle.std.proofs.Common.{arith, lit<}
use Rattle.common.specs.Bytes.{big_endian}
use Rattle.common.specs.Lists.{Each}
use Rattle.script.specs.declared.Event.{Event}

-- byte, half-word and word at place `at + k`
abbrev pub byte_of : List ℕ → ℕ → ℕ → ℕ
byte_of s at k = slice_index s (at + k)

unfoldable pub half_of : List ℕ → ℕ → ℕ → ℕ
half_of s at k = big_endian (byte_of s at k ∷ byte_of s at (k + 1) ∷ [])

unfoldable pub word_of : List ℕ → ℕ → ℕ → ℕ
word_of s at k = big_endian (byte_of s at k ∷ byte_of s at (k + 1) ∷ byte_of s at (k + 2) ∷ byte_of s at (k + 3) ∷ [])

unfoldable pub event_at : List ℕ → ℕ → Event
event_at s at =
    record { kind = byte_of s at 0; size = byte_of s at 1; aux = half_of s at 2; a = word_of s at 4; b = word_of s at 8 }

unfoldable pub events_from : ℕ → List ℕ → ℕ → List Event
events_from zero s at = []
events_from (suc n) s at = event_at s at ∷ events_from n s (at + 12)

module _ (s : List ℕ) (at : ℕ) where
  pub events_none : events_from 0 s at ≡ []
  unfolding events_from
  events_none = refl

  pub events_next : (n : ℕ) → events_from (suc n) s at ≡ event_at s at ∷ events_from n s (at + 12)
  unfolding events_from
  events_next n = refl

byte_small : (s : List ℕ) → Each (λ b. b < 256) s → (i : ℕ) → slice_index s i < 256
byte_small [] h i = lit< tt
byte_small (b ∷ l) h zero = h.0
byte_small (b ∷ l) h (suc i) = byte_small l h.1 i

pub event_address : (s : List ℕ) (at : ℕ) → Each (λ b. b < 256) s → (event_at s at).a < 2 ^ 32
unfolding event_at word_of
event_address s at h =
    omega (arith, byte_small s h (at + 4), byte_small s h (at + (4 + 1)), byte_small s h (at + (4 + 2)), byte_small s h (at + (4 + 3)))
