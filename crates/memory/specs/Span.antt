-- Halves of lent memory.
--
--   spots n a            == the n addresses from a on
--   half_spots a      == the two addresses of a half
--   Outside base a n l   == of n bytes from address a on one lies outside the lent bytes l
--   BytesAt base a n l b == all are inside, and they are b
use Rattle.std.specs.Prelude.{◌≡◌, ℕ, zero, suc, ◌+◌, ◌-◌, ◌≤◌, ◌<◌, ◌⊎◌, List, [], ◌∷◌, length, take, drop}

abbrev pub spots : ℕ → ℕ → List ℕ
spots zero a = []
spots (suc n) a = a ∷ spots n (a + 1)

abbrev pub half_spots : ℕ → List ℕ
half_spots a = a ∷ (a + 1) ∷ []

abbrev pub Outside : ℕ → ℕ → ℕ → List ℕ → Type 0
Outside base a n l = (a < base) ⊎ ((base ≤ a) × (length l < a - base + n))

pub record BytesAt (base a n : ℕ) (l b : List ℕ) : Type 0 where
  pub above : base ≤ a
  pub inside : a - base + n ≤ length l
  pub same : b ≡ take n (drop (a - base) l)
