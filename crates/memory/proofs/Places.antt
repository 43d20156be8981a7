-- An address by its place in the lent slice, as the code tests it. Assumes nothing.
use Rattle.std.specs.Prelude.{Option, Some, None}
use Rattle.std.proofs.lemmas.Bool.{lt-leb}
use Rattle.std.proofs.Common.{◌≡◌, ℕ, ◌+◌, ◌-◌, ◌*◌, ◌%◌, ◌≤◌, ◌<◌, true, false, List, [], ◌∷◌, ◌++◌, leb, length, get_or, set, drop, refl, sym, ◌∙◌, ⊎_elim, add-zero, arith, lit<, get_or-take, get_or-drop, le-leb, lt-ltb, le-ltb, eq-eqb, ne_eqb}
use Rattle.common.specs.Bytes.{big_endian}
use Rattle.memory.specs.Memory.{lent, good_map, inside, byte_at, gathered, read_at, word_spots, put_byte}
use Rattle.memory.specs.Span.{Outside, BytesAt}

module _ (base : ℕ) (l : List ℕ) (a : ℕ) where
  is_below : a < base → inside (lent base l) a ≡ false
  unfolding inside
  is_below h = rw (lt-leb base a h)

  is_inside : base ≤ a → a - base < length l → inside (lent base l) a ≡ true
  unfolding inside
  is_inside h g = rw (le-leb base a h, lt-ltb (a - base) (length l) g)

  is_above : base ≤ a → length l ≤ a - base → inside (lent base l) a ≡ false
  unfolding inside
  is_above h g = rw (le-leb base a h, le-ltb (a - base) (length l) g)

  -- the three ways through `read_byte`
  pub byte_below : a < base → None ≡ byte_at (lent base l) a
  unfolding byte_at
  byte_below h = rw (is_below h)

  pub byte_inside : base ≤ a → a - base < length l → Some (get_or l (a - base) 0) ≡ byte_at (lent base l) a
  unfolding byte_at
  byte_inside h g = rw (is_inside h g)

  pub byte_above : base ≤ a → length l ≤ a - base → None ≡ byte_at (lent base l) a
  unfolding byte_at
  byte_above h g = rw (is_above h g)

  -- the three ways through `put_byte`
  pub put_below : (b : ℕ) → a < base → (false ≡ inside (lent base l) a) × (l ≡ (put_byte (lent base l) a b).bytes)
  unfolding put_byte
  put_below b h = rw (is_below h) (refl, refl)

  pub put_inside : (b : ℕ) → base ≤ a → a - base < length l → (true ≡ inside (lent base l) a) × (set l (a - base) b ≡ (put_byte (lent base l) a b).bytes)
  unfolding put_byte
  put_inside b h g = rw (is_inside h g) (refl, refl)

  pub put_above : (b : ℕ) → base ≤ a → length l ≤ a - base → (false ≡ inside (lent base l) a) × (l ≡ (put_byte (lent base l) a b).bytes)
  unfolding put_byte
  put_above b h g = rw (is_above h g) (refl, refl)

-- one byte that is missing at the end makes the whole unreadable
last_outside : (l : List (Option ℕ)) (high : ℕ) → gathered high (l ++ None ∷ []) ≡ None
unfolding gathered
last_outside [] high = refl
last_outside (None ∷ l) high = refl
last_outside (Some b ∷ l) high = last_outside l (high * 256 + b)

-- the three ways through `read_word`
module _ (base : ℕ) (l : List ℕ) (a : ℕ) where
  pub word_below : a < base → None ≡ read_at (lent base l) (word_spots a)
  unfolding read_at gathered
  word_below h = rw (← (byte_below base l a h))

  pub word_above : base ≤ a → length l ≤ a - base + 3 → None ≡ read_at (lent base l) (word_spots a)
  unfolding read_at
  word_above h g =
      rw (← (byte_above base l (a + 3) (omega arith) (omega arith)))
      (sym (last_outside (byte_at (lent base l) a ∷ byte_at (lent base l) (a + 1) ∷ byte_at (lent base l) (a + 2) ∷ []) 0))

  byte_next : (k : ℕ) → base ≤ a → a - base + k < length l → byte_at (lent base l) (a + k) ≡ Some (get_or l (a - base + k) 0)
  byte_next k h g =
      let e : a + k - base ≡ a - base + k = omega arith in
      sym (rw e at (byte_inside base l (a + k) (omega arith) (omega arith)))

  pub word_inside : (w : ℕ) → base ≤ a → a - base + 3 < length l
      → w ≡ big_endian (get_or l (a - base) 0 ∷ get_or l (a - base + 1) 0 ∷ get_or l (a - base + 2) 0 ∷ get_or l (a - base + 3) 0 ∷ []) → Some w ≡ read_at (lent base l) (word_spots a)
  unfolding read_at gathered
  word_inside w h g e = rw (← (byte_inside base l a h (omega arith)), byte_next 1 h (omega arith), byte_next 2 h (omega arith), byte_next 3 h g, e)

-- ---- what is read of the bytes that `bytes_at` answers

module _ (base a n : ℕ) (l b : List ℕ) (w : BytesAt base a n l b) where
  pub byte_of : (i : ℕ) → i < n → get_or b i 0 ≡ get_or l (a - base + i) 0
  byte_of i h = rw w.same (get_or-take n (drop (a - base) l) i 0 h ∙ get_or-drop (a - base) l i 0)

  pub first_of : 0 < n → get_or b 0 0 ≡ get_or l (a - base) 0
  first_of h = rw add-zero at (byte_of 0 h)

module _ (base a : ℕ) (l : List ℕ) where
  pub byte_missing : Outside base a 1 l → None ≡ byte_at (lent base l) a
  byte_missing = ⊎_elim (λ h. byte_below base l a h) (λ h. byte_above base l a h.0 (omega (arith, h.1)))

  pub byte_read : (b : List ℕ) (r : ℕ) → BytesAt base a 1 l b → r ≡ get_or b 0 0 → Some r ≡ byte_at (lent base l) a
  byte_read b r w e = rw (e, first_of base a 1 l b w (lit< tt)) (byte_inside base l a w.above (omega (arith, w.inside)))

  pub word_missing : Outside base a 4 l → None ≡ read_at (lent base l) (word_spots a)
  word_missing = ⊎_elim (λ h. word_below base l a h) (λ h. word_above base l a h.0 (omega (arith, h.1)))

  pub word_read : (b : List ℕ) (r : ℕ) → BytesAt base a 4 l b → r ≡ big_endian (get_or b 0 0 ∷ get_or b 1 0 ∷ get_or b 2 0 ∷ get_or b 3 0 ∷ []) → Some r ≡ read_at (lent base l) (word_spots a)
  word_read b r w e =
      let f = byte_of base a 4 l b w in
      let z = first_of base a 4 l b w (lit< tt) in
      let one = f 1 (lit< tt) in
      let two = f 2 (lit< tt) in
      let three = f 3 (lit< tt) in
      word_inside base l a r w.above (omega (arith, w.inside)) (e ∙ omega (arith, z, one, two, three))

-- the four ways through `good_range`
module _ (base n : ℕ) where
  pub map_base : (base % 4096 ≡ 0 → ⊥) → false ≡ good_map base n
  unfolding good_map
  map_base h = rw (ne_eqb (base % 4096) 0 h)

  pub map_length : base % 4096 ≡ 0 → (n % 4096 ≡ 0 → ⊥) → false ≡ good_map base n
  unfolding good_map
  map_length h g = rw (eq-eqb (base % 4096) 0 h, ne_eqb (n % 4096) 0 g)

  pub map_long : base % 4096 ≡ 0 → n % 4096 ≡ 0 → 0xFFFF_0000 < n → false ≡ good_map base n
  unfolding good_map
  map_long h g k = rw (eq-eqb (base % 4096) 0 h, eq-eqb (n % 4096) 0 g, lt-leb (base + n) 0xFFFF_0000 (omega arith))

  pub map_end : base % 4096 ≡ 0 → n % 4096 ≡ 0 → leb (base + n) 0xFFFF_0000 ≡ good_map base n
  unfolding good_map
  map_end h g = rw (eq-eqb (base % 4096) 0 h, eq-eqb (n % 4096) 0 g)
