-- Halves and words by their place in the lent slice, as the code tests it. Assumes nothing.
use Rattle.std.specs.Prelude.{Option, Some, None, Bool}
use Rattle.std.specs.Int.{to_be_bytes, w16, w32}
use Rattle.std.proofs.Common.{◌≡◌, ℕ, zero, suc, ◌+◌, ◌-◌, ◌/◌, ◌%◌, ◌≤◌, ◌<◌, true, false, List, [], ◌∷◌, ◌++◌, length, get_or, set, take, drop, refl, sym, ap, ◌∙◌, ⊎_elim, arith, div-one, lit<, length-set, append_assoc, take-append-drop, drop-set-lt, drop-drop, drop-cons}
use Rattle.std.proofs.lemmas.Grind.{take-set_at}
use Rattle.common.specs.Bytes.{big_endian, bytes_of}
use Rattle.common.specs.Cases.{and_false}
use Rattle.memory.specs.Memory.{Memory, lent, byte_at, gathered, read_at, word_spots, put_byte, put_at, all_writable}
use Rattle.memory.specs.Memory.Laws.{put_in, put_base}
use Rattle.memory.specs.Span.{spots, half_spots, Outside, BytesAt}
use Rattle.memory.proofs.Places.{byte_below, byte_inside, byte_above, put_below, put_inside, put_above, byte_of, first_of}

-- ---- the three ways through `read_half`

second_outside : (c : Option ℕ) → gathered 0 (c ∷ None ∷ []) ≡ None
unfolding gathered
second_outside None = refl
second_outside (Some b) = refl

module _ (base : ℕ) (l : List ℕ) (a : ℕ) where
  pub half_below : a < base → None ≡ read_at (lent base l) (half_spots a)
  unfolding read_at gathered
  half_below h = rw (← (byte_below base l a h))

  pub half_above : base ≤ a → length l ≤ a - base + 1 → None ≡ read_at (lent base l) (half_spots a)
  unfolding read_at
  half_above h g = rw (← (byte_above base l (a + 1) (omega arith) (omega arith))) (sym (second_outside (byte_at (lent base l) a)))

  pub half_inside : (w : ℕ) → base ≤ a → a - base + 1 < length l → w ≡ big_endian (get_or l (a - base) 0 ∷ get_or l (a - base + 1) 0 ∷ [])
      → Some w ≡ read_at (lent base l) (half_spots a)
  unfolding read_at gathered
  half_inside w h g e =
      let next : a + 1 - base ≡ a - base + 1 = omega arith in
      rw (← (byte_inside base l a h (omega arith)), ← (byte_inside base l (a + 1) (omega arith) (omega arith)), next, e)

module _ (base a : ℕ) (l : List ℕ) where
  pub half_missing : Outside base a 2 l → None ≡ read_at (lent base l) (half_spots a)
  half_missing = ⊎_elim (λ h. half_below base l a h) (λ h. half_above base l a h.0 (omega (arith, h.1)))

  pub half_read : (b : List ℕ) (r : ℕ) → BytesAt base a 2 l b → r ≡ big_endian (get_or b 0 0 ∷ get_or b 1 0 ∷ []) → Some r ≡ read_at (lent base l) (half_spots a)
  half_read b r w e =
      let z = first_of base a 2 l b w (lit< tt) in
      let one = byte_of base a 2 l b w 1 (lit< tt) in
      half_inside base l a r w.above (omega (arith, w.inside)) (e ∙ omega (arith, z, one))

-- ---- bytes inside the map

module _ (base : ℕ) where
  at_place : (l : List ℕ) (a p b : ℕ) → base ≤ a → p ≡ a - base → p < length l → put_byte (lent base l) a b ≡ lent base (set l p b)
  at_place l a p b h e g = rw e (put_in (lent base l) a b (sym (put_inside base l a b h (rw e at g)).0))

  pub run_put : (bs l : List ℕ) (a p : ℕ) → base ≤ a → p ≡ a - base → p + length bs ≤ length l
      → take p l ++ (bs ++ drop (p + length bs) l) ≡ (put_at (lent base l) (spots (length bs) a) bs).bytes
  unfolding put_at
  run_put [] l a p h e g = let none : p + 0 ≡ p = omega arith in rw none (take-append-drop p l)
  run_put (b ∷ bs) l a p h e g =
      let n : length (set l p b) ≡ length l = length-set l p b in
      let rest : p + suc (length bs) ≡ p + 1 + length bs = omega arith in
      let next = run_put bs (set l p b) (a + 1) (p + 1) (omega arith) (omega arith) (omega arith) in
      let left : take p l ++ (b ∷ bs ++ drop (p + suc (length bs)) l) ≡ (take p l ++ b ∷ []) ++ (bs ++ drop (p + 1 + length bs) l) =
      rw rest (sym (append_assoc (take p l) (b ∷ []) (bs ++ drop (p + 1 + length bs) l))) in
      left ∙ rw (take-set_at l p (p + 1) b refl (omega arith), drop-set-lt (p + 1 + length bs) l p b (omega arith)) at next
      ∙ ap (λ (m : Memory). (put_at m (spots (length bs) (a + 1)) bs).bytes) (sym (at_place l a p b h e (omega arith)))

  pub run_written : (bs new l : List ℕ) (a n : ℕ) → base ≤ a → a - base + n ≤ length l → length bs ≡ n → new ≡ bs
      → take (a - base) l ++ (new ++ drop (a - base + n - (a - base)) (drop (a - base) l)) ≡ (put_at (lent base l) (spots n a) bs).bytes
  run_written bs new l a n h g long e =
      let k : a - base + n - (a - base) ≡ length bs = omega arith in
      rw (e, k, ← long, drop-drop (length bs) (a - base) l) (run_put bs l a (a - base) h refl (omega arith))

  pub run_all : (n : ℕ) (l : List ℕ) (a : ℕ) → base ≤ a → a - base + n ≤ length l → true ≡ all_writable (lent base l) (spots n a)
  unfolding all_writable
  run_all zero l a h g = refl
  run_all (suc n) l a h g = rw (← (put_inside base l a 0 h (omega arith)).0) (run_all n l (a + 1) (omega arith) (omega arith))

  pub run_below : (n : ℕ) (l : List ℕ) (a : ℕ) → 0 < n → a < base → false ≡ all_writable (lent base l) (spots n a)
  unfolding all_writable
  run_below zero l a h g = absurd (omega arith)
  run_below (suc n) l a h g = rw (← (put_below base l a 0 g).0)

  pub run_above : (n : ℕ) (l : List ℕ) (a : ℕ) → base ≤ a → 0 < n → length l < a - base + n → false ≡ all_writable (lent base l) (spots n a)
  unfolding all_writable
  run_above zero l a h g k = absurd (omega arith)
  run_above (suc zero) l a h g k = rw (← (put_above base l a 0 h (omega arith)).0)
  run_above (suc (suc n)) l a h g k = rw (← (run_above (suc n) l (a + 1) (omega arith) (omega arith) (omega arith)), and_false)

-- ---- bytes written one after the other, each where it is in the map

-- the written bytes, lent again
lent_again : (base : ℕ) (m : Memory) (l : List ℕ) → m.base ≡ base → l ≡ m.bytes → lent base l ≡ m
lent_again base m l e p = rw (p, ← e)

module _ (base : ℕ) (whole bs l : List ℕ) (n i a : ℕ) (long : length bs ≡ n) (p : whole ≡ (put_at (lent base l) (spots (n - i) (a + i)) (drop i bs)).bytes) where
  pub apart_next : (l' : List ℕ) → i < n → l' ≡ (put_byte (lent base l) (a + i) (get_or bs i 0)).bytes
      → whole ≡ (put_at (lent base l') (spots (n - (i + 1)) (a + (i + 1))) (drop (i + 1) bs)).bytes
  unfolding put_at
  apart_next l' h e =
      let left : n - i ≡ suc (n - (i + 1)) = omega arith in
      let next : a + i + 1 ≡ a + (i + 1) = omega arith in
      let one : suc i ≡ i + 1 = omega arith in
      rw (left, drop-cons bs i 0 (omega arith), one, next) at p
      ∙ ap (λ (m : Memory). (put_at m (spots (n - (i + 1)) (a + (i + 1))) (drop (i + 1) bs)).bytes)
      (sym (lent_again base (put_byte (lent base l) (a + i) (get_or bs i 0)) l' (put_base _ (a + i) _) e))

  pub apart_done : n ≤ i → l ≡ whole
  unfolding put_at
  apart_done h = let none : n - i ≡ 0 = omega arith in sym (rw none at p)

-- ---- a half and a word

module _ (m : Memory) (a v : ℕ) (r : Bool) (l bs : List ℕ) where
  pub half_written : r ≡ all_writable m (spots 2 a) → l ≡ (put_at m (spots 2 a) bs).bytes → bs ≡ to_be_bytes w16 (v % 65536)
      → (r ≡ all_writable m (half_spots a)) × (l ≡ (put_at m (half_spots a) (bytes_of 2 v)).bytes)
  unfolding bytes_of
  half_written p q e =
      let high : v % 65536 / 256 % 256 ≡ v / 256 % 256 = omega arith in
      let low : v % 65536 % 256 ≡ v % 256 = omega arith in
      (p, q ∙ rw (e, high, low, div-one))

  pub word_written : r ≡ all_writable m (spots 4 a) → l ≡ (put_at m (spots 4 a) bs).bytes → bs ≡ to_be_bytes w32 v
      → (r ≡ all_writable m (word_spots a)) × (l ≡ (put_at m (word_spots a) (bytes_of 4 v)).bytes)
  unfolding bytes_of
  word_written p q e =
      let two : a + 1 + 1 ≡ a + 2 = omega arith in
      let three : a + 2 + 1 ≡ a + 3 = omega arith in
      (rw (two, three) at p, rw (two, three) at q ∙ rw (e, div-one))
