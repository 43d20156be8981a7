-- The laws of an image's bytes. Assumes nothing.
--
--   bytes_none   == none of them
--   bytes_length == there are as many as asked for
--   bytes_get_d  == byte k is the script's byte at place `at + k`
--   bytes_last   == one byte more
--   bytes_inside == within the script they are its bytes as they stand there
--   bytes_past   == where they lie behind its end they are zeros
--   bytes_joined == some of them and then the others
--   bytes_padded == its bytes as far as they go, then zeros
use Rattle.std.specs.Prelude.{◌≡◌, ℕ, zero, suc, ◌+◌, ◌-◌, ◌<◌, ◌≤◌, List, [], ◌∷◌, ◌++◌, length, take, drop, replicate, min, slice_index}
use Rattle.std.proofs.Common.{refl, ap, sym, ◌∙◌, add-zero, zero-add, arith, drop-cons}
use Rattle.std.proofs.lemmas.List.{get_or_past}
use Rattle.script.specs.Image.{bytes_from}

module _ (s : List ℕ) where
  pub bytes_none : (at : ℕ) → bytes_from s at 0 ≡ []
  unfolding bytes_from
  bytes_none at = refl

  pub bytes_length : (at n : ℕ) → length (bytes_from s at n) ≡ n
  unfolding bytes_from
  bytes_length at zero = refl
  bytes_length at (suc n) = ap suc (bytes_length (suc at) n)

  pub bytes_get_d : (at n k : ℕ) → k < n → slice_index (bytes_from s at n) k ≡ slice_index s (at + k)
  unfolding bytes_from
  bytes_get_d at zero k h = absurd (omega arith)
  bytes_get_d at (suc n) zero h = rw (add-zero at)
  bytes_get_d at (suc n) (suc k) h = let e : suc at + k ≡ at + suc k = omega arith in bytes_get_d (suc at) n k (omega arith) ∙ rw e

  pub bytes_last : (at n : ℕ) → bytes_from s at (suc n) ≡ bytes_from s at n ++ slice_index s (at + n) ∷ []
  unfolding bytes_from
  bytes_last at zero = rw (add-zero at)
  bytes_last at (suc n) = let e : suc at + n ≡ at + suc n = omega arith in ap (λ (l : List ℕ). slice_index s at ∷ l) (bytes_last (suc at) n ∙ rw e)

  pub bytes_inside : (at n : ℕ) → at + n ≤ length s → bytes_from s at n ≡ take n (drop at s)
  unfolding bytes_from
  bytes_inside at zero h = refl
  bytes_inside at (suc n) h =
      rw (drop-cons s at 0 (omega arith)) (ap (λ (l : List ℕ). slice_index s at ∷ l) (bytes_inside (suc at) n (omega arith)))

  pub bytes_past : (at n : ℕ) → (0 < n → length s ≤ at) → bytes_from s at n ≡ replicate n 0
  unfolding bytes_from
  bytes_past at zero h = refl
  bytes_past at (suc n) h =
      let g : length s ≤ at = h (omega arith) in
      rw (get_or_past s at 0 g) (ap (λ (l : List ℕ). 0 ∷ l) (bytes_past (suc at) n (λ _. omega arith)))

  pub bytes_joined : (at n k : ℕ) → bytes_from s at (n + k) ≡ bytes_from s at n ++ bytes_from s (at + n) k
  unfolding bytes_from
  bytes_joined at zero k = rw (add-zero at, zero-add k)
  bytes_joined at (suc n) k =
      let e : suc at + n ≡ at + suc n = omega arith in
      let f : suc n + k ≡ suc (n + k) = omega arith in
      rw f (ap (λ (l : List ℕ). slice_index s at ∷ l) (bytes_joined (suc at) n k ∙ rw e))

  pub bytes_padded : (at start n k : ℕ) → start ≡ min at (length s) → n ≤ length s - start → (0 < k → length s ≤ start + n)
      → take n (drop start s) ++ replicate k 0 ≡ bytes_from s at (n + k)
  bytes_padded at start zero k e h g = rw (zero-add k) (sym (bytes_past at k (λ p. omega (arith, g p))))
  bytes_padded at start (suc n) k e h g =
      let f : start ≡ at = omega arith in
      rw (f, bytes_joined at (suc n) k, bytes_inside at (suc n) (omega arith), bytes_past (at + suc n) k (λ p. omega (arith, g p)))
