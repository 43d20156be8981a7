-- A copy: the script's bytes as far as they go, then zeros. Assumes nothing.
use Rattle.std.proofs.Common.{◌≡◌, ℕ, ◌+◌, ◌-◌, ◌<◌, ◌≤◌, List, ◌++◌, length, set, take, drop, replicate, min, sym, ◌∙◌, arith, take_all, length-drop, Option, Some, None, Bor}
use Rattle.std.specs.Option.{IfSome, MatchOption}
use Rattle.std.specs.Array.{IsFirstChunk}
use Rattle.std.specs.Prelude.{slice_index}
use Rattle.common.specs.Lists.{over_to, over_to_next, over_to_done}
use Rattle.script.specs.Image.{bytes_from}
use Rattle.script.specs.Image.Laws.{bytes_length, bytes_get_d, bytes_inside, bytes_padded}

module _ (s : List ℕ) where
  rest_is : (start : ℕ) → take (length s - start) (drop start s) ≡ drop start s
  rest_is start = take_all (length s - start) (drop start s) (omega (arith, length-drop start s))

  pub copied : (mem : List ℕ) (at start n : ℕ) (image zeros back : List ℕ) → start ≡ min at (length s)
      → n ≡ min (length (take (length s - start) (drop start s))) (length mem) → image ≡ take n (take (length s - start) (drop start s))
      → zeros ≡ replicate (length back) 0 → back ≡ drop n mem → image ++ zeros ≡ bytes_from s at (length mem)
  copied mem at start n image zeros back e f g h b =
      let f' : n ≡ min (length (drop start s)) (length mem) = rw (rest_is start) at f in
      let m : n + length (drop n mem) ≡ length mem = omega (arith, length-drop n mem) in
      rw (g, h, b, rest_is start)
      (bytes_padded s at start n (length (drop n mem)) e (omega (arith, length-drop start s)) (λ p. omega (arith, length-drop start s, length-drop n mem)) ∙ rw m)

  -- byte by byte
  module _ (at n : ℕ) (z t : List ℕ) (i : ℕ) (p : t ≡ over_to i (bytes_from s at n) z) where
    pub padded_next : (x : ℕ) → i < n → x ≡ slice_index s (at + i) → set t i x ≡ over_to (i + 1) (bytes_from s at n) z
    padded_next x h e = over_to_next (bytes_from s at n) z t i 0 x (omega (arith, bytes_length s at n)) p (e ∙ sym (bytes_get_d s at n i h))

    pub padded_done : n ≤ i → length z ≡ n → t ≡ bytes_from s at n
    padded_done h k = over_to_done (bytes_from s at n) z t i (omega (arith, bytes_length s at n)) (k ∙ sym (bytes_length s at n)) p

  pub first_bytes : (r : Option (Bor (List ℕ))) (rest : List ℕ) (at : ℕ) → MatchOption r (length rest < 12) (λ y. IsFirstChunk rest y.now 12)
      → rest ≡ take (length s - at) (drop at s) → IfSome r (λ b. (at + 12 ≤ length s) × (b.now ≡ bytes_from s at 12))
  first_bytes None rest at h e = tt
  first_bytes (Some b) rest at h e =
      let f : rest ≡ drop at s = e ∙ rest_is at in
      let g : 12 ≤ length (drop at s) = rw f at h.enough in
      let k : at + 12 ≤ length s = omega (arith, length-drop at s) in
      (k, h.same ∙ rw f (sym (bytes_inside s at 12 k)))
