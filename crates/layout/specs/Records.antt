-- Records that lie one after the other in words, each of the same number of words.
--
--   records_of f k n l == the n records of the words l, each made by f of its k words
--   records_get        == record i of them is f of its own words
--   records_set        == a word set in record i sets that record and no other
use Prim.Native.Nat.{ℕ, zero, suc, ◌+◌, ◌*◌, ◌<◌}
use Rattle.std.specs.Prelude.{◌≡◌, length, get_or, set, take}
use Rattle.std.proofs.Math.Path.{refl, ap}
use Rattle.std.proofs.Common.{◌∙◌, le_of_suc-le-suc, not-suc-le-zero}
use mathlib.Core.List.{List, [], ◌∷◌}
use native.Mathlib.Omega.{arith}
use Rattle.std.proofs.Math.ListN.{drop}
use Rattle.std.proofs.Math.Seq.{drop-drop, take-set-lt, take-set-le, drop-set-lt, drop-set-add}
use Rattle.layout.specs.Words.{part}

unfoldable pub records_of : {A : Type 0} → (List ℕ → A) → ℕ → ℕ → List ℕ → List A
records_of f k zero l = []
records_of f k (suc n) l = f (take k l) ∷ records_of f k n (drop k l)

module _ {A : Type 0} (f : List ℕ → A) (k : ℕ) where
  pub records_length : (n : ℕ) (l : List ℕ) → length (records_of f k n l) ≡ n
  unfolding records_of
  records_length zero l = refl
  records_length (suc n) l = ap suc (records_length n (drop k l))

  pub records_get : (n : ℕ) (l : List ℕ) (i : ℕ) (d : A) → i < n → get_or (records_of f k n l) i d ≡ f (part (k * i) k l)
  unfolding records_of
  records_get zero l i d h = absurd (not-suc-le-zero h)
  records_get (suc n) l zero d h = let z : k * 0 ≡ 0 = omega arith in rw z
  records_get (suc n) l (suc i) d h =
      let e : k + k * i ≡ k * suc i = omega arith in
      records_get n (drop k l) i d (le_of_suc-le-suc h) ∙ ap (λ (t : List ℕ). f (take k t)) (drop-drop (k * i) k l ∙ ap (λ (j : ℕ). drop j l) e)

  pub records_set : (n : ℕ) (l : List ℕ) (i j v : ℕ) → i < n → j < k → records_of f k n (set l (k * i + j) v) ≡ set (records_of f k n l) i (f (set (part (k * i) k l) j v))
  unfolding records_of
  records_set zero l i j v h b = absurd (not-suc-le-zero h)
  records_set (suc n) l zero j v h b =
      let z : k * 0 ≡ 0 = omega arith in
      let y : k * 0 + j ≡ j = omega (arith, z) in
      rw (y, z, take-set-lt k l j v b, drop-set-lt k l j v b)
  records_set (suc n) l (suc i) j v h b =
      let e : k * suc i + j ≡ k + (k * i + j) = omega arith in
      let g : k + k * i ≡ k * suc i = omega arith in
      rw (
        e,
        drop-set-add k l (k * i + j) v,
        take-set-le k l (k + (k * i + j)) v (omega arith),
        records_set n (drop k l) i j v (le_of_suc-le-suc h) b,
        drop-drop (k * i) k l,
        g,
      )
