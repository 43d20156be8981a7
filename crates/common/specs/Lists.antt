-- Laws of lists that the kit's libraries do not have.
--
--   map_to f n l  == the first n elements mapped, the others as they were: what a loop that maps an array in place has done
--   map_to_one    == a list whose every element is mapped to x is as many x
--   over_to n l z == the first n elements of l over those of z: what a loop that copies into an array has done
--   Each P l      == every number of the list has the property
--   mapped_length == the length of an array that is a struct's field: owning the struct tells it of the mapped list
use Prim.Native.Nat.{ℕ, zero, suc, ◌+◌, ◌≤◌, ◌<◌}
use Rattle.std.specs.Prelude.{◌≡◌, length, get_or, set, replicate}
use Rattle.std.proofs.Math.Path.{refl, ap}
use Rattle.std.proofs.Common.{sym, ◌∙◌, le_of_suc-le-suc, not-suc-le-zero, add-one, arith}
use mathlib.Core.List.{List, [], ◌∷◌, map}
use Rattle.std.proofs.lemmas.List.{length-map}

unfoldable pub map_to : {A : Type 0} → (A → A) → ℕ → List A → List A
map_to f zero l = l
map_to f (suc n) [] = []
map_to f (suc n) (x ∷ l) = f x ∷ map_to f n l

module _ {A : Type 0} (f : A → A) where
  pub map_to_none : (l : List A) → map_to f 0 l ≡ l
  unfolding map_to
  map_to_none l = refl

  pub map_to_length : (n : ℕ) (l : List A) → length (map_to f n l) ≡ length l
  unfolding map_to
  map_to_length zero l = refl
  map_to_length (suc n) [] = refl
  map_to_length (suc n) (x ∷ l) = ap suc (map_to_length n l)

  pub map_to_all : (n : ℕ) (l : List A) → length l ≤ n → map_to f n l ≡ map f l
  unfolding map_to
  map_to_all zero [] h = refl
  map_to_all zero (x ∷ l) h = absurd (not-suc-le-zero h)
  map_to_all (suc n) [] h = refl
  map_to_all (suc n) (x ∷ l) h = ap (λ (t : List A). f x ∷ t) (map_to_all n l (le_of_suc-le-suc h))

  set_suc : (n : ℕ) (l : List A) (d : A) → n < length l → set (map_to f n l) n (f (get_or (map_to f n l) n d)) ≡ map_to f (suc n) l
  unfolding map_to
  set_suc zero [] d h = absurd (not-suc-le-zero h)
  set_suc zero (x ∷ l) d h = refl
  set_suc (suc n) [] d h = absurd (not-suc-le-zero h)
  set_suc (suc n) (x ∷ l) d h = ap (λ (t : List A). f x ∷ t) (set_suc n l d (le_of_suc-le-suc h))

  -- one turn of the loop, and its end
  pub map_to_next : (l now : List A) (n : ℕ) (d x : A) → n < length l → now ≡ map_to f n l → x ≡ f (get_or now n d) → set now n x ≡ map_to f (n + 1) l
  map_to_next l now n d x h e g = rw (g, e, add-one) (set_suc n l d h)

  pub map_to_done : (l now : List A) (n : ℕ) → length l ≤ n → now ≡ map_to f n l → now ≡ map f l
  map_to_done l now n h e = e ∙ map_to_all n l h

pub map_to_one : {A : Type 0} (x : A) (l : List A) → map (λ (y : A). x) l ≡ replicate (length l) x
map_to_one x [] = refl
map_to_one x (y ∷ l) = ap (λ (t : List _). x ∷ t) (map_to_one x l)

pub mapped_length : {A B : Type 0} (f : A → B) (l : List A) (n : ℕ) → length (map f l) ≡ n → length l ≡ n
mapped_length f l n p = sym (length-map l f) ∙ p

abbrev pub Each : (ℕ → Type 0) → List ℕ → Type 0
Each P [] = Unit {0}
Each P (a ∷ l) = P a × Each P l

pub each_map : (P Q : ℕ → Type 0) → ((a : ℕ) → P a → Q a) → (l : List ℕ) → Each P l → Each Q l
each_map P Q f [] h = tt
each_map P Q f (a ∷ l) h = (f a h.0, each_map P Q f l h.1)

pub each_get_d : (P : ℕ → Type 0) (l : List ℕ) → Each P l → (i : ℕ) → i < length l → P (get_or l i 0)
each_get_d P [] h i g = absurd (omega arith)
each_get_d P (a ∷ l) h zero g = h.0
each_get_d P (a ∷ l) h (suc i) g = each_get_d P l h.1 i (omega arith)

-- the first n elements of one list over those of another: what a loop that copies into an array has done
unfoldable pub over_to : {A : Type 0} → ℕ → List A → List A → List A
over_to zero l z = z
over_to (suc n) [] z = z
over_to (suc n) (x ∷ l) [] = []
over_to (suc n) (x ∷ l) (y ∷ z) = x ∷ over_to n l z

module _ {A : Type 0} where
  pub over_to_none : (l z : List A) → over_to 0 l z ≡ z
  unfolding over_to
  over_to_none l z = refl

  over_suc : (n : ℕ) (l z : List A) (d : A) → n < length l → set (over_to n l z) n (get_or l n d) ≡ over_to (suc n) l z
  unfolding over_to
  over_suc n [] z d h = absurd (not-suc-le-zero h)
  over_suc zero (x ∷ l) [] d h = refl
  over_suc zero (x ∷ l) (y ∷ z) d h = refl
  over_suc (suc n) (x ∷ l) [] d h = refl
  over_suc (suc n) (x ∷ l) (y ∷ z) d h = ap (λ (t : List A). x ∷ t) (over_suc n l z d (le_of_suc-le-suc h))

  over_all : (n : ℕ) (l z : List A) → length l ≤ n → length z ≡ length l → over_to n l z ≡ l
  unfolding over_to
  over_all zero [] [] h e = refl
  over_all zero [] (y ∷ z) h e = absurd (omega arith)
  over_all zero (x ∷ l) z h e = absurd (not-suc-le-zero h)
  over_all (suc n) [] [] h e = refl
  over_all (suc n) [] (y ∷ z) h e = absurd (omega arith)
  over_all (suc n) (x ∷ l) [] h e = absurd (omega arith)
  over_all (suc n) (x ∷ l) (y ∷ z) h e = ap (λ (t : List A). x ∷ t) (over_all n l z (le_of_suc-le-suc h) (omega arith))

  -- one turn of the loop, and its end
  pub over_to_next : (l z now : List A) (n : ℕ) (d x : A) → n < length l → now ≡ over_to n l z → x ≡ get_or l n d → set now n x ≡ over_to (n + 1) l z
  over_to_next l z now n d x h e g = rw (g, e, add-one) (over_suc n l z d h)

  pub over_to_done : (l z now : List A) (n : ℕ) → length l ≤ n → length z ≡ length l → now ≡ over_to n l z → now ≡ l
  over_to_done l z now n h e p = p ∙ over_all n l z h e
