-- A state as words: a list of numbers of 32 bits, of which parts stand for parts of the state.
--
--   part a n l           == the n words from word a on
--   put a n l new        == the list with that part replaced, as a lent part comes back
--   word_at, on_at l k   == the number in a word, and the truth value in one
--   bit_word b           == the word of a truth value
--   Over n l l' r none P == what a function over n lent words promises: it takes l to l' and answers r with P; where there are not n words they stay,
--                           and it answers `none`
--   Reads n l r none is  == the same of one that only reads: it answers `is`
--
-- A truth value has two words for each of its values and more; a number has one. So every content of the words has a meaning.
use Rattle.std.specs.Prelude.{ℕ, ◌+◌, ◌-◌, ◌%◌, ◌≤◌, ◌<◌, ◌≡◌, refl, Bool, cond, List, ◌++◌, eqb, length, get_or, set, take, drop}
use Rattle.std.proofs.Common.{sym, ap, ◌∙◌, arith, length-append, length-drop, take-append-drop, length-take-le, take_at, drop_at, drop-drop, get_or-take, get_or-drop, drop-set-lt}
use Rattle.std.proofs.lemmas.List.{take-append-le, drop-append-le, take-set-le, drop-set-add}
use Rattle.std.proofs.Math.Seq.{take-set-lt}

abbrev pub part : ℕ → ℕ → List ℕ → List ℕ
part a n l = take n (drop a l)

abbrev pub put : ℕ → ℕ → List ℕ → List ℕ → List ℕ
put a n l new = take a l ++ (new ++ drop n (drop a l))

abbrev pub word_at : List ℕ → ℕ → ℕ
word_at l k = get_or l k 0

-- of a truth value any odd word is true
abbrev pub on_at : List ℕ → ℕ → Bool
on_at l k = eqb (get_or l k 0 % 2) 1

abbrev pub bit_word : Bool → ℕ
bit_word b = cond b 1 0

-- ---- what a function over lent words promises

abbrev pub Over : {R : Type 0} → ℕ → List ℕ → List ℕ → R → R → Type 0 → Type 0
Over n l l' r none P = (length l ≡ n → (length l' ≡ n) × P) × ((length l ≡ n → ⊥) → (l' ≡ l) × (r ≡ none))

abbrev pub Reads : {R : Type 0} → ℕ → List ℕ → R → R → R → Type 0
Reads n l r none is = (length l ≡ n → r ≡ is) × ((length l ≡ n → ⊥) → r ≡ none)

module _ {R : Type 0} (n : ℕ) (l : List ℕ) (r none : R) where
  pub over_none : (P : Type 0) → (length l ≡ n → ⊥) → r ≡ none → Over n l l r none P
  over_none P h e = (λ p. absurd (h p), λ q. (refl, e))

  pub over_all : (l' : List ℕ) (P : Type 0) → length l ≡ n → length l' ≡ length l → P → Over n l l' r none P
  over_all l' P h s p = (λ q. (s ∙ h, p), λ q. absurd (q h))

  pub reads_none : (is : R) → (length l ≡ n → ⊥) → r ≡ none → Reads n l r none is
  reads_none is h e = (λ p. absurd (h p), λ q. e)

  pub reads_all : (is : R) → length l ≡ n → r ≡ is → Reads n l r none is
  reads_all is h e = (λ q. e, λ q. absurd (q h))

pub ruleset overs = (over_none, over_all, reads_none, reads_all)

-- ---- a part

module _ (l : List ℕ) (a n : ℕ) where
  pub part_length : a + n ≤ length l → length (part a n l) ≡ n
  part_length h = length-take-le n (drop a l) (omega (arith, length-drop a l))

  pub part_get : (i : ℕ) → i < n → get_or (part a n l) i 0 ≡ get_or l (a + i) 0
  part_get i h = get_or-take n (drop a l) i 0 h ∙ get_or-drop a l i 0

  pub part_set_in : (i v : ℕ) → i < n → part a n (set l (a + i) v) ≡ set (part a n l) i v
  part_set_in i v h = ap (take n) (drop-set-add a l i v) ∙ take-set-lt n (drop a l) i v h

  pub part_set_below : (k v : ℕ) → k < a → part a n (set l k v) ≡ part a n l
  part_set_below k v h = ap (take n) (drop-set-lt a l k v h)

  pub part_set_above : (k v : ℕ) → a + n ≤ k → part a n (set l k v) ≡ part a n l
  part_set_above k v h =
      let e : k ≡ a + (k - a) = omega arith in
      ap (λ (j : ℕ). take n (drop a (set l j v))) e ∙ ap (take n) (drop-set-add a l (k - a) v) ∙ take-set-le n (drop a l) (k - a) v (omega arith)

-- ---- a part replaced

in_front : (p q : List ℕ) (b m : ℕ) → b + m ≤ length p → part b m (p ++ q) ≡ part b m p
in_front p q b m h =
    ap (take m) (drop-append-le b p q (omega arith)) ∙ take-append-le m (drop b p) q (omega (arith, length-drop b p))

far : (l : List ℕ) (a n b : ℕ) → a + n ≤ b → drop (b - (a + n)) (drop n (drop a l)) ≡ drop b l
far l a n b h =
    let e : a + n + (b - (a + n)) ≡ b = omega arith in
    ap (drop (b - (a + n))) (drop-drop n a l) ∙ drop-drop (b - (a + n)) (a + n) l ∙ ap (λ (k : ℕ). drop k l) e

module _ (l new : List ℕ) (a n : ℕ) (fits : a + n ≤ length l) (same : length new ≡ n) where
  front : length (take a l) ≡ a
  front = length-take-le a l (omega arith)

  pub put_length : length (put a n l new) ≡ length l
  put_length =
      length-append (take a l) (new ++ drop n (drop a l))
      ∙ omega (arith, front, same, length-append new (drop n (drop a l)), length-drop n (drop a l), length-drop a l)

  pub put_same : part a n (put a n l new) ≡ new
  put_same = ap (take n) (drop_at (take a l) (new ++ drop n (drop a l)) a front) ∙ take_at new (drop n (drop a l)) n same

  pub put_below : (b m : ℕ) → b + m ≤ a → part b m (put a n l new) ≡ part b m l
  put_below b m h =
      in_front (take a l) (new ++ drop n (drop a l)) b m (omega (arith, front)) ∙ sym (in_front (take a l) (drop a l) b m (omega (arith, front)))
      ∙ ap (part b m) (take-append-drop a l)

  past : drop n (drop a (put a n l new)) ≡ drop n (drop a l)
  past = ap (drop n) (drop_at (take a l) (new ++ drop n (drop a l)) a front) ∙ drop_at new (drop n (drop a l)) n same

  pub put_above : (b m : ℕ) → a + n ≤ b → part b m (put a n l new) ≡ part b m l
  put_above b m h =
      ap (take m) (sym (far (put a n l new) a n b h) ∙ ap (drop (b - (a + n))) past ∙ far l a n b h)
