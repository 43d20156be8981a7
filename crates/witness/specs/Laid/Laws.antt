-- The laws of a memory that is given by its words. Assumes nothing.
--
--   as_read w                == a word as it is read: what passes 32 bits is dropped
--   byte_in l a, word_in l i == the byte at a, and word i, of the words l; 0 where l has none
--   content_in p l a         == the byte at a of p pages
--   laid_good, laid_inside   == the map
--   laid_byte, laid_read     == a byte, and what is read, computed from the list alone
--   laid_word                == a word that is read is word i of the list
--   each_word                == what holds of 0 and of every word of a list holds of word i
--   laid_other, laid_write   == a byte off the first word of the list; a word written
use Rattle.std.specs.Prelude.{ℕ, zero, suc, ◌+◌, ◌-◌, ◌*◌, ◌/◌, ◌%◌, ◌^◌, ◌<◌, ◌≡◌, refl, Bool, true, false, cond, List, [], ◌∷◌, map, ◌⊎◌, ◌≢◌, eqb, ltb, leb, length, get_or, replicate, Option, Some, None, Ok}
use Rattle.std.proofs.Common.{sym, ap, ◌∙◌, inl, inr, arith, lit<, eq-eqb, ne_eqb, eqb-true, lt-ltb, ltb-true, le-leb, leb-true}
use Rattle.std.proofs.Math.Decide.{ℕ_discrete}
use Rattle.std.proofs.lemmas.List.{length-replicate, get_or-replicate}
use Rattle.common.specs.Bytes.{big_endian, bytes_of}
use Rattle.common.specs.Cases.{absurd_eq, bool_is, cond_case}
use Rattle.memory.specs.Gate.{map_gate}
use Rattle.memory.specs.Gate.Laws.{map_open}
use Rattle.memory.specs.Memory.{Memory, lent, inside, byte_at, gathered, read_at, put_byte, put_at, word_spots}
use Rattle.memory.specs.Memory.Laws.{SameMap, good_map_is, byte_inside, byte_outside, put_here, put_other, write_map, write_other, over}
use Rattle.witness.specs.Laid.{Word, laid}

abbrev pub as_read : ℕ → ℕ
as_read w = big_endian (bytes_of 4 w)

unfoldable pub byte_in : List Word → ℕ → ℕ
byte_in [] a = 0
byte_in (w ∷ l) a = cond (eqb (a / 4) w.0) (get_or (bytes_of 4 w.1) (a % 4) 0) (byte_in l a)

unfoldable pub word_in : List Word → ℕ → ℕ
word_in [] i = 0
word_in (w ∷ l) i = cond (eqb i w.0) (as_read w.1) (word_in l i)

unfoldable pub content_in : ℕ → List Word → ℕ → Option ℕ
content_in p l a = cond (ltb a (p * 4096)) (Some (byte_in l a)) None

-- ---- the map

to_blank : (p : ℕ) (l : List Word) → SameMap (laid p l) (lent 0 (replicate (p * 4096) 0))
unfolding laid
to_blank p [] = record { base = refl; size = refl }
to_blank p (w ∷ l) =
    let here = write_map (laid p l) (word_spots (w.0 * 4)) (bytes_of 4 w.1) in
    let rest = to_blank p l in
    record { base = here.base ∙ rest.base; size = here.size ∙ rest.size }

laid_base : (p : ℕ) (l : List Word) → (laid p l).base ≡ 0
laid_base p l = (to_blank p l).base

laid_size : (p : ℕ) (l : List Word) → length (laid p l).bytes ≡ p * 4096
laid_size p l = (to_blank p l).size ∙ length-replicate {A = ℕ} (p * 4096) 0

pub laid_map : (p : ℕ) (l l' : List Word) → SameMap (laid p l) (laid p l')
laid_map p l l' = record { base = laid_base p l ∙ sym (laid_base p l'); size = laid_size p l ∙ sym (laid_size p l') }

pub laid_inside : (p : ℕ) (l : List Word) (a : ℕ) → inside (laid p l) a ≡ ltb a (p * 4096)
unfolding inside
laid_inside p l a =
    let none : a - 0 ≡ a = omega arith in
    rw (laid_base p l, laid_size p l, le-leb 0 a (omega arith), none)

pub laid_good : (p : ℕ) (l : List Word) → leb p 0xFFFF0 ≡ true → map_gate (laid p l) ≡ Ok tt
laid_good p l h =
    let low = leb-true p 0xFFFF0 h in
    map_open (laid p l)
    (good_map_is (laid p l).base _ ∙ rw (laid_base p l, laid_size p l, eq-eqb (p * 4096 % 4096) 0 (omega arith)) (le-leb (0 + p * 4096) 0xFFFF_0000 (omega arith)))

-- ---- a byte

-- one byte written
put_byte_lem : (m : Memory) (b v a x : ℕ) → byte_at m a ≡ Some x → byte_at (put_byte m b v) a ≡ Some (cond (eqb a b) v x)
put_byte_lem m b v a x h = by_place (ℕ_discrete a b)
  where
    by_place : Dec (a ≡ b) → byte_at (put_byte m b v) a ≡ Some (cond (eqb a b) v x)
    by_place (yes e) = rw (eq-eqb a b e, e) (put_here m b v ∙ ap (over v) (rw e at h))
    by_place (no n) = rw (ne_eqb a b n) (put_other m b v a n ∙ h)

-- which of four bytes stands at place r
picked : (r v₀ v₁ v₂ v₃ x : ℕ) → r < 4
    → cond (eqb r 3) v₃ (cond (eqb r 2) v₂ (cond (eqb r 1) v₁ (cond (eqb r 0) v₀ x))) ≡ get_or (v₀ ∷ v₁ ∷ v₂ ∷ v₃ ∷ []) r 0
picked zero v₀ v₁ v₂ v₃ x h = refl
picked (suc zero) v₀ v₁ v₂ v₃ x h = refl
picked (suc (suc zero)) v₀ v₁ v₂ v₃ x h = refl
picked (suc (suc (suc zero))) v₀ v₁ v₂ v₃ x h = refl
picked (suc (suc (suc (suc r)))) v₀ v₁ v₂ v₃ x h = absurd (omega arith)

-- in its own word a byte's address is told apart by its place alone
place_test : (a i k : ℕ) → a / 4 ≡ i → k < 4 → eqb a (i * 4 + k) ≡ eqb (a % 4) k
place_test a i k h g = by_place (ℕ_discrete (a % 4) k)
  where
    by_place : Dec (a % 4 ≡ k) → eqb a (i * 4 + k) ≡ eqb (a % 4) k
    by_place (yes e) = eq-eqb a (i * 4 + k) (omega arith) ∙ sym (eq-eqb (a % 4) k e)
    by_place (no n) = ne_eqb a (i * 4 + k) (λ e. n (omega arith)) ∙ sym (ne_eqb (a % 4) k n)

module _ (m : Memory) (i v₀ v₁ v₂ v₃ : ℕ) where
  abbrev put_word : Memory
  put_word = put_byte (put_byte (put_byte (put_byte m (i * 4) v₀) (i * 4 + 1) v₁) (i * 4 + 2) v₂) (i * 4 + 3) v₃

  put_four : (a x : ℕ) → byte_at m a ≡ Some x
      → byte_at put_word a ≡ Some (cond (eqb a (i * 4 + 3)) v₃ (cond (eqb a (i * 4 + 2)) v₂ (cond (eqb a (i * 4 + 1)) v₁ (cond (eqb a (i * 4)) v₀ x))))
  put_four a x h =
      put_byte_lem _ (i * 4 + 3) v₃ a _ (put_byte_lem _ (i * 4 + 2) v₂ a _ (put_byte_lem _ (i * 4 + 1) v₁ a _ (put_byte_lem m (i * 4) v₀ a x h)))

  put_word_lem : (a x : ℕ) → byte_at m a ≡ Some x → byte_at put_word a ≡ Some (cond (eqb (a / 4) i) (get_or (v₀ ∷ v₁ ∷ v₂ ∷ v₃ ∷ []) (a % 4) 0) x)
  put_word_lem a x h = by_word (ℕ_discrete (a / 4) i)
    where
      by_word : Dec (a / 4 ≡ i) → byte_at put_word a ≡ Some (cond (eqb (a / 4) i) (get_or (v₀ ∷ v₁ ∷ v₂ ∷ v₃ ∷ []) (a % 4) 0) x)
      by_word (yes e) =
          let start : i * 4 + 0 ≡ i * 4 = omega arith in
          let first : eqb a (i * 4) ≡ eqb (a % 4) 0 = rw start at (place_test a i 0 e (lit< tt)) in
          rw (eq-eqb (a / 4) i e)
          (put_four a x h ∙ rw (place_test a i 3 e (lit< tt), place_test a i 2 e (lit< tt), place_test a i 1 e (lit< tt), first)
          (ap Some (picked (a % 4) v₀ v₁ v₂ v₃ x (omega arith))))
      by_word (no n) =
          let off : (k : ℕ) → k < 4 → eqb a (i * 4 + k) ≡ false = λ k g. ne_eqb a (i * 4 + k) (λ e. n (omega arith)) in
          rw (ne_eqb (a / 4) i n)
          (put_four a x h ∙ rw (off 3 (lit< tt), off 2 (lit< tt), off 1 (lit< tt), ne_eqb a (i * 4) (λ e. n (omega arith))))

value_laid : (p : ℕ) (l : List Word) (a : ℕ) → a < p * 4096 → byte_at (laid p l) a ≡ Some (byte_in l a)
unfolding laid byte_in put_at bytes_of
value_laid p [] a h =
    let none : a - 0 ≡ a = omega arith in
    byte_inside (laid p []) a (laid_inside p [] a ∙ lt-ltb a (p * 4096) h) ∙ rw none (ap Some (get_or-replicate {A = ℕ} (p * 4096) a 0 0 h))
value_laid p (w ∷ l) a h = put_word_lem (laid p l) w.0 _ _ _ _ a (byte_in l a) (value_laid p l a h)

pub laid_byte : (p : ℕ) (l : List Word) (a : ℕ) → byte_at (laid p l) a ≡ content_in p l a
unfolding content_in
laid_byte p l a =
    cond_case (λ (c : Option ℕ). byte_at (laid p l) a ≡ c) (ltb a (p * 4096))
    (λ t. value_laid p l a (ltb-true a (p * 4096) t))
    (λ t. byte_outside (laid p l) a (laid_inside p l a ∙ t))

pub laid_other : (p i v : ℕ) (l : List Word) (a : ℕ) → a / 4 ≢ i → byte_at (laid p ((i, v) ∷ l)) a ≡ byte_at (laid p l) a
unfolding laid
laid_other p i v l a n =
    write_other (laid p l) (word_spots (i * 4)) (bytes_of 4 v) a
    ((λ e. n (omega arith)), ((λ e. n (omega arith)), ((λ e. n (omega arith)), ((λ e. n (omega arith)), tt))))

pub laid_write : (p i v : ℕ) (l : List Word) → put_at (laid p l) (word_spots (i * 4)) (bytes_of 4 v) ≡ laid p ((i, v) ∷ l)
unfolding laid
laid_write p i v l = refl

-- ---- what is read

map_laid : (p : ℕ) (l : List Word) (s : List ℕ) → map (byte_at (laid p l)) s ≡ map (content_in p l) s
map_laid p l [] = refl
map_laid p l (a ∷ s) = rw (laid_byte p l a, map_laid p l s)

pub laid_read : (p : ℕ) (l : List Word) (s : List ℕ) → read_at (laid p l) s ≡ gathered 0 (map (content_in p l) s)
unfolding read_at
laid_read p l s = ap (gathered 0) (map_laid p l s)

-- ---- a word

-- the bytes of word i
abbrev four_of : List Word → ℕ → List ℕ
four_of l i = byte_in l (i * 4) ∷ byte_in l (i * 4 + 1) ∷ byte_in l (i * 4 + 2) ∷ byte_in l (i * 4 + 3) ∷ []

word_bytes : (l : List Word) (i : ℕ) → big_endian (four_of l i) ≡ word_in l i
unfolding byte_in word_in bytes_of
word_bytes [] i = refl
word_bytes (w ∷ l) i =
    let q₀ : i * 4 / 4 ≡ i = omega arith in
    let q₁ : (i * 4 + 1) / 4 ≡ i = omega arith in
    let q₂ : (i * 4 + 2) / 4 ≡ i = omega arith in
    let q₃ : (i * 4 + 3) / 4 ≡ i = omega arith in
    let r₀ : i * 4 % 4 ≡ 0 = omega arith in
    let r₁ : (i * 4 + 1) % 4 ≡ 1 = omega arith in
    let r₂ : (i * 4 + 2) % 4 ≡ 2 = omega arith in
    let r₃ : (i * 4 + 3) % 4 ≡ 3 = omega arith in
    rw (q₀, q₁, q₂, q₃, r₀, r₁, r₂, r₃) (by_number (eqb i w.0) (w.1 / 256 ^ 3 % 256) (w.1 / 256 ^ 2 % 256) (w.1 / 256 ^ 1 % 256) (w.1 / 256 ^ 0 % 256) (word_bytes l i))
  where
    by_number : (t : Bool) (v₀ v₁ v₂ v₃ : ℕ) → big_endian (four_of l i) ≡ word_in l i
        → big_endian (cond t v₀ (byte_in l (i * 4)) ∷ cond t v₁ (byte_in l (i * 4 + 1)) ∷ cond t v₂ (byte_in l (i * 4 + 2)) ∷ cond t v₃ (byte_in l (i * 4 + 3)) ∷ [])
        ≡ cond t (big_endian (v₀ ∷ v₁ ∷ v₂ ∷ v₃ ∷ [])) (word_in l i)
    by_number true v₀ v₁ v₂ v₃ ih = refl
    by_number false v₀ v₁ v₂ v₃ ih = ih

pub laid_word : (p : ℕ) (l : List Word) (i w : ℕ) → read_at (laid p l) (word_spots (i * 4)) ≡ Some w → w ≡ word_in l i
unfolding content_in gathered
laid_word p l i w h = by_place (bool_is (ltb (i * 4) (p * 4096))) (sym (laid_read p l (word_spots (i * 4))) ∙ h)
  where
    by_place : (ltb (i * 4) (p * 4096) ≡ true) ⊎ (ltb (i * 4) (p * 4096) ≡ false) → gathered 0 (map (content_in p l) (word_spots (i * 4))) ≡ Some w → w ≡ word_in l i
    by_place (inl t) g =
        let n = ltb-true (i * 4) (p * 4096) t in
        let read = rw (t, lt-ltb (i * 4 + 1) (p * 4096) (omega arith), lt-ltb (i * 4 + 2) (p * 4096) (omega arith), lt-ltb (i * 4 + 3) (p * 4096) (omega arith)) at g in
        (let s : big_endian (four_of l i) ≡ w = cc in sym s) ∙ word_bytes l i
    by_place (inr f) g = absurd_eq (let none = rw f at g in cc)

-- every word of the list, as it is read, has the property
abbrev pub EachWord : (ℕ → ℕ → Type 0) → List Word → Type 0
EachWord P [] = Unit {0}
EachWord P (w ∷ l) = P w.0 (as_read w.1) × EachWord P l

pub each_word : (P : ℕ → ℕ → Type 0) → ((i : ℕ) → P i 0) → (l : List Word) → EachWord P l → (i : ℕ) → P i (word_in l i)
unfolding word_in
each_word P z [] h i = z i
each_word P z (w ∷ l) h i =
    cond_case (P i) (eqb i w.0)
    (λ e. rw (eqb-true i w.0 e) h.0)
    (λ e. each_word P z l h.1 i)
