-- The laws of written text. Assumes nothing.
--
--   written_append   == a text after another is written where that ended
--   written_length   == the buffer keeps its length
--   written_in       == a place within the buffer stays within it
--   written_full     == text at or past the end changes nothing
--   written_fits     == where there is room for all of it, the text stands there and the place is after it
--   hex_length       == as many digits as asked for
--   hex_eight        == the eight digits of a word
--   decimal_length   == at most twenty digits
--   decimal_below    == a number below 10^k has at most k digits
--   decimal_step     == the lowest digit, and the digits before it
use Rattle.std.specs.Prelude.{ℕ, zero, suc, ◌+◌, ◌-◌, ◌*◌, ◌/◌, ◌%◌, ◌^◌, ◌≤◌, ◌<◌, ◌≡◌, refl, cond, List, [], ◌∷◌, ◌++◌, ltb, length, get_or, set, take, drop}
use Rattle.std.proofs.Common.{arith, sym, ap, ap₂, ◌∙◌, add-zero, lt_of_lt_of_le, pow-suc, add-one, pow_mono, length-set, length-drop, drop_of_length-le, take_all, drop-cons, drop-set-lt, get_or-set_same, lt-length-set, lt-ltb, le-ltb, ltb-true, ltb-false}
use Rattle.std.proofs.Math.Nat.{div-eq_of_lt}
use Rattle.std.proofs.lemmas.List.Edits.{sets}
use Rattle.common.specs.Cases.{cond_holds, cond_case}
use Rattle.text.specs.Text.{put, written, hex_byte, hex_digit, hex_of, decimal_byte, decimal_before, decimal_of}

pub written_append : (w : List ℕ × ℕ) (s t : List ℕ) → written w (s ++ t) ≡ written (written w s) t
unfolding written
written_append w [] t = refl
written_append w (b ∷ s) t = written_append (put w b) s t

put_length : (out : List ℕ) (at b : ℕ) → length (put (out, at) b).0 ≡ length out
unfolding put
put_length out at b =
    cond_holds (λ (w : List ℕ × ℕ). length w.0 ≡ length out) (ltb at (length out)) (length-set out at b) refl

pub written_length : (w : List ℕ × ℕ) (text : List ℕ) → length (written w text).0 ≡ length w.0
unfolding written
written_length w [] = refl
written_length w (b ∷ text) = written_length (put w b) text ∙ put_length w.0 w.1 b

pub written_full : (out : List ℕ) (at : ℕ) (text : List ℕ) → length out ≤ at → (out, at) ≡ written (out, at) text
unfolding written put
written_full out at [] h = refl
written_full out at (b ∷ text) h = rw (le-ltb at (length out) h) (written_full out at text h)

pub written_fits : (out : List ℕ) (at : ℕ) (text : List ℕ) → at + length text ≤ length out
    → written (out, at) text ≡ (sets out at text, at + length text)
unfolding written put
written_fits out at [] h = ap (λ (n : ℕ). (out, n)) (sym (add-zero at))
written_fits out at (b ∷ text) h =
    rw (lt-ltb at (length out) (omega arith))
    (written_fits (set out at b) (at + 1) text (omega (arith, length-set out at b))
    ∙ rw add-one (ap (λ (n : ℕ). (sets (set out at b) (suc at) text, n)) (omega arith)))

-- one byte more of a text that is written byte by byte, and none left
pub written_next : (z : List ℕ × ℕ) (out : List ℕ) (at : ℕ) (text : List ℕ) (k : ℕ) (out' : List ℕ) (at' : ℕ) → k < length text
    → z ≡ written (out, at) (drop k text) → (out', at') ≡ written (out, at) (get_or text k 0 ∷ []) → z ≡ written (out', at') (drop (k + 1) text)
unfolding written
written_next z out at text k out' at' h p q = p ∙ rw (drop-cons text k 0 h, add-one) (ap (λ (w : List ℕ × ℕ). written w (drop (suc k) text)) (sym q))

pub written_done : (z : List ℕ × ℕ) (out : List ℕ) (at : ℕ) (text : List ℕ) (k : ℕ) → length text ≤ k
    → z ≡ written (out, at) (drop k text) → (out, at) ≡ z
unfolding written
written_done z out at text k h p = sym (p ∙ rw (drop_of_length-le text h))

-- what was written keeps the buffer's length
pub same_room : (out : List ℕ) (at : ℕ) (text out' : List ℕ) (at' n : ℕ) → (out', at') ≡ written (out, at) text → length out ≡ n → length out' ≡ n
same_room out at text out' at' n e h = ap (λ (w : List ℕ × ℕ). length w.0) e ∙ written_length (out, at) text ∙ h

-- one hexadecimal digit more, and none left
pub hex_next : (z : List ℕ × ℕ) (out : List ℕ) (at v k b : ℕ) (out' : List ℕ) (at' : ℕ) → 0 < k → z ≡ written (out, at) (hex_of k v)
    → b ≡ hex_digit v (k - 1) → (out', at') ≡ written (out, at) (b ∷ []) → z ≡ written (out', at') (hex_of (k - 1) v)
unfolding written hex_of
hex_next z out at v k b out' at' h p d q =
    let e : k ≡ suc (k - 1) = omega arith in
    (rw e at p) ∙ rw (← d) (ap (λ (w : List ℕ × ℕ). written w (hex_of (k - 1) v)) (sym q))

pub hex_done : (z : List ℕ × ℕ) (out : List ℕ) (at v k : ℕ) → k ≤ 0 → z ≡ written (out, at) (hex_of k v) → (out, at) ≡ z
unfolding written hex_of
hex_done z out at v k h p = let e : k ≡ 0 = omega arith in sym (rw e at p)

-- above its eight digits a word has zeros
pub hex_high : (v k : ℕ) → v < 2 ^ 32 → 8 ≤ k → 48 ≡ hex_digit v k
unfolding hex_digit
hex_high v k h g =
    let more : 32 ≤ 4 * k = omega arith in
    let z : v / 2 ^ (4 * k) ≡ 0 = div-eq_of_lt (lt_of_lt_of_le h (pow_mono more)) in
    rw z

-- one decimal digit more in front of those that stand from place `first` on, the last, and no room for another
drop_set : (l : List ℕ) (i b : ℕ) → i < length l → drop i (set l i b) ≡ b ∷ drop (suc i) l
drop_set l i b h =
    drop-cons (set l i b) i 0 (lt-length-set l i b h)
    ∙ ap₂ (λ (x : ℕ) (t : List ℕ). x ∷ t) (get_or-set_same l i b 0 h) (drop-set-lt (suc i) l i b (omega arith))

module _ (z l : List ℕ) (first rest : ℕ) (h : 0 < first) (g : first ≤ 20) (n : length l ≡ 20) (p : z ≡ decimal_before first rest (drop first l)) where
  placed : drop (first - 1) (set l (first - 1) (decimal_byte rest)) ≡ decimal_byte rest ∷ drop first l
  placed =
      let e : suc (first - 1) ≡ first = omega arith in
      drop_set l (first - 1) (decimal_byte rest) (omega arith) ∙ ap (λ (k : ℕ). decimal_byte rest ∷ drop k l) e

  pub decimal_next : 10 ≤ rest → z ≡ decimal_before (first - 1) (rest / 10) (drop (first - 1) (set l (first - 1) (decimal_byte rest)))
  unfolding decimal_before
  decimal_next m =
      let e : first ≡ suc (first - 1) = omega arith in
      (rw e at p) ∙ rw (le-ltb rest 10 m) (ap (decimal_before (first - 1) (rest / 10)) (rw (← e) (sym placed)))

  pub decimal_last : rest < 10 → z ≡ drop (first - 1) (set l (first - 1) (decimal_byte rest))
  unfolding decimal_before
  decimal_last m =
      let e : first ≡ suc (first - 1) = omega arith in
      (rw e at p) ∙ rw (lt-ltb rest 10 m) (rw (← e) (sym placed))

pub decimal_full : (z l : List ℕ) (first rest : ℕ) → first ≤ 0 → z ≡ decimal_before first rest (drop first l) → z ≡ drop first l
unfolding decimal_before
decimal_full z l first rest h p = let e : first ≡ 0 = omega arith in rw e (rw e at p)

-- all that stands from a place on, written
pub rest_written : (w z : List ℕ × ℕ) (l text : List ℕ) (first n : ℕ) → length l ≡ n → text ≡ drop first l → z ≡ written w (take (n - first) (drop first l)) → z ≡ written w text
rest_written w z l text first n h e p =
    p ∙ rw e (ap (written w) (take_all (n - first) (drop first l) (omega (arith, length-drop first l))))

-- a place within the buffer stays within it
put_in : (out : List ℕ) (at b : ℕ) → at ≤ length out → (put (out, at) b).1 ≤ length out
unfolding put
put_in out at b h = cond_case (λ (w : List ℕ × ℕ). w.1 ≤ length out) (ltb at (length out)) (λ t. omega (arith, ltb-true at (length out) t)) (λ t. h)

written_at : (w : List ℕ × ℕ) (text : List ℕ) → w.1 ≤ length w.0 → (written w text).1 ≤ length w.0
unfolding written
written_at w [] h = h
written_at w (b ∷ text) h =
    let kept = put_length w.0 w.1 b in
    let next : (put w b).1 ≤ length (put w b).0 = rw kept (put_in w.0 w.1 b h) in
    rw kept at (written_at (put w b) text next)

pub written_in : (out : List ℕ) (at : ℕ) (text out' : List ℕ) (at' : ℕ) → at ≤ length out → (out', at') ≡ written (out, at) text → at' ≤ length out
written_in out at text out' at' h e = rw (ap (λ (w : List ℕ × ℕ). w.1) e) (written_at (out, at) text h)

-- ---- how long numbers are as text, and their digits

pub hex_length : (k v : ℕ) → length (hex_of k v) ≡ k
unfolding hex_of
hex_length zero v = refl
hex_length (suc k) v = ap suc (hex_length k v)

-- digit k of v, counted from the lowest
abbrev pub digit : ℕ → ℕ → ℕ
digit v k = hex_byte (v / 2 ^ (4 * k) % 16)

pub hex_eight : (v : ℕ) → hex_of 8 v ≡ digit v 7 ∷ digit v 6 ∷ digit v 5 ∷ digit v 4 ∷ digit v 3 ∷ digit v 2 ∷ digit v 1 ∷ digit v 0 ∷ []
unfolding hex_of hex_digit
hex_eight v = refl

at_most : (k v : ℕ) (t : List ℕ) → length (decimal_before k v t) ≤ k + length t
unfolding decimal_before
at_most zero v t = omega arith
at_most (suc k) v t =
    cond_case (λ (l : List ℕ). length l ≤ suc k + length t) (ltb v 10) (λ e. omega arith)
    (λ e. omega (arith, at_most k (v / 10) (decimal_byte v ∷ t)))

pub decimal_length : (v : ℕ) → length (decimal_of v) ≤ 20
decimal_length v = at_most 20 v []

below : (k j v : ℕ) (t : List ℕ) → v < 10 ^ suc j → length (decimal_before k v t) ≤ suc j + length t
unfolding decimal_before
below zero j v t h = omega arith
below (suc k) zero v t h =
    cond_case (λ (l : List ℕ). length l ≤ 1 + length t) (ltb v 10) (λ e. omega arith) (λ e. absurd (omega (arith, ltb-false v 10 e)))
below (suc k) (suc j) v t h =
    cond_case (λ (l : List ℕ). length l ≤ suc (suc j) + length t) (ltb v 10) (λ e. omega arith)
    (λ e. omega (arith, below k j (v / 10) (decimal_byte v ∷ t) (omega (arith, pow-suc 10 (suc j)))))

pub decimal_below : (k v : ℕ) → 0 < k → v < 10 ^ k → length (decimal_of v) ≤ k
decimal_below zero v g h = absurd (omega arith)
decimal_below (suc k) v g h = omega (arith, below 20 k v [] h)

pub decimal_step : (k v : ℕ) (t : List ℕ) → decimal_before (suc k) v t ≡ cond (ltb v 10) (decimal_byte v ∷ t) (decimal_before k (v / 10) (decimal_byte v ∷ t))
unfolding decimal_before
decimal_step k v t = refl
