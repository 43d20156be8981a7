-- The laws of one bit, by which a fact of words is a calculation with Bools: a bit of an `&`, an `|`, a `^`, a `!` and a
-- power of two, the test of a mask, and that two words are equal when their bits are. Each is stated once, over the width.
--
--   bit_and_lem, bit_or_lem, bit_xor_lem, bit_not, bit_pow, bit_of_zero == a bit of each operation's result
--   with_bit_lem, without_bits_lem, without_bit_lem                     == a bit of a word with bits set or cleared
--   flag_is                                                             == the test `x & (1 << n) != 0`
--   field_is                                                            == the test of several bits by a mask
--   one_shifted                                                         == the word `1 << n`
--   same_bits                                                           == equal bits, equal words
-- Assumes nothing.
use Rattle.std.specs.Prelude.{◌≡◌, refl, Bool, true, false, not, ◌&&◌, ◌||◌, ◌⊎◌, ℕ, zero, suc, ◌+◌, ◌-◌, ◌*◌, ◌/◌, ◌%◌, ◌^◌, ◌<◌, min, max, eqb}
use Rattle.std.proofs.Common.{sym, ap, ap₂, ◌∙◌, inl, inr, ⊎_elim, mod-lt, div-one, pow-suc, one-mul, zero-mul, suc-mul, lt_of_le_of_lt, one-add, arith, eqb-true, ne_eqb, lit<, pow_pos, pow-add, shl_exact, shr-shr}
use Rattle.std.proofs.lemmas.Bool.{eqb-false}
use Rattle.std.proofs.Math.Dec.{eqb-suc-suc, eqb-zero-suc, eqb-suc-zero}
use Rattle.std.proofs.Math.Arith.{digits_mod, digits_div, lt-one}
use Rattle.std.proofs.Math.Pow.{pow-lt}
use Rattle.std.specs.Int.Bits.{bit_and, bit_or, bit_xor, differ, and_step, or_step, xor_step}
use Rattle.std.proofs.lemmas.Nat.Bits.{and_high}
use Rattle.std.proofs.lemmas.Nat.{or_lt, and_le_l}
use Rattle.common.specs.Cases.{bool_is}
use Rattle.common.specs.Bits.{bit_set, with_bit, without_bits, without_bit}

pub bit_zero : (x : ℕ) → bit_set x 0 ≡ eqb (x % 2) 1
unfolding bit_set
bit_zero x = ap (λ (y : ℕ). eqb (y % 2) 1) (div-one x)

pub bit_suc : (x i : ℕ) → bit_set x (suc i) ≡ bit_set (x / 2) i
unfolding bit_set
bit_suc x i = ap (λ (y : ℕ). eqb (y % 2) 1) (sym (shr-shr x 1 i ∙ ap (λ (k : ℕ). x / 2 ^ k) (one-add i)))

-- what holds of the four pairs of digits holds of any two
digits₂ : (P : ℕ → ℕ → Type 0) → P 0 0 → P 0 1 → P 1 0 → P 1 1 → (x y : ℕ) → x < 2 → y < 2 → P x y
digits₂ P a b c d zero zero hx hy = a
digits₂ P a b c d zero (suc zero) hx hy = b
digits₂ P a b c d zero (suc (suc y)) hx hy = absurd (omega arith)
digits₂ P a b c d (suc zero) zero hx hy = c
digits₂ P a b c d (suc zero) (suc zero) hx hy = d
digits₂ P a b c d (suc zero) (suc (suc y)) hx hy = absurd (omega arith)
digits₂ P a b c d (suc (suc x)) y hx hy = absurd (omega arith)

-- an operation on words that is f on the digits is g on the bits
module _ (op f : ℕ → ℕ → ℕ) (g : Bool → Bool → Bool)
    (step : (a b : ℕ) → op a b ≡ op (a / 2) (b / 2) * 2 + f (a % 2) (b % 2))
    (digit : (x y : ℕ) → x < 2 → y < 2 → (f x y < 2) × (eqb (f x y) 1 ≡ g (eqb x 1) (eqb y 1))) where
  at_digit : (a b : ℕ) → (f (a % 2) (b % 2) < 2) × (eqb (f (a % 2) (b % 2)) 1 ≡ g (eqb (a % 2) 1) (eqb (b % 2) 1))
  at_digit a b = digit (a % 2) (b % 2) (mod-lt a (lit< tt)) (mod-lt b (lit< tt))

  bit_op : (a b i : ℕ) → bit_set (op a b) i ≡ g (bit_set a i) (bit_set b i)
  bit_op a b zero =
      bit_zero (op a b)
      ∙ ap (λ (x : ℕ). eqb (x % 2) 1) (step a b)
      ∙ ap (λ (x : ℕ). eqb x 1) (digits_mod (op (a / 2) (b / 2)) (at_digit a b).0)
      ∙ (at_digit a b).1
      ∙ ap₂ g (sym (bit_zero a)) (sym (bit_zero b))
  bit_op a b (suc i) =
      bit_suc (op a b) i
      ∙ ap (λ (x : ℕ). bit_set (x / 2) i) (step a b)
      ∙ ap (λ (x : ℕ). bit_set x i) (digits_div (op (a / 2) (b / 2)) (at_digit a b).0)
      ∙ bit_op (a / 2) (b / 2) i
      ∙ ap₂ g (sym (bit_suc a i)) (sym (bit_suc b i))

-- the Bools differ
abbrev pub other : Bool → Bool → Bool
other true b = not b
other false b = b

pub bit_and_lem : (a b i : ℕ) → bit_set (bit_and a b) i ≡ bit_set a i && bit_set b i
bit_and_lem =
    bit_op bit_and min ◌&&◌ and_step
    (digits₂ (λ x y. (min x y < 2) × (eqb (min x y) 1 ≡ eqb x 1 && eqb y 1)) (lit< tt, refl) (lit< tt, refl) (lit< tt, refl) (lit< tt, refl))

pub bit_or_lem : (a b i : ℕ) → bit_set (bit_or a b) i ≡ bit_set a i || bit_set b i
bit_or_lem =
    bit_op bit_or max ◌||◌ or_step
    (digits₂ (λ x y. (max x y < 2) × (eqb (max x y) 1 ≡ eqb x 1 || eqb y 1)) (lit< tt, refl) (lit< tt, refl) (lit< tt, refl) (lit< tt, refl))

pub bit_xor_lem : (a b i : ℕ) → bit_set (bit_xor a b) i ≡ other (bit_set a i) (bit_set b i)
bit_xor_lem =
    bit_op bit_xor differ other xor_step
    (digits₂ (λ x y. (differ x y < 2) × (eqb (differ x y) 1 ≡ other (eqb x 1) (eqb y 1))) (lit< tt, refl) (lit< tt, refl) (lit< tt, refl) (lit< tt, refl))

pub bit_of_zero : (i : ℕ) → bit_set 0 i ≡ false
bit_of_zero zero = bit_zero 0
bit_of_zero (suc i) = bit_suc 0 i ∙ bit_of_zero i

-- a power of two has its one bit
pub bit_pow : (k i : ℕ) → bit_set (2 ^ k) i ≡ eqb k i
bit_pow zero zero = bit_zero 1
bit_pow zero (suc i) = bit_suc 1 i ∙ bit_of_zero i ∙ sym (eqb-zero-suc i)
bit_pow (suc k) zero =
    bit_zero (2 ^ suc k) ∙ ap (λ (x : ℕ). eqb x 1) (let e : 2 ^ suc k % 2 ≡ 0 = omega (arith, pow-suc 2 k) in e) ∙ sym (eqb-suc-zero k)
bit_pow (suc k) (suc i) =
    bit_suc (2 ^ suc k) i ∙ ap (λ (x : ℕ). bit_set x i) (let e : 2 ^ suc k / 2 ≡ 2 ^ k = omega (arith, pow-suc 2 k) in e)
    ∙ bit_pow k i ∙ sym (eqb-suc-suc k i)

-- the complement at w bits: `!m`
pub bit_not : (w m i : ℕ) → m < 2 ^ w → i < w → bit_set ((2 ^ w - 1) - m) i ≡ not (bit_set m i)
bit_not zero m i hm hi = absurd (omega arith)
bit_not (suc w) m zero hm hi =
    bit_zero ((2 ^ suc w - 1) - m)
    ∙ ap (λ (x : ℕ). eqb x 1) (let e : ((2 ^ suc w - 1) - m) % 2 ≡ 1 - m % 2 = omega (arith, pow-suc 2 w) in e)
    ∙ digits₂ (λ x y. eqb (1 - x) 1 ≡ not (eqb x 1)) refl refl refl refl (m % 2) 0 (mod-lt m (lit< tt)) (lit< tt)
    ∙ ap not (sym (bit_zero m))
bit_not (suc w) m (suc i) hm hi =
    bit_suc ((2 ^ suc w - 1) - m) i
    ∙ ap (λ (x : ℕ). bit_set x i) (let e : ((2 ^ suc w - 1) - m) / 2 ≡ (2 ^ w - 1) - m / 2 = omega (arith, pow-suc 2 w) in e)
    ∙ bit_not w (m / 2) i (omega (arith, pow-suc 2 w)) (omega arith)
    ∙ ap not (sym (bit_suc m i))

-- ---- a word with bits set or cleared

pub with_bit_lem : (x k i : ℕ) → bit_set (with_bit x k) i ≡ bit_set x i || eqb k i
with_bit_lem x k i = bit_or_lem x (2 ^ k) i ∙ ap (λ (b : Bool). bit_set x i || b) (bit_pow k i)

pub without_bits_lem : (w x mask i : ℕ) → mask < 2 ^ w → i < w → bit_set (without_bits w x mask) i ≡ bit_set x i && not (bit_set mask i)
without_bits_lem w x mask i hm hi =
    bit_and_lem x ((2 ^ w - 1) - mask) i ∙ ap (λ (b : Bool). bit_set x i && b) (bit_not w mask i hm hi)

pub without_bit_lem : (w x k i : ℕ) → k < w → i < w → bit_set (without_bit w x k) i ≡ bit_set x i && not (eqb k i)
without_bit_lem w x k i hk hi =
    without_bits_lem w x (2 ^ k) i (pow-lt hk) hi ∙ ap (λ (b : Bool). bit_set x i && not b) (bit_pow k i)

pub with_bit_fits : (w x k : ℕ) → x < 2 ^ w → k < w → with_bit x k < 2 ^ w
with_bit_fits w x k hx hk = or_lt w x (2 ^ k) hx (pow-lt hk)

pub without_bits_fits : (w x mask : ℕ) → x < 2 ^ w → without_bits w x mask < 2 ^ w
without_bits_fits w x mask hx = lt_of_le_of_lt (and_le_l x ((2 ^ w - 1) - mask)) hx

-- ---- the test of one bit by a mask

-- `1 << n` at w bits
pub one_shifted : (w n : ℕ) → n < w → 1 * 2 ^ n % 2 ^ w ≡ 2 ^ n
one_shifted w n h = shl_exact 1 n w (lit< tt) (omega arith) ∙ one-mul (2 ^ n)

zero_or_one : (b : ℕ) → b < 2 → (b ≡ 0) ⊎ (b ≡ 1)
zero_or_one zero h = inl refl
zero_or_one (suc zero) h = inr refl
zero_or_one (suc (suc b)) h = absurd (omega arith)

bit_is : (x n : ℕ) → (x / 2 ^ n % 2 ≡ 0) ⊎ (x / 2 ^ n % 2 ≡ 1)
bit_is x n = zero_or_one (x / 2 ^ n % 2) (mod-lt (x / 2 ^ n) (lit< tt))

and_bit : (x n : ℕ) → bit_and x (2 ^ n) ≡ x / 2 ^ n % 2 * 2 ^ n
and_bit x n =
    let e : 2 ^ n ≡ 2 ^ (1 + n) - 2 ^ n = omega (arith, pow-add 2 1 n) in
    ap (bit_and x) e ∙ and_high x 1 n

pub clear_bit : (x n : ℕ) → bit_and x (2 ^ n) ≡ 0 → bit_set x n ≡ false
unfolding bit_set
clear_bit x n e =
    ⊎_elim (λ z. ap (λ (b : ℕ). eqb b 1) z)
    (λ z. absurd (let f : 1 * 2 ^ n ≡ 0 = ap (λ (b : ℕ). b * 2 ^ n) (sym z) ∙ sym (and_bit x n) ∙ e in omega (arith, pow_pos n)))
    (bit_is x n)

pub set_bit : (x n : ℕ) → (bit_and x (2 ^ n) ≡ 0 → ⊥) → bit_set x n ≡ true
unfolding bit_set
set_bit x n e =
    ⊎_elim (λ z. absurd (e (and_bit x n ∙ ap (λ (b : ℕ). b * 2 ^ n) z ∙ zero-mul (2 ^ n))))
    (λ z. ap (λ (b : ℕ). eqb b 1) z)
    (bit_is x n)

pub flag_is : (x n : ℕ) → not (eqb (bit_and x (2 ^ n)) 0) ≡ bit_set x n
flag_is x n =
    ⊎_elim
    (λ (t : eqb (bit_and x (2 ^ n)) 0 ≡ true). ap not t ∙ sym (clear_bit x n (eqb-true _ _ t)))
    (λ (t : eqb (bit_and x (2 ^ n)) 0 ≡ false). ap not t ∙ sym (set_bit x n (eqb-false _ _ t)))
    (bool_is (eqb (bit_and x (2 ^ n)) 0))

-- ---- the test of several bits by a mask: j bits from bit k on

pub field_is : (x j k : ℕ) → eqb (bit_and x (2 ^ (j + k) - 2 ^ k)) 0 ≡ eqb (x / 2 ^ k % 2 ^ j) 0
field_is x j k = ap (λ (y : ℕ). eqb y 0) (and_high x j k) ∙ scaled (x / 2 ^ k % 2 ^ j)
  where
    scaled : (y : ℕ) → eqb (y * 2 ^ k) 0 ≡ eqb y 0
    scaled zero = ap (λ (y : ℕ). eqb y 0) (zero-mul (2 ^ k))
    scaled (suc y) = ne_eqb (suc y * 2 ^ k) 0 (λ e. omega (arith, pow_pos k, suc-mul y (2 ^ k))) ∙ sym (eqb-suc-zero y)

-- ---- equal bits, equal words

digit_is : (x y : ℕ) → x < 2 → y < 2 → eqb x 1 ≡ eqb y 1 → x ≡ y
digit_is = digits₂ (λ x y. eqb x 1 ≡ eqb y 1 → x ≡ y) (λ e. refl) (λ e. (cc)) (λ e. (cc)) (λ e. refl)

pub same_bits : (w a b : ℕ) → a < 2 ^ w → b < 2 ^ w → ((i : ℕ) → i < w → bit_set a i ≡ bit_set b i) → a ≡ b
same_bits zero a b ha hb e = lt-one ha ∙ sym (lt-one hb)
same_bits (suc w) a b ha hb e =
    let high : a / 2 ≡ b / 2 =
    same_bits w (a / 2) (b / 2) (omega (arith, pow-suc 2 w)) (omega (arith, pow-suc 2 w)) (λ i h. sym (bit_suc a i) ∙ e (suc i) (omega arith) ∙ bit_suc b i) in
    let low : a % 2 ≡ b % 2 =
    digit_is (a % 2) (b % 2) (mod-lt a (lit< tt)) (mod-lt b (lit< tt)) (sym (bit_zero a) ∙ e 0 (omega arith) ∙ bit_zero b) in
    omega arith
