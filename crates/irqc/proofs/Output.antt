-- The output, by the count of trailing zeros of the masked word, is the definition's search. Assumes nothing.
use Rattle.std.proofs.Common.{◌≡◌, refl, sym, ap, ap₂, ◌∙◌, Bool, true, false, cond, ◌&&◌, ℕ, zero, suc, ◌+◌, ◌/◌, ◌%◌, ◌^◌, ◌≤◌, ◌<◌, min, zero-add, div-one, mod-lt, add-zero, add-suc, suc-add, lt_of_le_of_lt, add-one, arith, lt-ltb, le-ltb, lit<, eqb, ltb, shr-shr, bit_and}
use Rattle.std.proofs.lemmas.Nat.{and_shr}
use native.Mathlib.Nat.{min-le_left}
use lib.Dec.{leb-suc-suc}
use lib.Arith.{digits_mod}
use lib.Bits.{and_step}
use lib.Count.{count_trailing_zeros, under}
use Rattle.common.specs.Bits.{bit_set}
use Rattle.irqc.specs.Irqc.{output, lowest_from, output_of}
use Rattle.irqc.specs.declared.IrqController.{IrqController}
use Rattle.irqc.specs.declared.IrqOutput.{IrqOutput}

-- with t zeros below the lowest of k bits that start at source i
found : ℕ → ℕ → ℕ → IrqOutput
found k i t = cond (ltb t k) (output true (i + t)) (output false 0)

found_next : (k i t : ℕ) → found (suc k) i (suc t) ≡ found k (suc i) t
unfolding found
found_next k i t =
    ap₂ (λ (b : Bool) (n : ℕ). cond b (output true n) (output false 0)) (leb-suc-suc (suc t) k) (add-suc i t ∙ sym (suc-add i t))

and_low : (a b : ℕ) → bit_and a b % 2 ≡ min (a % 2) (b % 2)
and_low a b =
    ap (λ (x : ℕ). x % 2) (and_step a b)
    ∙ digits_mod (bit_and (a / 2) (b / 2)) (lt_of_le_of_lt (min-le_left (a % 2) (b % 2)) (mod-lt a (lit< tt)))

next_half : (x i : ℕ) → x / 2 ^ i / 2 ≡ x / 2 ^ suc i
next_half x i = shr-shr x i 1 ∙ ap (λ (k : ℕ). x / 2 ^ k) (add-one i)

-- one step of the search, by the two lowest bits
search_step : (i k t x y : ℕ) → x < 2 → y < 2 → cond (eqb x 1 && eqb y 1) (output true i) (found k (suc i) t) ≡ found (suc k) i (under (min x y) t)
unfolding found
search_step i k t zero zero hx hy = sym (found_next k i t)
search_step i k t zero (suc zero) hx hy = sym (found_next k i t)
search_step i k t zero (suc (suc y)) hx hy = absurd (omega arith)
search_step i k t (suc zero) zero hx hy = sym (found_next k i t)
search_step i k t (suc zero) (suc zero) hx hy = simp (lt-ltb 0 (suc k) (omega arith), add-zero i)
search_step i k t (suc zero) (suc (suc y)) hx hy = absurd (omega arith)
search_step i k t (suc (suc x)) y hx hy = absurd (omega arith)

lowest_is : (c : IrqController) (i k : ℕ) → lowest_from c i k ≡ found k i (count_trailing_zeros k (bit_and (c.pending / 2 ^ i) (c.enable / 2 ^ i)))
unfolding lowest_from count_trailing_zeros bit_set found
lowest_is c i zero = refl
lowest_is c i (suc k) =
    let p = c.pending / 2 ^ i in
    let e = c.enable / 2 ^ i in
    let rest = bit_and (c.pending / 2 ^ suc i) (c.enable / 2 ^ suc i) in
    let half : bit_and p e / 2 ≡ rest = and_shr p e 1 ∙ ap₂ bit_and (next_half c.pending i) (next_half c.enable i) in
    ap (λ (o : IrqOutput). cond (eqb (p % 2) 1 && eqb (e % 2) 1) (output true i) o) (lowest_is c (suc i) k)
    ∙ search_step i k (count_trailing_zeros k rest) (p % 2) (e % 2) (mod-lt p (lit< tt)) (mod-lt e (lit< tt))
    ∙ ap₂ (λ (d r : ℕ). found (suc k) i (under d (count_trailing_zeros k r))) (sym (and_low p e)) (sym half)

output_is : (c : IrqController) → found 16 0 (count_trailing_zeros 16 (bit_and c.pending c.enable)) ≡ output_of c
output_is c =
    ap₂ (λ (p e : ℕ). found 16 0 (count_trailing_zeros 16 (bit_and p e))) (sym (div-one c.pending)) (sym (div-one c.enable))
    ∙ sym (lowest_is c 0 16)

-- the two ways through `irq_output`
pub output_some : (c : IrqController) → count_trailing_zeros 16 (bit_and c.pending c.enable) < 16
    → output true (count_trailing_zeros 16 (bit_and c.pending c.enable)) ≡ output_of c
unfolding found
output_some c h = simp (lt-ltb _ _ h, zero-add) at (output_is c)

pub output_none : (c : IrqController) → 16 ≤ count_trailing_zeros 16 (bit_and c.pending c.enable) → output false 0 ≡ output_of c
unfolding found
output_none c h = simp (le-ltb _ _ h) at (output_is c)
