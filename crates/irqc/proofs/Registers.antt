-- The bytes of a register's word. Assumes nothing.
use Rattle.std.proofs.Common.{◌≡◌, sym, ap, ap₂, ◌∙◌, Bool, not, ◌&&◌, ℕ, ◌+◌, ◌/◌, ◌%◌, ◌^◌, ◌<◌, mod-lt, arith, eqb, lit<, shr-shr}
use Rattle.std.proofs.lemmas.Nat.{and_mask}
use mathlib.Core.Bool.{and-true}
use Rattle.common.specs.Bits.{bit_set, without_bits}
use Rattle.common.specs.Bits.Laws.{bit_and_lem, bit_not, bit_of_zero, same_bits, without_bits_lem, without_bits_fits}

-- ---- the bits of the two bytes

high_bit : (x i : ℕ) → bit_set (x / 256) i ≡ bit_set x (8 + i)
unfolding bit_set
high_bit x i = ap (λ (y : ℕ). eqb (y % 2) 1) (shr-shr x 8 i)

low_bit : (x i : ℕ) → i < 8 → bit_set (x % 256) i ≡ bit_set x i
low_bit x i h =
    ap (λ (y : ℕ). bit_set y i) (sym (and_mask x 8))
    ∙ bit_and_lem x 255 i
    ∙ ap (λ (b : Bool). bit_set x i && b) (bit_not 8 0 i (lit< tt) h ∙ ap not (bit_of_zero i))
    ∙ and-true (bit_set x i)

-- clearing goes byte by byte
pub cleared_high : (x mask i : ℕ) → mask < 2 ^ 16 → i < 8
    → bit_set (without_bits 16 x mask / 256) i ≡ (bit_set (x / 256) i && not (bit_set (mask / 256) i))
cleared_high x mask i h hi =
    high_bit (without_bits 16 x mask) i
    ∙ without_bits_lem 16 x mask (8 + i) h (omega arith)
    ∙ ap₂ (λ (a b : Bool). a && not b) (sym (high_bit x i)) (sym (high_bit mask i))

pub cleared_low : (x mask i : ℕ) → mask < 2 ^ 16 → i < 8
    → bit_set (without_bits 16 x mask % 256) i ≡ (bit_set (x % 256) i && not (bit_set (mask % 256) i))
cleared_low x mask i h hi =
    low_bit (without_bits 16 x mask) i hi
    ∙ without_bits_lem 16 x mask i h (omega arith)
    ∙ ap₂ (λ (a b : Bool). a && not b) (sym (low_bit x i hi)) (sym (low_bit mask i hi))

none_cleared : (a : Bool) (m i : ℕ) → m ≡ 0 → (a && not (bit_set m i)) ≡ a
none_cleared a m i e = simp (e, bit_of_zero i, and-true)

-- a byte of which the mask has no bit stays
pub high_stays : (x mask : ℕ) → x < 2 ^ 16 → mask < 2 ^ 16 → mask / 256 ≡ 0 → without_bits 16 x mask / 256 ≡ x / 256
high_stays x mask hx hm e =
    let fits = without_bits_fits 16 x mask hx in
    same_bits 8 (without_bits 16 x mask / 256) (x / 256) (omega arith) (omega arith)
    (λ i h. cleared_high x mask i hm h ∙ none_cleared (bit_set (x / 256) i) (mask / 256) i e)

pub low_stays : (x mask : ℕ) → mask < 2 ^ 16 → mask % 256 ≡ 0 → without_bits 16 x mask % 256 ≡ x % 256
low_stays x mask hm e =
    same_bits 8 (without_bits 16 x mask % 256) (x % 256) (mod-lt (without_bits 16 x mask) (lit< tt)) (mod-lt x (lit< tt))
    (λ i h. cleared_low x mask i hm h ∙ none_cleared (bit_set (x % 256) i) (mask % 256) i e)
