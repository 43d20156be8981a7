-- The byte lanes: the code's masks and shifts are the definition's quotients and remainders. Assumes nothing.
use Rattle.std.proofs.Common.{◌≡◌, ℕ, zero, suc, ◌+◌, ◌-◌, ◌*◌, ◌/◌, ◌%◌, ◌^◌, ◌<◌, ◌≤◌, sym, ap, ◌∙◌, ap₂, add-zero, mod-lt, arith, lit<, lit≤, pow_pos, shl_exact, shr_lt, bit_and, bit_or}
use native.Mathlib.Nat.{mod-mod}
use lib.Pow.{ones_lt, shr_mod, split}
use Rattle.std.proofs.lemmas.Nat.{and_mask, and_block, and_le_r, or_block, or_shifted}
use Rattle.std.proofs.lemmas.Nat.Bits.{and_high}
use lib.Bits.{or_zero_r}
use Rattle.cache.specs.Cache.{reg_read, word_of, lane_shift, lane_of, with_byte, merged, byte_read, reg_written, byte_written}
use Rattle.cache.specs.declared.L1Cache.{L1Cache}

-- `addr & 3` and `addr & !3`
pub lane_fits : (addr : ℕ) → bit_and addr 3 ≤ 3
lane_fits addr = and_le_r addr 3

pub lane_is : (addr : ℕ) → 8 * (3 - bit_and addr 3) ≡ lane_shift addr
lane_is addr = ap (λ (l : ℕ). 8 * (3 - l)) (and_mask addr 2)

pub word_is : (addr : ℕ) → addr < 2 ^ 32 → bit_and addr 4294967292 ≡ word_of addr
word_is addr h = and_high addr 30 2 ∙ (let e : addr / 4 % 2 ^ 30 * 4 ≡ addr / 4 * 4 = omega arith in e)

pub byte_read_lem : (c : L1Cache) (addr w s : ℕ) → addr < 2 ^ 32 → w ≡ reg_read c (bit_and addr 4294967292) → s ≡ lane_shift addr
    → w / 2 ^ s % 256 ≡ byte_read c addr
unfolding lane_of
byte_read_lem c addr w s h ew es = simp (ew, es, word_is addr h)

pub byte_written_lem : (c r : L1Cache) (addr v w m : ℕ) → addr < 2 ^ 32 → w ≡ reg_read c (bit_and addr 4294967292) → m ≡ merged w addr v
    → r ≡ reg_written c (bit_and addr 4294967292) m → r ≡ byte_written c addr v
byte_written_lem c r addr v w m h ew em er = er ∙ simp (em, ew, word_is addr h)

-- the byte at s of a word with j + 8 bits above s is replaced
module _ (j s w v : ℕ) (hw : w < 2 ^ (j + 8 + s)) (hv : v < 2 ^ 8) where
  above : bit_and (w / 2 ^ s) (2 ^ (j + 8) - 2 ^ 8) ≡ w / 2 ^ s / 256 * 256
  above =
      and_high (w / 2 ^ s) j 8 ∙ ap (λ (x : ℕ). x * 256) (shr_mod j 8 (shr_lt (j + 8) s hw))

  cleared : bit_and w ((2 ^ (j + 8) - 2 ^ 8) * 2 ^ s + (2 ^ s - 1)) ≡ w / 2 ^ s / 256 * 256 * 2 ^ s + w % 2 ^ s
  cleared =
      ap (λ (x : ℕ). bit_and x ((2 ^ (j + 8) - 2 ^ 8) * 2 ^ s + (2 ^ s - 1))) (sym (split w s))
      ∙ and_block s (w / 2 ^ s) (2 ^ (j + 8) - 2 ^ 8) (w % 2 ^ s) (2 ^ s - 1) (mod-lt w (pow_pos s)) (ones_lt s)
      ∙ ap₂ (λ (x y : ℕ). x * 2 ^ s + y) above (and_mask (w % 2 ^ s) s ∙ mod-mod w (2 ^ s))

  lane_set : bit_or (bit_and w ((2 ^ (j + 8) - 2 ^ 8) * 2 ^ s + (2 ^ s - 1))) (v * 2 ^ s) ≡ with_byte w s v
  lane_set =
      ap₂ bit_or cleared (sym (add-zero (v * 2 ^ s)))
      ∙ or_block s (w / 2 ^ s / 256 * 256) v (w % 2 ^ s) 0 (mod-lt w (pow_pos s)) (pow_pos s)
      ∙ ap₂ (λ (x y : ℕ). x * 2 ^ s + y) (or_shifted (w / 2 ^ s / 256) 8 v hv) (or_zero_r (w % 2 ^ s))

-- at each of the four lanes
lane_merged : (l w v : ℕ) → l < 4 → w < 2 ^ 32 → v < 256
    → bit_or (bit_and w (4294967295 - 255 * 2 ^ (8 * (3 - l)) % 4294967296)) (v * 2 ^ (8 * (3 - l)) % 4294967296)
    ≡ with_byte w (8 * (3 - l)) v
lane_merged zero w v hl hw hv = rw (shl_exact 8 24 32 hv (lit≤ tt)) (lane_set 0 24 w v hw hv)
lane_merged (suc zero) w v hl hw hv = rw (shl_exact 8 16 32 hv (lit≤ tt)) (lane_set 8 16 w v hw hv)
lane_merged (suc (suc zero)) w v hl hw hv = rw (shl_exact 8 8 32 hv (lit≤ tt)) (lane_set 16 8 w v hw hv)
lane_merged (suc (suc (suc zero))) w v hl hw hv = rw (shl_exact 8 0 32 hv (lit≤ tt)) (lane_set 24 0 w v hw hv)
lane_merged (suc (suc (suc (suc l)))) w v hl hw hv = absurd (omega arith)

pub merge_is : (w addr v s : ℕ) → w < 2 ^ 32 → v < 256 → s ≡ lane_shift addr
    → bit_or (bit_and w (4294967295 - 255 * 2 ^ s % 4294967296)) (v * 2 ^ s % 4294967296) ≡ merged w addr v
unfolding merged
merge_is w addr v s hw hv es = rw es (lane_merged (addr % 4) w v (mod-lt addr (lit< tt)) hw hv)
