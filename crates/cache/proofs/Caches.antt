-- What each way through the cache's functions leaves is what the definition says. Assumes nothing.
use Rattle.std.proofs.Common.{◌≡◌, ℕ, ◌*◌, ◌^◌, ◌<◌, Bool, true, false, not, eqb, sym, refl, ◌∙◌, ap₂, arith, w32, Fits, ne_eqb, bit_and, bit_or}
use mathlib.Core.Bool.{and-false}
use mir.Val.{bool_byte}
use Rattle.common.specs.Bits.Laws.{flag_is}
use Rattle.cache.specs.Bank.{line_dropped, controlled}
use Rattle.cache.specs.Cache.{with_banks, cacheable_at, bank_after, stall_after, fetched, loaded, stored, enable_bits, reg_written}
use Rattle.cache.specs.declared.Bank.{Bank}
use Rattle.cache.specs.declared.L1Cache.{L1Cache}
use Rattle.cache.specs.declared.CacheAccess.{CacheAccess}

-- ---- a load or fetch, of its bank b

pub record Served (c : L1Cache) (b : Bank) (pa : ℕ) (after : Bank) (cost : ℕ) : Type 0 where
  pub bank : after ≡ bank_after c b pa
  pub stall : cost ≡ stall_after c b pa

pub load_served : (c : L1Cache) (pa : ℕ) (after : Bank) (cost : ℕ) → Served c c.d pa after cost
    → ◌≡◌ {A = CacheAccess} (record { cache = with_banks c c.i after; stall = cost }) (loaded c pa)
unfolding loaded
load_served c pa after cost s = ap₂ (λ (b : Bank) (n : ℕ). record { cache = with_banks c c.i b; stall = n }) s.bank s.stall

pub fetch_served : (c : L1Cache) (pa : ℕ) (after : Bank) (cost : ℕ) → Served c c.i pa after cost
    → ◌≡◌ {A = CacheAccess} (record { cache = with_banks c after c.d; stall = cost }) (fetched c pa)
unfolding fetched
fetch_served c pa after cost s = ap₂ (λ (b : Bank) (n : ℕ). record { cache = with_banks c b c.d; stall = n }) s.bank s.stall

-- an access outside the range costs nothing and changes nothing
module _ (c : L1Cache) (pa : ℕ) (e : cacheable_at c pa ≡ false) where
  pub load_outside : loaded c pa ≡ record { cache = c; stall = 0 }
  unfolding loaded
  load_outside = simp (e, and-false)

  pub fetch_outside : fetched c pa ≡ record { cache = c; stall = 0 }
  unfolding fetched
  fetch_outside = simp (e, and-false)

-- ---- a store: the address is cacheable, or not

pub store_in : (c : L1Cache) (pa : ℕ) (r : Bool) (b : Bank) → r ≡ cacheable_at c pa → r ≡ true → b ≡ line_dropped c.i pa
    → with_banks c b c.d ≡ stored c pa
unfolding stored
store_in c pa r b e t g = simp (sym e, t, g)

pub store_out : (c : L1Cache) (pa : ℕ) (r : Bool) → r ≡ cacheable_at c pa → r ≡ false → c ≡ stored c pa
unfolding stored
store_out c pa r e t = simp (sym e, t)

-- ---- the registers

-- a flag times its bit
pub flag_fits : (b : Bool) (k : ℕ) → k < 2 ^ 32 → Fits w32 (bool_byte b * k)
flag_fits true k h = record { fits = omega arith }
flag_fits false k h = record { fits = omega arith }

pub flags : (i d : Bool) → bit_or (bool_byte i * 1) (bool_byte d * 2) ≡ enable_bits i d
flags true true = refl
flags true false = refl
flags false true = refl
flags false false = refl

-- a bit of the written word, as the code tests it
abbrev pub masked : ℕ → ℕ → Bool
masked v m = not (eqb (bit_and v m) 0)

pub control_written : (c : L1Cache) (i d : Bank) (offset v : ℕ) → offset ≡ 4
    → i ≡ controlled c.i (masked v 1) (masked v 256) (masked v 1024) → d ≡ controlled c.d (masked v 2) (masked v 512) (masked v 1024)
    → with_banks c i d ≡ reg_written c offset v
unfolding reg_written
control_written c i d offset v e ei ed =
    ap₂ (with_banks c) ei ed ∙ simp (e, flag_is v 0, flag_is v 1, flag_is v 8, flag_is v 9, flag_is v 10)

pub other_written : (c : L1Cache) (offset v : ℕ) → (offset ≡ 4 → ⊥) → c ≡ reg_written c offset v
unfolding reg_written
other_written c offset v e = simp (ne_eqb _ _ e)

pub ruleset writes = (control_written, other_written)
