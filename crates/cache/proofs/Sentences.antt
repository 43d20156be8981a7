-- Document 01's sentences on the L1 tag cache, proved of the definitions. Assumes nothing.
use Rattle.std.proofs.Common.{◌≡◌, ℕ, ◌+◌, ◌-◌, ◌*◌, ◌/◌, ◌%◌, ◌^◌, ◌<◌, ◌≤◌, Bool, true, false, cond, not, ◌&&◌, ◌||◌, eqb, ltb, set, sym, refl, ap, ◌∙◌, ⊎_elim, mod-lt, arith, get_or-set_other, get_or-set_same, pow_pos, shr-shr, ltb-false, ltb-true, eq-eqb, ne_eqb}
use Rattle.std.specs.Bool.{beq}
use lib.Arith.{digits_div, digits_mod}
use lib.Pow.{field, mod-mod-pow}
use Rattle.common.specs.Bits.{bit_set}
use Rattle.common.specs.Cases.{absurd_eq, bool_is, cond_holds, cond_case}
use Rattle.cache.specs.Bank.{line_of, line_stop, index_of, tag_of, no_tag, no_tags, with_tags, holds, accessed, line_dropped, drop_lines, enabled_to, controlled, swept}
use Rattle.cache.specs.Cache.{Side, i_bank, d_bank, bank_of, with_banks, reset_of, saturated, cacheable_at, counts, stall_after, loaded, fetched, stored, external_written, lines_visited, reg_read, reg_written, lane_shift, lane_of, with_byte, merged}
use Rattle.cache.specs.Meaning.{Lines, tag_at, is_register, enable_bit, Meaning}
use Rattle.cache.specs.declared.Bank.{Bank}
use Rattle.cache.specs.declared.BankAccess.{BankAccess}
use Rattle.cache.specs.declared.L1Cache.{L1Cache}
use Rattle.cache.proofs.Banks.{enable_kept}
use Rattle.cache.proofs.Sweeps.{set_is, line_dropped_lem, others_kept, visited_enough}

-- ---- an access

empty : (b : Bank) (pa : ℕ) → pa < 2 ^ 32 → tag_at b (index_of pa) ≡ no_tag → holds b pa ≡ false
empty b pa h e = ne_eqb _ _ (λ (q : tag_at b (index_of pa) ≡ tag_of pa). omega arith)

held : (b : Bank) (pa : ℕ) → Lines b → holds (accessed b pa).bank pa ≡ true
unfolding accessed
held b pa l =
    cond_case (λ (a : BankAccess). holds a.bank pa ≡ true) (holds b pa) (λ t. t)
    (λ t. eq-eqb _ _ (get_or-set_same b.tags (index_of pa) (tag_of pa) 0 (omega arith)))

others : (b : Bank) (pa j : ℕ) → (j ≡ index_of pa → ⊥) → tag_at (accessed b pa).bank j ≡ tag_at b j
unfolding accessed
others b pa j ne =
    cond_holds (λ (a : BankAccess). tag_at a.bank j ≡ tag_at b j) (holds b pa) refl (get_or-set_other b.tags (index_of pa) j (tag_of pa) 0 ne)

hit_is : (b : Bank) (pa : ℕ) → (accessed b pa).hit ≡ holds b pa
unfolding accessed
hit_is b pa = cond_case (λ (a : BankAccess). a.hit ≡ holds b pa) (holds b pa) sym sym

hit : (c : L1Cache) (b : Bank) (pa : ℕ) → holds b pa ≡ true → stall_after c b pa ≡ 0
hit c b pa t = cond_holds (λ (n : ℕ). n ≡ 0) (counts c b pa) (rw (hit_is b pa, t)) refl

miss : (c : L1Cache) (b : Bank) (pa : ℕ) → counts c b pa ≡ true → holds b pa ≡ false → stall_after c b pa ≡ c.miss_penalty
miss c b pa n t = rw (n, hit_is b pa, t)

load_nothing : (c : L1Cache) (pa : ℕ) → counts c c.d pa ≡ false → loaded c pa ≡ record { cache = c; stall = 0 }
unfolding loaded
load_nothing c pa n = simp n

fetch_nothing : (c : L1Cache) (pa : ℕ) → counts c c.i pa ≡ false → fetched c pa ≡ record { cache = c; stall = 0 }
unfolding fetched
fetch_nothing c pa n = simp n

-- ---- a store

store_drops : (c : L1Cache) (pa j : ℕ) → Lines c.i
    → tag_at (stored c pa).i j ≡ cond (cacheable_at c pa && holds c.i pa && eqb (index_of pa) j) no_tag (tag_at c.i j)
unfolding stored line_dropped
store_drops c pa j l = by (cacheable_at c pa) (holds c.i pa)
  where
    by : (t h : Bool) →
        tag_at (cond t (cond h (with_tags c.i (set c.i.tags (index_of pa) no_tag)) c.i) c.i) j
        ≡ cond (t && h && eqb (index_of pa) j) no_tag (tag_at c.i j)
    by true true = set_is c.i.tags (index_of pa) j no_tag (omega arith)
    by true false = refl
    by false h = refl

store_else : (c : L1Cache) (pa : ℕ) → stored c pa ≡ with_banks c (with_tags c.i (stored c pa).i.tags) c.d
unfolding stored line_dropped
store_else c pa = by (cacheable_at c pa) (holds c.i pa)
  where
    dropped : Bool → Bool → Bank
    dropped t h = cond t (cond h (with_tags c.i (set c.i.tags (index_of pa) no_tag)) c.i) c.i

    by : (t h : Bool) → with_banks c (dropped t h) c.d ≡ with_banks c (with_tags c.i (dropped t h).tags) c.d
    by true true = refl
    by true false = refl
    by false h = refl

-- ---- an external write

module _ (b : Bank) (pa len : ℕ) where
  swept_drops : (k : ℕ) → Lines b → pa / 32 ≤ k → k * 32 < saturated pa len → tag_at (swept b (line_of pa) (line_stop (saturated pa len))) (k % 256) ≡ no_tag
  unfolding swept
  swept_drops k l h g =
      let e : line_of pa + (k - line_of pa) ≡ k = omega arith in
      line_dropped_lem (line_stop (saturated pa len) - line_of pa) (line_of pa) b.tags (k % 256) (k - line_of pa) l (omega arith) (ap (λ (x : ℕ). x % 256) e)

  swept_keeps : (j : ℕ) → ((k : ℕ) → pa / 32 ≤ k → k * 32 < saturated pa len → k % 256 ≡ j → ⊥)
      → tag_at (swept b (line_of pa) (line_stop (saturated pa len))) j ≡ tag_at b j
  unfolding swept
  swept_keeps j free =
      others_kept (line_stop (saturated pa len) - line_of pa) (line_of pa) b.tags j (λ m h e. free (line_of pa + m) (omega arith) (omega arith) e)

external_drops : (s : Side) (c : L1Cache) (pa len k : ℕ) → Lines (bank_of s c) → pa / 32 ≤ k → k * 32 < saturated pa len
    → tag_at (bank_of s (external_written c pa len)) (k % 256) ≡ no_tag
unfolding external_written
external_drops i_bank c pa len k l h g = swept_drops c.i pa len k l h g
external_drops d_bank c pa len k l h g = swept_drops c.d pa len k l h g

external_keeps : (s : Side) (c : L1Cache) (pa len j : ℕ) → ((k : ℕ) → pa / 32 ≤ k → k * 32 < saturated pa len → k % 256 ≡ j → ⊥)
    → tag_at (bank_of s (external_written c pa len)) j ≡ tag_at (bank_of s c) j
unfolding external_written
external_keeps i_bank c pa len j free = swept_keeps c.i pa len j free
external_keeps d_bank c pa len j free = swept_keeps c.d pa len j free

external_else : (c : L1Cache) (pa len : ℕ)
    → external_written c pa len
    ≡ with_banks c (with_tags c.i (external_written c pa len).i.tags) (with_tags c.d (external_written c pa len).d.tags)
unfolding external_written swept
external_else c pa len = refl

visits_at_most : (pa len : ℕ) → lines_visited pa len ≤ 256
visits_at_most pa len = omega arith

visits_each : (pa len k : ℕ) → pa / 32 ≤ k → k < pa / 32 + 256 → k * 32 < saturated pa len → k < pa / 32 + lines_visited pa len
visits_each pa len k h m g = omega arith

visits_only : (pa len k : ℕ) → pa / 32 ≤ k → k < pa / 32 + lines_visited pa len → k * 32 < saturated pa len
visits_only pa len k h g = omega arith

visits_enough : (s : Side) (c : L1Cache) (pa len : ℕ) → Lines (bank_of s c)
    → drop_lines (lines_visited pa len) (pa / 32) (bank_of s c).tags ≡ (bank_of s (external_written c pa len)).tags
unfolding external_written swept
visits_enough i_bank c pa len l = visited_enough c.i.tags (line_of pa) (line_stop (saturated pa len)) l
visits_enough d_bank c pa len l = visited_enough c.d.tags (line_of pa) (line_stop (saturated pa len)) l

-- ---- the enable bit

enable_change : (b : Bank) (on : Bool) → (b.enabled ≡ on → ⊥) → (enabled_to b on).tags ≡ no_tags
unfolding enabled_to
enable_change b on ne = by b.enabled on ne
  where
    by : (e f : Bool) → (e ≡ f → ⊥) → cond (beq e f) b.tags no_tags ≡ no_tags
    by true true ne = absurd (ne refl)
    by false false ne = absurd (ne refl)
    by true false ne = refl
    by false true ne = refl

enable_same : (b : Bank) → enabled_to b b.enabled ≡ b
enable_same b = sym (enable_kept b b.enabled (by b.enabled))
  where
    by : (e : Bool) → not (beq e e) ≡ false
    by true = refl
    by false = refl

-- ---- registers

no_register : (a b : Bool) → (a || b) ≡ false → (a ≡ false) × (b ≡ false)
no_register true b h = absurd_eq (cc)
no_register false b h = (refl, h)

others_read : (c : L1Cache) (offset : ℕ) → is_register offset ≡ false → reg_read c offset ≡ 0
unfolding reg_read
others_read c offset h =
    let f = no_register (eqb offset 0x00 || eqb offset 0x04 || eqb offset 0x10 || eqb offset 0x14 || eqb offset 0x18) (eqb offset 0x1C) h in
    let e = no_register (eqb offset 0x00 || eqb offset 0x04 || eqb offset 0x10 || eqb offset 0x14) (eqb offset 0x18) f.0 in
    let d = no_register (eqb offset 0x00 || eqb offset 0x04 || eqb offset 0x10) (eqb offset 0x14) e.0 in
    let b = no_register (eqb offset 0x00 || eqb offset 0x04) (eqb offset 0x10) d.0 in
    let a = no_register (eqb offset 0x00) (eqb offset 0x04) b.0 in
    rw (a.0, a.1, b.1, d.1, e.1, f.1)

only_control : (c : L1Cache) (offset v : ℕ) → (offset ≡ 0x04 → ⊥) → reg_written c offset v ≡ c
unfolding reg_written
only_control c offset v h = rw (ne_eqb offset 0x04 h)

-- the strobes empty a bank or leave its tags
strobed : (b : Bank) (on drop clear : Bool) → (enabled_to b on).tags ≡ no_tags → (controlled b on drop clear).tags ≡ no_tags
unfolding controlled
strobed b on true true h = refl
strobed b on true false h = refl
strobed b on false true h = h
strobed b on false false h = h

control_changes : (s : Side) (c : L1Cache) (v : ℕ) → ((bank_of s c).enabled ≡ enable_bit s v → ⊥) → (bank_of s (reg_written c 0x04 v)).tags ≡ no_tags
unfolding reg_written
control_changes i_bank c v h = strobed c.i (bit_set v 0) (bit_set v 8) (bit_set v 10) (enable_change c.i (bit_set v 0) h)
control_changes d_bank c v h = strobed c.d (bit_set v 1) (bit_set v 9) (bit_set v 10) (enable_change c.d (bit_set v 1) h)

reset_banks : (s : Side) (c : L1Cache)
    → ((bank_of s (reset_of c)).tags ≡ no_tags) × ((bank_of s (reset_of c)).enabled ≡ true) × ((bank_of s (reset_of c)).hits ≡ 0) × ((bank_of s (reset_of c)).misses ≡ 0)
reset_banks i_bank c = (refl, refl, refl, refl)
reset_banks d_bank c = (refl, refl, refl, refl)

-- ---- the byte lanes

-- from s on it is the byte with what was above it
from_byte : (w s v : ℕ) → with_byte w s v / 2 ^ s ≡ w / 2 ^ s / 256 * 256 + v
from_byte w s v = digits_div (w / 2 ^ s / 256 * 256 + v) (mod-lt w (pow_pos s))

lane_written : (w addr v : ℕ) → v < 256 → lane_of (merged w addr v) addr ≡ v
unfolding lane_of merged
lane_written w addr v h = ap (λ (x : ℕ). x % 256) (from_byte w (lane_shift addr) v) ∙ digits_mod (w / 2 ^ lane_shift addr / 256) h

-- what is above the byte stays, and what is below it
above_kept : (w s u v : ℕ) → v < 256 → with_byte w s v / 2 ^ (s + (8 + u)) ≡ w / 2 ^ (s + (8 + u))
above_kept w s u v h =
    sym (shr-shr (with_byte w s v) s (8 + u))
    ∙ ap (λ (x : ℕ). x / 2 ^ (8 + u)) (from_byte w s v)
    ∙ sym (shr-shr (w / 2 ^ s / 256 * 256 + v) 8 u)
    ∙ ap (λ (x : ℕ). x / 2 ^ u) (digits_div (w / 2 ^ s / 256) h)
    ∙ shr-shr (w / 2 ^ s) 8 u
    ∙ shr-shr w s (8 + u)

below_kept : (w t u v : ℕ) → with_byte w (u + (8 + t)) v / 2 ^ t % 256 ≡ w / 2 ^ t % 256
below_kept w t u v = sym (low (with_byte w s v)) ∙ ap (λ (x : ℕ). x % 2 ^ (8 + t) / 2 ^ t) same ∙ low w
  where
    s : ℕ
    s = u + (8 + t)

    same : with_byte w s v % 2 ^ s ≡ w % 2 ^ s
    same = digits_mod (w / 2 ^ s / 256 * 256 + v) (mod-lt w (pow_pos s))

    low : (x : ℕ) → x % 2 ^ s % 2 ^ (8 + t) / 2 ^ t ≡ x / 2 ^ t % 256
    low x = ap (λ (y : ℕ). y / 2 ^ t) (mod-mod-pow x u (8 + t)) ∙ field x 8 t

lane_kept : (w addr other v : ℕ) → v < 256 → (addr % 4 ≡ other % 4 → ⊥) → lane_of (merged w addr v) other ≡ lane_of w other
unfolding lane_of merged
lane_kept w addr other v h ne = ⊎_elim later earlier (bool_is (ltb (addr % 4) (other % 4)))
  where
    later : ltb (addr % 4) (other % 4) ≡ true → with_byte w (lane_shift addr) v / 2 ^ lane_shift other % 256 ≡ w / 2 ^ lane_shift other % 256
    later t =
        let g = ltb-true (addr % 4) (other % 4) t in
        let e : lane_shift addr ≡ 8 * (other % 4 - addr % 4 - 1) + (8 + lane_shift other) = omega arith in
        rw e (below_kept w (lane_shift other) (8 * (other % 4 - addr % 4 - 1)) v)

    earlier : ltb (addr % 4) (other % 4) ≡ false → with_byte w (lane_shift addr) v / 2 ^ lane_shift other % 256 ≡ w / 2 ^ lane_shift other % 256
    earlier t =
        let g = ltb-false (addr % 4) (other % 4) t in
        let e : lane_shift other ≡ lane_shift addr + (8 + 8 * (addr % 4 - other % 4 - 1)) = omega arith in
        rw e (ap (λ (x : ℕ). x % 256) (above_kept w (lane_shift addr) (8 * (addr % 4 - other % 4 - 1)) v h))

pub meaning_holds : Meaning
meaning_holds =
    record {
      empty = empty;
      held = held;
      others = others;
      hit = hit;
      miss = miss;
      load_nothing = load_nothing;
      fetch_nothing = fetch_nothing;
      store_drops = store_drops;
      store_else = store_else;
      external_drops = external_drops;
      external_keeps = external_keeps;
      external_else = external_else;
      visits_at_most = visits_at_most;
      visits_each = visits_each;
      visits_only = visits_only;
      visits_enough = visits_enough;
      others_read = others_read;
      only_control = only_control;
      control_changes = control_changes;
      enable_change = enable_change;
      enable_same = enable_same;
      lane_written = lane_written;
      lane_kept = lane_kept;
      reset_banks = reset_banks;
      reset_keeps = λ c. (refl, refl, refl);
    }
