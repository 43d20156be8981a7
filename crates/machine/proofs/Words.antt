-- The machine's words: what a part that comes back changed makes of the machine. Assumes nothing.
--
--   sys_long, cache_long  == a part of the machine's words has its length
--   sys_left, cache_left  == and leaves as many words as there were
--   sys_put, cache_put    == other words of the privilege state, or of the cache
--   irqc_read, irqc_put   == the controller of its words, and other words of it
--   packed, unpacked      == the words of a machine by value, and the machine of its words
use Rattle.std.proofs.Common.{◌≡◌, ℕ, ◌+◌, ◌%◌, ◌^◌, ◌<◌, ◌≤◌, List, length, get_or, set, sym, ◌∙◌, arith, length-set, get_or-set_other, get_or-set_same}
use Rattle.cache.specs.Flat.{cache_words, cache_at, Changes}
use Rattle.cache.specs.declared.L1Cache.{L1Cache}
use Rattle.irqc.specs.declared.IrqController.{IrqController}
use Rattle.layout.specs.Words.{part, put, Reads, part_length, part_get, part_set_above, put_length, put_same, put_below, put_above}
use Rattle.privilege.specs.Flat.{system_words, sys_at, reg_at, Comes}
use Rattle.privilege.specs.declared.state.SystemState.{SystemState}
use Rattle.machine.specs.Flat.{cache_from, irqc_from, state_words, irqc_at, machine_at, Left}
use Rattle.machine.specs.State.{with_reg, with_cache, with_irqc}
use Rattle.machine.specs.declared.state.Machine.{Machine}

module _ (l : List ℕ) (long : length l ≡ state_words) where
  pub sys_long : length (part 0 system_words l) ≡ system_words
  sys_long = part_length l 0 system_words (omega arith)

  pub cache_long : length (part cache_from cache_words l) ≡ cache_words
  cache_long = part_length l cache_from cache_words (omega arith)

  module _ (new : List ℕ) where
    module _ (same : length new ≡ system_words) where
      fits_sys : 0 + system_words ≤ length l
      fits_sys = omega arith

      pub sys_left : length (put 0 system_words l new) ≡ length l
      sys_left = put_length l new 0 system_words fits_sys same

      pub sys_put : machine_at (put 0 system_words l new) ≡ with_reg (machine_at l) (sys_at new) (reg_at new)
      unfolding machine_at
      sys_put =
          rw (
            put_same l new 0 system_words fits_sys same,
            put_above l new 0 system_words fits_sys same cache_from cache_words (omega arith),
            put_above l new 0 system_words fits_sys same irqc_from 3 (omega arith),
          )

    module _ (same : length new ≡ cache_words) where
      fits_cache : cache_from + cache_words ≤ length l
      fits_cache = omega arith

      pub cache_left : length (put cache_from cache_words l new) ≡ length l
      cache_left = put_length l new cache_from cache_words fits_cache same

      pub cache_put : machine_at (put cache_from cache_words l new) ≡ with_cache (machine_at l) (cache_at new)
      unfolding machine_at
      cache_put =
          rw (
            put_same l new cache_from cache_words fits_cache same,
            put_below l new cache_from cache_words fits_cache same 0 system_words (omega arith),
            put_above l new cache_from cache_words fits_cache same irqc_from 3 (omega arith),
          )

-- ---- the controller

pub irqc_read : (l : List ℕ) (a b c : ℕ) → a ≡ get_or l irqc_from 0 % 2 ^ 16 → b ≡ get_or l (irqc_from + 1) 0 % 2 ^ 16 → c ≡ get_or l (irqc_from + 2) 0 % 2 ^ 16
    → record { pending = a; enable = b; source_level = c } ≡ (machine_at l).irqc
unfolding machine_at
irqc_read l a b c p q r =
    rw (part_get l irqc_from 3 0 (omega arith), part_get l irqc_from 3 1 (omega arith), part_get l irqc_from 3 2 (omega arith), p, q, r)

module _ (l : List ℕ) (long : length l ≡ state_words) (c : IrqController) (h : c.pending < 2 ^ 16) (g : c.enable < 2 ^ 16) (f : c.source_level < 2 ^ 16) where
  abbrev l₁ : List ℕ
  l₁ = set l irqc_from c.pending

  abbrev l₂ : List ℕ
  l₂ = set l₁ (irqc_from + 1) c.enable

  abbrev l₃ : List ℕ
  l₃ = set l₂ (irqc_from + 2) c.source_level

  long₁ : length l₁ ≡ state_words
  long₁ = length-set l irqc_from c.pending ∙ long

  long₂ : length l₂ ≡ state_words
  long₂ = length-set l₁ (irqc_from + 1) c.enable ∙ long₁

  long₃ : length l₃ ≡ length l
  long₃ = length-set l₂ (irqc_from + 2) c.source_level ∙ long₂ ∙ sym long

  -- below the controller nothing has changed
  below : (a n : ℕ) → a + n ≤ irqc_from → part a n l₃ ≡ part a n l
  below a n b =
      part_set_above l₂ a n (irqc_from + 2) c.source_level (omega arith)
      ∙ part_set_above l₁ a n (irqc_from + 1) c.enable (omega arith)
      ∙ part_set_above l a n irqc_from c.pending (omega arith)

  first : get_or l₃ irqc_from 0 ≡ c.pending
  first =
      get_or-set_other l₂ (irqc_from + 2) irqc_from c.source_level 0 (omega arith)
      ∙ get_or-set_other l₁ (irqc_from + 1) irqc_from c.enable 0 (omega arith)
      ∙ get_or-set_same l irqc_from c.pending 0 (omega arith)

  second : get_or l₃ (irqc_from + 1) 0 ≡ c.enable
  second =
      get_or-set_other l₂ (irqc_from + 2) (irqc_from + 1) c.source_level 0 (omega arith)
      ∙ get_or-set_same l₁ (irqc_from + 1) c.enable 0 (omega (arith, long₁))

  third : get_or l₃ (irqc_from + 2) 0 ≡ c.source_level
  third = get_or-set_same l₂ (irqc_from + 2) c.source_level 0 (omega (arith, long₂))

  controller : irqc_at (part irqc_from 3 l₃) ≡ c
  controller =
      let p : get_or l₃ irqc_from 0 % 2 ^ 16 ≡ c.pending = rw first (omega arith) in
      let q : get_or l₃ (irqc_from + 1) 0 % 2 ^ 16 ≡ c.enable = rw second (omega arith) in
      let r : get_or l₃ (irqc_from + 2) 0 % 2 ^ 16 ≡ c.source_level = rw third (omega arith) in
      rw (part_get l₃ irqc_from 3 0 (omega arith), part_get l₃ irqc_from 3 1 (omega arith), part_get l₃ irqc_from 3 2 (omega arith), p, q, r)

  pub irqc_put : Left l l₃ (with_irqc (machine_at l) c)
  unfolding machine_at
  irqc_put = (long₃, rw (below 0 system_words (omega arith), below cache_from cache_words (omega arith), controller))

-- ---- a machine by value

module _ (l new : List ℕ) (M : Machine) (long : length l ≡ state_words) (same : length new ≡ length (part 0 system_words l))
    (w : Comes (part 0 system_words l) new M.sys M.reg) where
  abbrev lₛ : List ℕ
  lₛ = put 0 system_words l new

  size_sys : length new ≡ system_words
  size_sys = same ∙ sys_long l long

  longₛ : length lₛ ≡ state_words
  longₛ = sys_left l long new size_sys ∙ long

  pub packed : (new₂ l₃ : List ℕ) → length new₂ ≡ length (part cache_from cache_words lₛ) → Changes (part cache_from cache_words lₛ) new₂ M.cache
      → Left (put cache_from cache_words lₛ new₂) l₃ (with_irqc (machine_at (put cache_from cache_words lₛ new₂)) M.irqc)
      → Left l l₃ M
  packed new₂ l₃ same₂ w₂ w₃ =
      let size₂ : length new₂ ≡ cache_words = same₂ ∙ cache_long lₛ longₛ in
      let is = (w.0 (sys_long l long)).1 in
      let second : machine_at (put cache_from cache_words lₛ new₂) ≡ with_cache (machine_at lₛ) M.cache =
      cache_put lₛ longₛ new₂ size₂ ∙ rw (w₂.0 (cache_long lₛ longₛ)).1 in
      let first : machine_at lₛ ≡ with_reg (machine_at l) M.sys M.reg = sys_put l long new size_sys ∙ rw (is.0, is.1) in
      (w₃.0 ∙ cache_left lₛ longₛ new₂ size₂ ∙ sys_left l long new size_sys, w₃.1 ∙ rw (second, first))

pub unpacked : (l : List ℕ) (s none : SystemState) (c none₂ : L1Cache) (i : IrqController) (reg none₃ : List ℕ) → length l ≡ state_words
    → Reads system_words (part 0 system_words l) s none (sys_at (part 0 system_words l)) → Reads cache_words (part cache_from cache_words l) c none₂ (cache_at (part cache_from cache_words l))
    → i ≡ (machine_at l).irqc → Reads system_words (part 0 system_words l) reg none₃ (reg_at (part 0 system_words l))
    → record { sys = s; cache = c; irqc = i; reg = reg } ≡ machine_at l
unfolding machine_at
unpacked l s none c none₂ i reg none₃ long p q r t =
    rw (p.0 (sys_long l long), q.0 (cache_long l long), r, t.0 (sys_long l long))

pub ruleset words = (sys_long, cache_long, irqc_read, irqc_put, packed, unpacked)
