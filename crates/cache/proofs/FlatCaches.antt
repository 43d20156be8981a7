-- What each way through the functions over the cache's words leaves is what the definition says. Assumes nothing.
use Rattle.std.proofs.Common.{◌≡◌, ℕ, ◌+◌, ◌%◌, ◌≤◌, Bool, true, false, cond, ◌&&◌, eqb, List, length, get_or, set, sym, refl, ap, ◌∙◌, ap₂, arith, length-set, get_or-set_other, get_or-set_same}
use mathlib.Core.Bool.{and-true}
use Rattle.layout.specs.Words.{part, put, part_length, part_get, part_set_below, put_length, put_same, put_below, put_above, Reads, over_none, over_all, reads_all}
use Rattle.cache.specs.Bank.{accessed, new_bank, line_of, line_stop, line_dropped, controlled, swept}
use Rattle.cache.specs.Cache.{with_banks, new_cache, saturated, range_has, cacheable_at, counts, cost_of, reset_of, fetched, loaded, stored, external_written, enable_bits, ctrl_word, register_at, reg_read, reg_written}
use Rattle.cache.specs.Flat.{bank_words, i_word, d_word, cache_words, bank_at, cache_at, Touches, Costs, Accesses, Changes}
use Rattle.cache.specs.declared.Bank.{Bank}
use Rattle.cache.specs.declared.L1Cache.{L1Cache}
use Rattle.cache.proofs.Caches.{Served, load_served, fetch_served, load_outside, fetch_outside, store_in as line-gone, store_out as Line-kept, masked, control_written, other_written}
use Rattle.cache.proofs.FlatBanks.{put_get}

-- ---- a bank's words replaced

module _ (l new : List ℕ) (long : length l ≡ cache_words) (same : length new ≡ bank_words) where
  i_put : cache_at (put i_word bank_words l new) ≡ with_banks (cache_at l) (bank_at new) (cache_at l).d
  unfolding cache_at
  i_put =
      let fits : i_word + bank_words ≤ length l = omega arith in
      rw (
        put_same l new i_word bank_words fits same,
        put_above l new i_word bank_words fits same d_word bank_words (omega arith),
        put_get l new i_word bank_words fits same 0 (omega arith),
        put_get l new i_word bank_words fits same 1 (omega arith),
        put_get l new i_word bank_words fits same 2 (omega arith),
      )

  d_put : cache_at (put d_word bank_words l new) ≡ with_banks (cache_at l) (cache_at l).i (bank_at new)
  unfolding cache_at
  d_put =
      let fits : d_word + bank_words ≤ length l = omega arith in
      rw (
        put_same l new d_word bank_words fits same,
        put_below l new d_word bank_words fits same i_word bank_words (omega arith),
        put_get l new d_word bank_words fits same 0 (omega arith),
        put_get l new d_word bank_words fits same 1 (omega arith),
        put_get l new d_word bank_words fits same 2 (omega arith),
      )

-- the parts that are lent
module _ (l : List ℕ) where
  i_at : bank_at (part i_word bank_words l) ≡ (cache_at l).i
  unfolding cache_at
  i_at = refl

  d_at : bank_at (part d_word bank_words l) ≡ (cache_at l).d
  unfolding cache_at
  d_at = refl

  penalty_at : get_or l 2 0 ≡ (cache_at l).miss_penalty
  unfolding cache_at
  penalty_at = refl

  -- the code's test of an address
  cacheable_is : (pa : ℕ) (t u : Bool) → t ≡ range_has (get_or l 0 0) (get_or l 1 0) pa → t ≡ u → cacheable_at (cache_at l) pa ≡ u
  unfolding cache_at cacheable_at
  cacheable_is pa t u e q = sym e ∙ q

-- ---- `load` and `fetch`

served : (c : L1Cache) (b after : Bank) (penalty pa n : ℕ) → cacheable_at c pa ≡ true → penalty ≡ c.miss_penalty → Touches b penalty pa after n
    → Served c b pa after n
served c b after penalty pa n in-range e t =
    let reached : b.enabled ≡ counts c b pa = sym (and-true b.enabled) ∙ ap (λ (u : Bool). b.enabled && u) (sym in-range) in
    record {
      bank = t.0 ∙ ap (λ (u : Bool). cond u (accessed b pa).bank b) reached;
      stall = t.1 ∙ ap₂ (λ (u : Bool) (p : ℕ). cond u (cost_of (accessed b pa).hit p) 0) reached e;
    }

module _ (l : List ℕ) (long : length l ≡ cache_words) (pa : ℕ) (t : Bool) (et : t ≡ range_has (get_or l 0 0) (get_or l 1 0) pa) where
  pub load_out : t ≡ false → Costs l l 0 (loaded (cache_at l) pa)
  load_out q = over_all cache_words l 0 0 l _ long refl (sym (load_outside (cache_at l) pa (cacheable_is l pa t false et q)))

  pub fetch_out : t ≡ false → Costs l l 0 (fetched (cache_at l) pa)
  fetch_out q = over_all cache_words l 0 0 l _ long refl (sym (fetch_outside (cache_at l) pa (cacheable_is l pa t false et q)))

  pub store_out : t ≡ false → Changes l l (stored (cache_at l) pa)
  store_out q = over_all cache_words l tt tt l _ long refl (Line-kept (cache_at l) pa t (sym (cacheable_is l pa t t et refl)) q)

  module _ (q : t ≡ true) (new : List ℕ) where
    module _ (same : length new ≡ length (part d_word bank_words l)) where
      d_long : length new ≡ bank_words
      d_long = same ∙ part_length l d_word bank_words (omega arith)

      pub load_in : (n penalty : ℕ) → penalty ≡ get_or l 2 0 → Touches (bank_at (part d_word bank_words l)) penalty pa (bank_at new) n
          → Costs l (put d_word bank_words l new) n (loaded (cache_at l) pa)
      load_in n penalty e touches =
          over_all cache_words l n 0 (put d_word bank_words l new) _ long (put_length l new d_word bank_words (omega arith) d_long)
          (ap (λ (c : L1Cache). record { cache = c; stall = n }) (d_put l new long d_long)
          ∙ load_served (cache_at l) pa (bank_at new) n
          (served (cache_at l) (cache_at l).d (bank_at new) penalty pa n (cacheable_is l pa t true et q) (e ∙ penalty_at l)
          (rw (d_at l) at touches)))

    module _ (same : length new ≡ length (part i_word bank_words l)) where
      i_long : length new ≡ bank_words
      i_long = same ∙ part_length l i_word bank_words (omega arith)

      pub fetch_in : (n penalty : ℕ) → penalty ≡ get_or l 2 0 → Touches (bank_at (part i_word bank_words l)) penalty pa (bank_at new) n
          → Costs l (put i_word bank_words l new) n (fetched (cache_at l) pa)
      fetch_in n penalty e touches =
          over_all cache_words l n 0 (put i_word bank_words l new) _ long (put_length l new i_word bank_words (omega arith) i_long)
          (ap (λ (c : L1Cache). record { cache = c; stall = n }) (i_put l new long i_long)
          ∙ fetch_served (cache_at l) pa (bank_at new) n
          (served (cache_at l) (cache_at l).i (bank_at new) penalty pa n (cacheable_is l pa t true et q) (e ∙ penalty_at l)
          (rw (i_at l) at touches)))

      pub store_in : bank_at new ≡ line_dropped (bank_at (part i_word bank_words l)) pa → Changes l (put i_word bank_words l new) (stored (cache_at l) pa)
      store_in e =
          over_all cache_words l tt tt (put i_word bank_words l new) _ long (put_length l new i_word bank_words (omega arith) i_long)
          (i_put l new long i_long
          ∙ line-gone (cache_at l) pa t (bank_at new) (sym (cacheable_is l pa t t et refl)) q (e ∙ ap (λ (b : Bank). line_dropped b pa) (i_at l)))

-- in either bank
pub access_none : (at : ℕ) (l : List ℕ) (pa : ℕ) → (length l ≡ cache_words → ⊥) → Accesses at l l 0 pa
access_none at l pa h = (λ _. over_none cache_words l 0 0 _ h refl, λ _. over_none cache_words l 0 0 _ h refl)

module _ (at : ℕ) (l : List ℕ) (long : length l ≡ cache_words) (pa : ℕ) (t : Bool) (et : t ≡ range_has (get_or l 0 0) (get_or l 1 0) pa) where
  pub access_out : t ≡ false → Accesses at l l 0 pa
  access_out q = (λ _. fetch_out l long pa t et q, λ _. load_out l long pa t et q)

  pub access_in : t ≡ true → (new : List ℕ) (m : ℕ) → m ≡ bank_words → length new ≡ length (part at m l) → (n penalty : ℕ) → penalty ≡ get_or l 2 0
      → Touches (bank_at (part at m l)) penalty pa (bank_at new) n → Accesses at l (put at m l new) n pa
  access_in q new m em same n penalty e touches = (
    λ (p : at ≡ i_word). rw (p, em) (fetch_in l long pa t et q new (rw (p, em) at same) n penalty e (rw (p, em) at touches)),
    λ (p : at ≡ d_word). rw (p, em) (load_in l long pa t et q new (rw (p, em) at same) n penalty e (rw (p, em) at touches)),
  )

pub ruleset accesses = (access_none, access_out, access_in, store_out, store_in)

-- ---- both banks' words replaced, one after the other

module _ (l i d : List ℕ) (long : length l ≡ cache_words) (same-i : length i ≡ length (part i_word bank_words l))
    (same-d : length d ≡ length (part d_word bank_words (put i_word bank_words l i))) where
  abbrev l₁ : List ℕ
  l₁ = put i_word bank_words l i

  abbrev l₂ : List ℕ
  l₂ = put d_word bank_words l₁ d

  long_i : length i ≡ bank_words
  long_i = same-i ∙ part_length l i_word bank_words (omega arith)

  long₁ : length l₁ ≡ length l
  long₁ = put_length l i i_word bank_words (omega arith) long_i

  long_d : length d ≡ bank_words
  long_d = same-d ∙ part_length l₁ d_word bank_words (omega (arith, long₁))

  both_length : length l₂ ≡ length l
  both_length = put_length l₁ d d_word bank_words (omega (arith, long₁)) long_d ∙ long₁

  both_put : cache_at l₂ ≡ with_banks (cache_at l) (bank_at i) (bank_at d)
  both_put = d_put l₁ d (long₁ ∙ long) long_d ∙ ap (λ (c : L1Cache). with_banks c c.i (bank_at d)) (i_put l i long long_i)

  -- the second bank as it is lent is the one that was there
  d_there : bank_at (part d_word bank_words l₁) ≡ (cache_at l).d
  d_there = d_at l₁ ∙ ap (λ (c : L1Cache). c.d) (i_put l i long long_i)

  both : (c : L1Cache) → with_banks (cache_at l) (bank_at i) (bank_at d) ≡ c → Changes l l₂ c
  both c e = over_all cache_words l tt tt l₂ _ long both_length (both_put ∙ e)

  pub both_swept : (pa len end : ℕ) → end ≡ saturated pa len → bank_at i ≡ swept (bank_at (part i_word bank_words l)) (line_of pa) (line_stop end)
      → bank_at d ≡ swept (bank_at (part d_word bank_words l₁)) (line_of pa) (line_stop end) → Changes l l₂ (external_written (cache_at l) pa len)
  unfolding external_written
  both_swept pa len end e p q =
      both _
      (ap₂ (with_banks (cache_at l)) (rw (i_at l, e) at p) (rw (d_there, e) at q))

  pub both_controlled : (offset v : ℕ) → offset ≡ 4 → bank_at i ≡ controlled (bank_at (part i_word bank_words l)) (masked v 1) (masked v 256) (masked v 1024)
      → bank_at d ≡ controlled (bank_at (part d_word bank_words l₁)) (masked v 2) (masked v 512) (masked v 1024) → Changes l l₂ (reg_written (cache_at l) offset v)
  both_controlled offset v e p q =
      both _ (control_written (cache_at l) (bank_at i) (bank_at d) offset v e (rw (i_at l) at p) (rw d_there at q))

  pub both_packed : (b e : Bank) → bank_at i ≡ b → bank_at d ≡ e → cache_at l₂ ≡ with_banks (cache_at l) b e
  both_packed b e p q = both_put ∙ ap₂ (with_banks (cache_at l)) p q

pub other_kept : (l : List ℕ) (offset v : ℕ) → length l ≡ cache_words → (offset ≡ 4 → ⊥) → Changes l l (reg_written (cache_at l) offset v)
other_kept l offset v long e = over_all cache_words l tt tt l _ long refl (other_written (cache_at l) offset v e)

pub ruleset changes = (both_swept, both_controlled, other_kept)

-- ---- `read_reg`

pub register_read : (l : List ℕ) (offset ctrl r : ℕ) → length l ≡ cache_words
    → ctrl ≡ enable_bits (eqb (get_or l i_word 0 % 2) 1) (eqb (get_or l d_word 0 % 2) 1)
    → r ≡ register_at offset ctrl (get_or l (i_word + 1) 0) (get_or l (i_word + 2) 0) (get_or l (d_word + 1) 0) (get_or l (d_word + 2) 0)
    → Reads cache_words l r 0 (reg_read (cache_at l) offset)
unfolding bank_at cache_at reg_read ctrl_word
register_read l offset ctrl r long e q =
    reads_all cache_words l r 0 _ long
    (q
    ∙ rw (
      e,
      part_get l i_word bank_words 0 (omega arith),
      part_get l i_word bank_words 1 (omega arith),
      part_get l i_word bank_words 2 (omega arith),
      part_get l d_word bank_words 0 (omega arith),
      part_get l d_word bank_words 1 (omega arith),
      part_get l d_word bank_words 2 (omega arith),
    ))

-- ---- `reset` and `pack`

module _ (l : List ℕ) (v : ℕ) (long : length l ≡ cache_words) where
  start_set : cache_at (set l 0 v) ≡ record { i = (cache_at l).i; d = (cache_at l).d; ram_start = v; ram_end = (cache_at l).ram_end; miss_penalty = (cache_at l).miss_penalty }
  unfolding cache_at
  start_set =
      rw (
        part_set_below l i_word bank_words 0 v (omega arith),
        part_set_below l d_word bank_words 0 v (omega arith),
        get_or-set_same l 0 v 0 (omega arith),
        get_or-set_other l 0 1 v 0 (omega arith),
        get_or-set_other l 0 2 v 0 (omega arith),
      )

  end_set : cache_at (set l 1 v) ≡ record { i = (cache_at l).i; d = (cache_at l).d; ram_start = (cache_at l).ram_start; ram_end = v; miss_penalty = (cache_at l).miss_penalty }
  unfolding cache_at
  end_set =
      rw (
        part_set_below l i_word bank_words 1 v (omega arith),
        part_set_below l d_word bank_words 1 v (omega arith),
        get_or-set_same l 1 v 0 (omega arith),
        get_or-set_other l 1 0 v 0 (omega arith),
        get_or-set_other l 1 2 v 0 (omega arith),
      )

  penalty_set : cache_at (set l 2 v) ≡ record { i = (cache_at l).i; d = (cache_at l).d; ram_start = (cache_at l).ram_start; ram_end = (cache_at l).ram_end; miss_penalty = v }
  unfolding cache_at
  penalty_set =
      rw (
        part_set_below l i_word bank_words 2 v (omega arith),
        part_set_below l d_word bank_words 2 v (omega arith),
        get_or-set_same l 2 v 0 (omega arith),
        get_or-set_other l 2 0 v 0 (omega arith),
        get_or-set_other l 2 1 v 0 (omega arith),
      )

module _ (l l₀ : List ℕ) (same : length l ≡ length l₀) (long : length l₀ ≡ cache_words) where
  pub cache_reset : (i d : Bank) → i ≡ new_bank → d ≡ new_bank → cache_at l ≡ with_banks (cache_at l₀) i d → Changes l₀ l (reset_of (cache_at l₀))
  cache_reset i d p q e = over_all cache_words l₀ tt tt l _ long same (e ∙ ap₂ (with_banks (cache_at l₀)) p q)

  pub cache_packed : (c : L1Cache) → cache_at l ≡ with_banks (cache_at l₀) c.i c.d
      → Changes l₀ (set (set (set l 0 c.ram_start) 1 c.ram_end) 2 c.miss_penalty) c
  cache_packed c e =
      let l₁ : List ℕ = set l 0 c.ram_start in
      let l₂ : List ℕ = set l₁ 1 c.ram_end in
      let g₁ : length l₁ ≡ length l₀ = length-set l 0 c.ram_start ∙ same in
      let g₂ : length l₂ ≡ length l₀ = length-set l₁ 1 c.ram_end ∙ g₁ in
      over_all cache_words l₀ tt tt (set l₂ 2 c.miss_penalty) _ long (length-set l₂ 2 c.miss_penalty ∙ g₂)
      (penalty_set l₂ c.miss_penalty (g₂ ∙ long)
      ∙ rw (end_set l₁ c.ram_end (g₁ ∙ long), start_set l c.ram_start (same ∙ long), e))

-- ---- `unpack`

module _ (l : List ℕ) (long : length l ≡ cache_words) where
  pub cache_unpacked : (i d : Bank) → i ≡ bank_at (part i_word bank_words l) → d ≡ bank_at (part d_word bank_words l)
      → Reads cache_words l (record { i = i; d = d; ram_start = get_or l 0 0; ram_end = get_or l 1 0; miss_penalty = get_or l 2 0 }) (new_cache 0 0) (cache_at l)
  unfolding cache_at
  cache_unpacked i d p q = reads_all cache_words l _ (new_cache 0 0) _ long (rw (p, q))
