-- What each way through the functions over a bank's words leaves is what the definition says. Assumes nothing.
use Rattle.std.proofs.Common.{◌≡◌, ℕ, ◌+◌, ◌%◌, ◌^◌, ◌<◌, ◌≤◌, Bool, true, false, cond, not, eqb, List, length, get_or, set, sym, refl, ap, ◌∙◌, arith, length-set, get_or-set_other, get_or-set_same, eq-eqb, ne_eqb}
use Rattle.std.specs.Bool.{beq}
use mir.Val.{bool_byte}
use Rattle.layout.specs.Words.{part, put, on_at, part_length, part_get, part_set_in, part_set_below, put_below, put_same}
use Rattle.cache.specs.Bank.{index_of, tag_of, no_tag, with_tags, accessed, line_dropped, emptied, enabled_to, stats_cleared, swept_tags, swept, line_of, line_stop}
use Rattle.cache.specs.Cache.{cost_of}
use Rattle.cache.specs.Flat.{tag_word, bank_words, bank_at, Touches}
use Rattle.cache.specs.declared.Bank.{Bank}
use Rattle.cache.specs.declared.BankAccess.{BankAccess}
use Rattle.cache.proofs.Sweeps.{bank_swept}
use Rattle.cache.proofs.Banks.{access_hit, access_miss, drop_held, drop_other, enable_kept, enable_changed}

-- ---- one word set, and the tags replaced

module _ (l : List ℕ) (v : ℕ) (long : length l ≡ bank_words) where
  enabled_set : bank_at (set l 0 v) ≡ record { tags = (bank_at l).tags; enabled = eqb (v % 2) 1; hits = (bank_at l).hits; misses = (bank_at l).misses }
  unfolding bank_at
  enabled_set =
      rw (part_set_below l tag_word 256 0 v (omega arith), get_or-set_same l 0 v 0 (omega arith), get_or-set_other l 0 1 v 0 (omega arith), get_or-set_other l 0 2 v 0 (omega arith))

  hits_set : bank_at (set l 1 v) ≡ record { tags = (bank_at l).tags; enabled = (bank_at l).enabled; hits = v; misses = (bank_at l).misses }
  unfolding bank_at
  hits_set =
      rw (part_set_below l tag_word 256 1 v (omega arith), get_or-set_same l 1 v 0 (omega arith), get_or-set_other l 1 0 v 0 (omega arith), get_or-set_other l 1 2 v 0 (omega arith))

  misses_set : bank_at (set l 2 v) ≡ record { tags = (bank_at l).tags; enabled = (bank_at l).enabled; hits = (bank_at l).hits; misses = v }
  unfolding bank_at
  misses_set =
      rw (part_set_below l tag_word 256 2 v (omega arith), get_or-set_same l 2 v 0 (omega arith), get_or-set_other l 2 0 v 0 (omega arith), get_or-set_other l 2 1 v 0 (omega arith))

  tag_set : (j : ℕ) → j < 256 → bank_at (set l (tag_word + j) v) ≡ with_tags (bank_at l) (set (bank_at l).tags j v)
  unfolding bank_at
  tag_set j h =
      rw (
        part_set_in l tag_word 256 j v h,
        get_or-set_other l (tag_word + j) 0 v 0 (omega arith),
        get_or-set_other l (tag_word + j) 1 v 0 (omega arith),
        get_or-set_other l (tag_word + j) 2 v 0 (omega arith),
      )

-- a word in front of a part that is replaced
pub put_get : (l new : List ℕ) (a n : ℕ) → a + n ≤ length l → length new ≡ n → (k : ℕ) → k < a → get_or (put a n l new) k 0 ≡ get_or l k 0
put_get l new a n fits same k h =
    let front : get_or (put a n l new) (0 + k) 0 ≡ get_or l (0 + k) 0 =
    sym (part_get (put a n l new) 0 a k h) ∙ ap (λ (t : List ℕ). get_or t k 0) (put_below l new a n fits same 0 a (omega arith)) ∙ part_get l 0 a k h in
    let z : 0 + k ≡ k = omega arith in
    rw z at front

tags_put : (l new : List ℕ) → length l ≡ bank_words → length new ≡ 256 → bank_at (put tag_word 256 l new) ≡ with_tags (bank_at l) new
unfolding bank_at
tags_put l new long same =
    let fits : tag_word + 256 ≤ length l = omega arith in
    rw (
      put_same l new tag_word 256 fits same,
      put_get l new tag_word 256 fits same 0 (omega arith),
      put_get l new tag_word 256 fits same 1 (omega arith),
      put_get l new tag_word 256 fits same 2 (omega arith),
    )

-- the words that the functions read
module _ (l : List ℕ) where
  is_on : (bank_at l).enabled ≡ on_at l 0
  unfolding bank_at
  is_on = refl

  hits_are : get_or l 1 0 ≡ (bank_at l).hits
  unfolding bank_at
  hits_are = refl

  misses_are : get_or l 2 0 ≡ (bank_at l).misses
  unfolding bank_at
  misses_are = refl

  tags_are : part tag_word 256 l ≡ (bank_at l).tags
  unfolding bank_at
  tags_are = refl

  tag_get : (j : ℕ) → j < 256 → get_or (bank_at l).tags j 0 ≡ get_or l (tag_word + j) 0
  unfolding bank_at
  tag_get j h = part_get l tag_word 256 j h

-- ---- `touch`: the bank is off, a hit, or a miss

touched : (b after : Bank) (penalty pa : ℕ) (hit : Bool) → b.enabled ≡ true → ◌≡◌ {A = BankAccess} (record { bank = after; hit = hit }) (accessed b pa)
    → Touches b penalty pa after (cost_of hit penalty)
touched b after penalty pa hit on e =
    (ap (λ (a : BankAccess). a.bank) e ∙ cond_on b.enabled _ b on, ap (λ (a : BankAccess). cost_of a.hit penalty) e ∙ cond_on b.enabled _ 0 on)
  where
    cond_on : {A : Type 0} (t : Bool) (x y : A) → t ≡ true → x ≡ cond t x y
    cond_on t x y p = rw p

module _ (l : List ℕ) (penalty pa : ℕ) where
  pub touch_off : (get_or l 0 0 % 2 ≡ 1 → ⊥) → Touches (bank_at l) penalty pa (bank_at l) 0
  touch_off p =
      let off : (bank_at l).enabled ≡ false = is_on l ∙ ne_eqb (get_or l 0 0 % 2) 1 p in
      (rw off, rw off)

  module _ (on : get_or l 0 0 % 2 ≡ 1) (long : length l ≡ bank_words) (j t n : ℕ) (ej : j ≡ index_of pa) (et : t ≡ tag_of pa) where
    enabled : (bank_at l).enabled ≡ true
    enabled = is_on l ∙ eq-eqb (get_or l 0 0 % 2) 1 on

    pub touch_hit : get_or l (tag_word + j) 0 ≡ t → n ≡ (get_or l 1 0 + 1) % 2 ^ 32 → Touches (bank_at l) penalty pa (bank_at (set l 1 n)) 0
    touch_hit e en =
        let hit = access_hit (bank_at l) pa j t ej et n (tag_get l j (omega arith) ∙ e) (en ∙ ap (λ (k : ℕ). (k + 1) % 2 ^ 32) (hits_are l)) in
        rw (hits_set l n long) (touched (bank_at l) _ penalty pa true enabled hit)

    pub touch_miss : (get_or l (tag_word + j) 0 ≡ t → ⊥) → n ≡ (get_or (set l (tag_word + j) t) 2 0 + 1) % 2 ^ 32
        → Touches (bank_at l) penalty pa (bank_at (set (set l (tag_word + j) t) 2 n)) penalty
    touch_miss e en =
        let same : get_or (set l (tag_word + j) t) 2 0 ≡ (bank_at l).misses = get_or-set_other l (tag_word + j) 2 t 0 (omega arith) ∙ misses_are l in
        let miss = access_miss (bank_at l) pa j t ej et n (λ q. e (sym (tag_get l j (omega arith)) ∙ q)) (en ∙ ap (λ (k : ℕ). (k + 1) % 2 ^ 32) same) in
        rw (misses_set (set l (tag_word + j) t) n (length-set l (tag_word + j) t ∙ long), tag_set l t long j (omega arith))
        (touched (bank_at l) _ penalty pa false enabled miss)

pub ruleset touches = (touch_off, touch_hit, touch_miss)

-- ---- `invalidate_line` and `invalidate_lines`

module _ (l : List ℕ) (pa j t : ℕ) (ej : j ≡ index_of pa) (et : t ≡ tag_of pa) (long : length l ≡ bank_words) where
  pub line_held : get_or l (tag_word + j) 0 ≡ t → bank_at (set l (tag_word + j) no_tag) ≡ line_dropped (bank_at l) pa
  line_held e = tag_set l no_tag long j (omega arith) ∙ drop_held (bank_at l) pa j t ej et (tag_get l j (omega arith) ∙ e)

  pub line_other : (get_or l (tag_word + j) 0 ≡ t → ⊥) → bank_at l ≡ line_dropped (bank_at l) pa
  line_other e = drop_other (bank_at l) pa j t ej et (λ q. e (sym (tag_get l j (omega arith)) ∙ q))

pub ruleset line_drops = (line_held, line_other)

module _ (l new : List ℕ) (long : length l ≡ bank_words) (same : length new ≡ length (part tag_word 256 l)) where
  fits : length new ≡ 256
  fits = same ∙ part_length l tag_word 256 (omega arith)

  pub lines_swept : (pa end : ℕ) → new ≡ swept_tags (part tag_word 256 l) (line_of pa) (line_stop end)
      → bank_at (put tag_word 256 l new) ≡ swept (bank_at l) (line_of pa) (line_stop end)
  lines_swept pa end e =
      tags_put l new long fits
      ∙ bank_swept (bank_at l) new (line_of pa) (line_stop end) (e ∙ ap (λ (t : List ℕ). swept_tags t (line_of pa) (line_stop end)) (tags_are l))

  pub tags_set : (ts : List ℕ) → length ts ≡ 256 → new ≡ cond (eqb (length (part tag_word 256 l)) (length ts)) ts (part tag_word 256 l)
      → bank_at (put tag_word 256 l new) ≡ with_tags (bank_at l) ts
  tags_set ts n e =
      let all : eqb (length (part tag_word 256 l)) (length ts) ≡ true = eq-eqb _ _ (sym same ∙ fits ∙ sym n) in
      tags_put l new long fits ∙ ap (with_tags (bank_at l)) (e ∙ rw all)

-- ---- `set_enabled` and `clear_stats`

truth_back : (b : Bool) → eqb (bool_byte b % 2) 1 ≡ b
truth_back true = refl
truth_back false = refl

module _ (l : List ℕ) (on : Bool) where
  pub switch_kept : not (beq (eqb (get_or l 0 0 % 2) 1) on) ≡ false → bank_at l ≡ enabled_to (bank_at l) on
  switch_kept p = enable_kept (bank_at l) on (rw (is_on l) p)

  pub switch_changed : (l' : List ℕ) → not (beq (eqb (get_or l 0 0 % 2) 1) on) ≡ true → bank_at l' ≡ emptied (bank_at l) → length l' ≡ length l
      → length l ≡ bank_words → bank_at (set l' 0 (bool_byte on)) ≡ enabled_to (bank_at l) on
  switch_changed l' p e same long =
      enabled_set l' (bool_byte on) (same ∙ long) ∙ rw (truth_back on) (enable_changed (bank_at l) (bank_at l') on (rw (is_on l) p) e)

pub ruleset switches = (switch_kept, switch_changed)

pub counts_cleared : (l : List ℕ) → length l ≡ bank_words → bank_at (set (set l 1 0) 2 0) ≡ stats_cleared (bank_at l)
counts_cleared l long = misses_set (set l 1 0) 0 (length-set l 1 0 ∙ long) ∙ rw (hits_set l 0 long)

-- ---- a bank's words and the bank

-- the words that are set after a call
module _ (l l₀ : List ℕ) (n v : ℕ) (same : length l ≡ length l₀) (long : length l₀ ≡ n) (h : 2 < n) where
  pub second_in : 1 < length (set l 0 v)
  second_in = omega (arith, length-set l 0 v)

  pub third_in : (w : ℕ) → 2 < length (set (set l 0 v) 1 w)
  third_in w = omega (arith, length-set (set l 0 v) 1 w, length-set l 0 v)

pub ruleset set_after = (second_in, third_in)

module _ (l l₀ : List ℕ) (same : length l ≡ length l₀) (long : length l₀ ≡ bank_words) (v w : ℕ) where
  pub bank_packed : (b : Bank) → bank_at l ≡ with_tags (bank_at l₀) b.tags → v ≡ bool_byte b.enabled → w ≡ b.hits
      → bank_at (set (set (set l 0 v) 1 w) 2 b.misses) ≡ b
  bank_packed b e ev ew =
      let l₁ : List ℕ = set l 0 v in
      let long₁ : length l₁ ≡ bank_words = length-set l 0 v ∙ same ∙ long in
      misses_set (set l₁ 1 w) b.misses (length-set l₁ 1 w ∙ long₁)
      ∙ rw (hits_set l₁ w long₁, enabled_set l v (same ∙ long), ev, ew, truth_back b.enabled, e)

pub bank_unpacked : (l ts z : List ℕ) → length l ≡ bank_words → length z ≡ 256 → ts ≡ cond (eqb (length z) (length (part tag_word 256 l))) (part tag_word 256 l) z
    → record { tags = ts; enabled = eqb (get_or l 0 0 % 2) 1; hits = get_or l 1 0; misses = get_or l 2 0 } ≡ bank_at l
unfolding bank_at
bank_unpacked l ts z long n e =
    let all : eqb (length z) (length (part tag_word 256 l)) ≡ true = eq-eqb _ _ (n ∙ sym (part_length l tag_word 256 (omega arith))) in
    rw (e, all)
