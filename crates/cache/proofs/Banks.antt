-- What each way through a bank's functions leaves is what the definition says. Assumes nothing.
use Rattle.std.proofs.Common.{◌≡◌, ℕ, ◌+◌, ◌%◌, ◌^◌, Bool, true, false, cond, not, get_or, set, sym, refl, ap, ◌∙◌, eq-eqb, ne_eqb}
use Rattle.std.specs.Bool.{beq}
use Rattle.common.specs.Cases.{absurd_eq}
use Rattle.cache.specs.Bank.{index_of, tag_of, no_tag, no_tags, with_tags, accessed, line_dropped, emptied, enabled_to, stats_cleared, controlled}
use Rattle.cache.specs.declared.Bank.{Bank}
use Rattle.cache.specs.declared.BankAccess.{BankAccess}

-- ---- `access` and `invalidate_line`: the tag at the index is the address's, or not

abbrev answer : Bank → Bool → BankAccess
answer b hit = record { bank = b; hit = hit }

module _ (b : Bank) (pa i t : ℕ) (ei : i ≡ index_of pa) (et : t ≡ tag_of pa) where
  pub access_hit : (n : ℕ) → get_or b.tags i 0 ≡ t → n ≡ (b.hits + 1) % 2 ^ 32
      → answer (record { tags = b.tags; enabled = b.enabled; hits = n; misses = b.misses }) true ≡ accessed b pa
  unfolding accessed
  access_hit n e en = simp (sym ei, sym et, eq-eqb _ _ e, en)

  pub access_miss : (n : ℕ) → (get_or b.tags i 0 ≡ t → ⊥) → n ≡ (b.misses + 1) % 2 ^ 32
      → answer (record { tags = set b.tags i t; enabled = b.enabled; hits = b.hits; misses = n }) false ≡ accessed b pa
  unfolding accessed
  access_miss n e en = simp (sym ei, sym et, ne_eqb _ _ e, en)

  pub drop_held : get_or b.tags i 0 ≡ t → with_tags b (set b.tags i no_tag) ≡ line_dropped b pa
  unfolding line_dropped
  drop_held e = simp (sym ei, sym et, eq-eqb _ _ e)

  pub drop_other : (get_or b.tags i 0 ≡ t → ⊥) → b ≡ line_dropped b pa
  unfolding line_dropped
  drop_other e = simp (sym ei, sym et, ne_eqb _ _ e)

-- ---- `set_enabled`

abbrev switched : Bank → Bool → Bank
switched b on = record { tags = b.tags; enabled = on; hits = b.hits; misses = b.misses }

same_enabled : (e on : Bool) → not (beq e on) ≡ false → (e ≡ on) × (beq e on ≡ true)
same_enabled true true p = (refl, refl)
same_enabled false false p = (refl, refl)
same_enabled true false p = absurd_eq (cc)
same_enabled false true p = absurd_eq (cc)

pub enable_kept : (b : Bank) (on : Bool) → not (beq b.enabled on) ≡ false → b ≡ enabled_to b on
unfolding enabled_to
enable_kept b on p =
    let s = same_enabled b.enabled on p in
    ap (switched b) s.0 ∙ rw s.1

pub enable_changed : (b e : Bank) (on : Bool) → not (beq b.enabled on) ≡ true → e ≡ emptied b → switched e on ≡ enabled_to b on
unfolding enabled_to
enable_changed b e on p q = ap (λ (x : Bank). switched x on) q ∙ changed (beq b.enabled on) p
  where
    changed : (t : Bool) → not t ≡ true
        → ◌≡◌ {A = Bank} (switched (emptied b) on) (record { tags = cond t b.tags no_tags; enabled = on; hits = b.hits; misses = b.misses })
    changed true p = absurd_eq (cc)
    changed false p = refl

-- ---- `control`: the four ways through its two strobes

module _ (b x : Bank) (on drop clear : Bool) (ex : x ≡ enabled_to b on) where
  pub control_both : (y z : Bank) → drop ≡ true → y ≡ emptied x → clear ≡ true → z ≡ stats_cleared y → z ≡ controlled b on drop clear
  unfolding controlled
  control_both y z p ey q ez = ez ∙ ap stats_cleared (ey ∙ ap emptied ex) ∙ simp (p, q)

  pub control_drop : (y : Bank) → drop ≡ true → y ≡ emptied x → clear ≡ false → y ≡ controlled b on drop clear
  unfolding controlled
  control_drop y p ey q = ey ∙ ap emptied ex ∙ simp (p, q)

  pub control_clear : (z : Bank) → drop ≡ false → clear ≡ true → z ≡ stats_cleared x → z ≡ controlled b on drop clear
  unfolding controlled
  control_clear z p q ez = ez ∙ ap stats_cleared ex ∙ simp (p, q)

  pub control_none : drop ≡ false → clear ≡ false → x ≡ controlled b on drop clear
  unfolding controlled
  control_none p q = ex ∙ simp (p, q)

pub ruleset enables = (enable_changed, enable_kept)
