-- One source that is set: what becomes of each bit, and that a source goes by its own bits alone.
--
--   rise, level_is, level_other == the pending and the level bits of a controller whose source n is set
--   enable_is, fits             == its enable word, and that its words fit
--   Alike i c d                 == c and d have the same two bits of source i
--   own, others                 == setting a source goes by its own two bits, and leaves those of others
--   unmoved, kept, again        == a source that is set to the level that it has changes nothing
--   same                        == controllers that are alike at every source are equal
-- Assumes nothing.
use Rattle.std.proofs.Common.{◌≡◌, refl, sym, ap, ap₂, ◌∙◌, ⊎_elim, Bool, true, false, cond, not, ◌&&◌, ◌||◌, ℕ, ◌^◌, ◌≤◌, ◌<◌, lt-ltb, le-ltb, eq-eqb, ne_eqb, eqb-true, eqb, ltb}
use Rattle.std.proofs.lemmas.Bool.{eqb-false}
use mathlib.Core.Bool.{or-true, or-false, and-true}
use Rattle.common.specs.Cases.{bool_is, cond_holds, and_false}
use Rattle.common.specs.Bits.{bit_set, with_bit}
use Rattle.common.specs.Bits.Laws.{same_bits, with_bit_lem, without_bit_lem, with_bit_fits, without_bits_fits}
use Rattle.irqc.specs.Irqc.{source_set}
use Rattle.irqc.specs.Meaning.{Word, Controller}
use Rattle.irqc.specs.declared.IrqController.{IrqController}

-- ---- its bits

or_none : (a b : Bool) → (a || (b && false)) ≡ a
or_none true b = refl
or_none false true = refl
or_none false false = refl

-- of two equal sources one bit: latched where its level was low, and already there or not where it was high
latched : (c : IrqController) (n i : ℕ) (was : Bool) → bit_set c.source_level n ≡ was
    → bit_set (cond was c.pending (with_bit c.pending n)) i ≡ (bit_set c.pending i || (eqb n i && not was))
latched c n i true e = sym (or_none (bit_set c.pending i) (eqb n i))
latched c n i false e = with_bit_lem c.pending n i ∙ ap (λ (b : Bool). bit_set c.pending i || b) (sym (and-true (eqb n i)))

pub rise : (c : IrqController) (n i : ℕ) (level : Bool) → n < 16 → i < 16
    → bit_set (source_set c n level).pending i ≡ (bit_set c.pending i || (eqb n i && level && not (bit_set c.source_level n)))
unfolding source_set
rise c n i true hn hi = simp (lt-ltb n 16 hn, and-true) (latched c n i (bit_set c.source_level n) refl)
rise c n i false hn hi = simp (lt-ltb n 16 hn) (sym (low_kept (bit_set c.pending i) (eqb n i) (not (bit_set c.source_level n))))
  where
    low_kept : (a b d : Bool) → (a || (b && false && d)) ≡ a
    low_kept true b d = refl
    low_kept false true d = refl
    low_kept false false d = refl

pub level_is : (c : IrqController) (n : ℕ) (level : Bool) → n < 16 → bit_set (source_set c n level).source_level n ≡ level
unfolding source_set
level_is c n true h = simp (lt-ltb n 16 h, with_bit_lem c.source_level n n, eq-eqb n n refl) (or-true (bit_set c.source_level n))
level_is c n false h = simp (lt-ltb n 16 h, without_bit_lem 16 c.source_level n n h h, eq-eqb n n refl) (and_false (bit_set c.source_level n))

pub level_other : (c : IrqController) (n i : ℕ) (level : Bool) → n < 16 → i < 16 → (n ≡ i → ⊥)
    → bit_set (source_set c n level).source_level i ≡ bit_set c.source_level i
unfolding source_set
level_other c n i true hn hi ne = simp (lt-ltb n 16 hn) (with_bit_lem c.source_level n i ∙ simp (ne_eqb n i ne, or-false))
level_other c n i false hn hi ne = simp (lt-ltb n 16 hn) (without_bit_lem 16 c.source_level n i hn hi ∙ simp (ne_eqb n i ne, and-true))

pub past : (c : IrqController) (n : ℕ) (level : Bool) → 16 ≤ n → source_set c n level ≡ c
unfolding source_set
past c n level h = simp (le-ltb n 16 h)

pub enable_is : (c : IrqController) (n : ℕ) (level : Bool) → (source_set c n level).enable ≡ c.enable
unfolding source_set
enable_is c n level = cond_holds IsSame (ltb n 16) (cond_holds IsSame level refl refl) refl
  where
    IsSame : IrqController → Type 0
    IsSame d = d.enable ≡ c.enable

pub fits : (c : IrqController) (n : ℕ) (level : Bool) → Controller c → n < 16 → Controller (source_set c n level)
unfolding source_set
fits c n true h hn =
    simp (lt-ltb n 16 hn) (
      cond_holds Word (bit_set c.source_level n) h.0 (with_bit_fits 16 c.pending n h.0 hn),
      h.1,
      with_bit_fits 16 c.source_level n h.2 hn,
    )
fits c n false h hn = simp (lt-ltb n 16 hn) (h.0, h.1, without_bits_fits 16 c.source_level (2 ^ n) h.2)

-- ---- two controllers, source by source

pub record Alike (i : ℕ) (c d : IrqController) : Type 0 where
  pub pending : bit_set c.pending i ≡ bit_set d.pending i
  pub level : bit_set c.source_level i ≡ bit_set d.source_level i

pub itself : {i : ℕ} {c : IrqController} → Alike i c c
itself = record { pending = refl; level = refl }

pub turned : {i : ℕ} {c d : IrqController} → Alike i c d → Alike i d c
turned p = record { pending = sym p.pending; level = sym p.level }

pub joined : {i : ℕ} {c d e : IrqController} → Alike i c d → Alike i d e → Alike i c e
joined p q = record { pending = p.pending ∙ q.pending; level = p.level ∙ q.level }

pub own : (c d : IrqController) (n : ℕ) (level : Bool) → n < 16 → Alike n c d → Alike n (source_set c n level) (source_set d n level)
own c d n level h e =
    record {
      pending = rise c n n level h h ∙ ap₂ (λ (p v : Bool). p || (eqb n n && level && not v)) e.pending e.level ∙ sym (rise d n n level h h);
      level = level_is c n level h ∙ sym (level_is d n level h);
    }

pub others : (c : IrqController) (n i : ℕ) (level : Bool) → n < 16 → i < 16 → (n ≡ i → ⊥) → Alike i (source_set c n level) c
others c n i level hn hi ne =
    record { pending = rise c n i level hn hi ∙ simp (ne_eqb n i ne, or-false); level = level_other c n i level hn hi ne }

-- a source that is set to the level that it has: nothing rises
no_rise : (p e l : Bool) → (p || (e && l && not l)) ≡ p
no_rise true e l = refl
no_rise false true true = refl
no_rise false true false = refl
no_rise false false l = refl

pub unmoved : (c : IrqController) (n i : ℕ) (level : Bool) → n < 16 → i < 16 → bit_set c.source_level n ≡ level
    → Alike i (source_set c n level) c
unmoved c n i level hn hi e =
    record {
      pending = rise c n i level hn hi ∙ simp e (no_rise (bit_set c.pending i) (eqb n i) level);
      level =
          ⊎_elim
          (λ (t : eqb n i ≡ true). let m = eqb-true n i t in rw (sym m) (level_is c n level hn ∙ sym e))
          (λ (t : eqb n i ≡ false). level_other c n i level hn hi (eqb-false n i t))
          (bool_is (eqb n i));
    }

pub again : (c : IrqController) (n : ℕ) (level : Bool) → n < 16 → Alike n (source_set (source_set c n level) n level) (source_set c n level)
again c n level h = unmoved (source_set c n level) n n level h h (level_is c n level h)

pub same : (c d : IrqController) → Controller c → Controller d → c.enable ≡ d.enable → ((i : ℕ) → i < 16 → Alike i c d) → c ≡ d
same c d hc hd e alike =
    let p = same_bits 16 c.pending d.pending hc.0 hd.0 (λ i h. (alike i h).pending) in
    let l = same_bits 16 c.source_level d.source_level hc.2 hd.2 (λ i h. (alike i h).level) in
    words c.pending d.pending c.enable d.enable c.source_level d.source_level p e l
  where
    words : (p p' e e' l l' : ℕ) → p ≡ p' → e ≡ e' → l ≡ l'
        → ◌≡◌ {A = IrqController} (record { pending = p; enable = e; source_level = l }) (record { pending = p'; enable = e'; source_level = l' })
    words p p' e e' l l' hp he hl = rw (hp, he, hl)

pub kept : (c : IrqController) (n : ℕ) (level : Bool) → Controller c → n < 16 → bit_set c.source_level n ≡ level → source_set c n level ≡ c
kept c n level hc hn e = same (source_set c n level) c (fits c n level hc hn) hc (enable_is c n level) (λ i hi. unmoved c n i level hn hi e)
