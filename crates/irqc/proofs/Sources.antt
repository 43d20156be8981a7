-- Several sources at once: each is as if it had been set alone, so a source more in the mask is that source set last; and since a source
-- that keeps its level changes nothing, setting those that change sets all that the mask has. Assumes nothing.
use Rattle.std.proofs.Common.{◌≡◌, refl, sym, ap, ◌∙◌, ⊎_elim, Bool, true, false, cond, not, ◌&&◌, ℕ, zero, suc, ◌+◌, ◌*◌, ◌%◌, ◌^◌, ◌≤◌, ◌<◌, add-one, arith, eq-eqb, eqb-true, lit≤, eqb, bit_and, bit_xor}
use Rattle.std.proofs.lemmas.Bool.{eqb-false}
use mathlib.Core.Bool.{or-true, or-false}
use Rattle.common.specs.Cases.{bool_is, cond_holds, lt_or_ge}
use Rattle.common.specs.Bits.{bit_set, with_bit}
use Rattle.common.specs.Bits.Laws.{bit_and_lem, bit_xor_lem, bit_of_zero, other, with_bit_lem, one_shifted, flag_is, set_bit, clear_bit}
use Rattle.irqc.specs.Irqc.{source_set, each_set}
use Rattle.irqc.specs.Meaning.{Controller}
use Rattle.irqc.specs.declared.IrqController.{IrqController}
use Rattle.irqc.proofs.Source.{enable_is, fits, Alike, itself, turned, joined, own, others, again, same, kept}

module _ (c : IrqController) (mask levels : ℕ) where
  each_fits : (k : ℕ) → Controller c → k ≤ 16 → Controller (each_set c mask levels k)
  unfolding each_set
  each_fits zero h hk = h
  each_fits (suc k) h hk =
      let f = each_fits k h (omega arith) in
      cond_holds Controller (bit_set mask k) (fits (each_set c mask levels k) k (bit_set levels k) f (omega arith)) f

  each_enable : (k : ℕ) → (each_set c mask levels k).enable ≡ c.enable
  unfolding each_set
  each_enable zero = refl
  each_enable (suc k) =
      let f = each_enable k in
      cond_holds (λ (d : IrqController). d.enable ≡ c.enable) (bit_set mask k) (enable_is (each_set c mask levels k) k (bit_set levels k) ∙ f) f

  -- of the sources below k each is as if it had been set alone, and those above are as before
  each_above : (k i : ℕ) → k ≤ i → i < 16 → Alike i (each_set c mask levels k) c
  unfolding each_set
  each_above zero i hk hi = itself
  each_above (suc k) i hk hi =
      let f = each_above k i (omega arith) hi in
      cond_holds (λ (d : IrqController). Alike i d c) (bit_set mask k)
      (joined (others (each_set c mask levels k) k i (bit_set levels k) (omega arith) hi (λ q. omega arith)) f) f

  each_below : (k i : ℕ) → i < k → k ≤ 16 → Alike i (each_set c mask levels k) (cond (bit_set mask i) (source_set c i (bit_set levels i)) c)
  unfolding each_set
  each_below zero i hi hk = absurd (omega arith)
  each_below (suc k) i hi hk =
      ⊎_elim
      (λ (q : suc i ≤ k).
      let f = each_below k i q (omega arith) in
      cond_holds (λ (d : IrqController). Alike i d (cond (bit_set mask i) (source_set c i (bit_set levels i)) c)) (bit_set mask k)
      (joined (others (each_set c mask levels k) k i (bit_set levels k) (omega arith) (omega arith) (λ e. omega arith)) f) f)
      (λ (q : k ≤ i).
      let e : i ≡ k = omega arith in
      rw e (at_top (each_above k k (omega arith) (omega arith))))
      (lt_or_ge i k)
    where
      at_top : Alike k (each_set c mask levels k) c
          → Alike k (cond (bit_set mask k) (source_set (each_set c mask levels k) k (bit_set levels k)) (each_set c mask levels k)) (cond (bit_set mask k) (source_set c k (bit_set levels k)) c)
      at_top f = either (bit_set mask k)
        where
          either : (b : Bool) → Alike k (cond b (source_set (each_set c mask levels k) k (bit_set levels k)) (each_set c mask levels k)) (cond b (source_set c k (bit_set levels k)) c)
          either true = own (each_set c mask levels k) c k (bit_set levels k) (omega arith) f
          either false = f

-- one source, of which only a change of level is worth the call
one_source : (c : IrqController) (k : ℕ) (a l m : Bool) → Controller c → k < 16 → bit_set c.source_level k ≡ a
    → cond (other a (l && m) && m) (source_set c k (l && m)) c ≡ cond m (source_set c k l) c
one_source c k true true true h hk q = sym (kept c k true h hk q)
one_source c k true false true h hk q = refl
one_source c k false true true h hk q = refl
one_source c k false false true h hk q = sym (kept c k false h hk q)
one_source c k true true false h hk q = refl
one_source c k true false false h hk q = refl
one_source c k false true false h hk q = refl
one_source c k false false false h hk q = refl

-- setting those that change is setting all that the mask has
pub changed_is : (c : IrqController) (mask levels k : ℕ) → Controller c → k ≤ 16
    → each_set c (bit_and (bit_xor c.source_level (bit_and levels mask)) mask) (bit_and levels mask) k ≡ each_set c mask levels k
unfolding each_set
changed_is c mask levels zero h hk = refl
changed_is c mask levels (suc k) h hk =
    let was = bit_set c.source_level k in
    let on : bit_set (bit_and levels mask) k ≡ bit_set levels k && bit_set mask k = bit_and_lem levels mask k in
    let changed : bit_set (bit_and (bit_xor c.source_level (bit_and levels mask)) mask) k ≡ other was (bit_set levels k && bit_set mask k) && bit_set mask k =
    bit_and_lem (bit_xor c.source_level (bit_and levels mask)) mask k
    ∙ ap (λ (b : Bool). b && bit_set mask k) (bit_xor_lem c.source_level (bit_and levels mask) k ∙ ap (other was) on) in
    simp (changed, on, changed_is c mask levels k h (omega arith))
    (one_source (each_set c mask levels k) k was (bit_set levels k) (bit_set mask k) (each_fits c mask levels k h (omega arith)) (omega arith) (each_above c mask levels k k (omega arith) (omega arith)).level)

-- where the mask is empty nothing changes
pub none_changed : (c : IrqController) (levels k : ℕ) → each_set c 0 levels k ≡ c
unfolding each_set
none_changed c levels zero = refl
none_changed c levels (suc k) = simp (bit_of_zero k, none_changed c levels k)

-- a source more in the mask is that source set after the others
pub one_more : (c : IrqController) (mask levels n : ℕ) → Controller c → n < 16
    → each_set c (with_bit mask n) levels 16 ≡ source_set (each_set c mask levels 16) n (bit_set levels n)
one_more c mask levels n h hn =
    let before = each_set c mask levels 16 in
    let f = each_fits c mask levels 16 h (lit≤ tt) in
    same (each_set c (with_bit mask n) levels 16) (source_set before n (bit_set levels n))
    (each_fits c (with_bit mask n) levels 16 h (lit≤ tt))
    (fits before n (bit_set levels n) f hn)
    (each_enable c (with_bit mask n) levels 16 ∙ sym (enable_is before n (bit_set levels n) ∙ each_enable c mask levels 16))
    (λ i hi. joined (each_below c (with_bit mask n) levels 16 i hi (lit≤ tt)) (alone i hi))
  where
    -- source i, set alone where the larger mask has it, is as in the controller of which n is set last
    alone : (i : ℕ) → i < 16
        → Alike i (cond (bit_set (with_bit mask n) i) (source_set c i (bit_set levels i)) c) (source_set (each_set c mask levels 16) n (bit_set levels n))
    alone i hi =
        ⊎_elim
        (λ (t : eqb n i ≡ true). rw (sym (eqb-true n i t)) own_last)
        (λ (t : eqb n i ≡ false).
        simp (with_bit_lem mask n i, t, or-false)
        (turned (joined (others (each_set c mask levels 16) n i (bit_set levels n) hn hi (eqb-false n i t)) (each_below c mask levels 16 i hi (lit≤ tt)))))
        (bool_is (eqb n i))
      where
        twice : (b : Bool) → Alike n (source_set (cond b (source_set c n (bit_set levels n)) c) n (bit_set levels n)) (source_set c n (bit_set levels n))
        twice true = again c n (bit_set levels n) hn
        twice false = itself

        own_last : Alike n (cond (bit_set (with_bit mask n) n) (source_set c n (bit_set levels n)) c) (source_set (each_set c mask levels 16) n (bit_set levels n))
        own_last =
            simp (with_bit_lem mask n n, eq-eqb n n refl, or-true)
            (turned (joined (own (each_set c mask levels 16) (cond (bit_set mask n) (source_set c n (bit_set levels n)) c) n (bit_set levels n) hn (each_below c mask levels 16 n hn (lit≤ tt))) (twice (bit_set mask n))))

-- one turn of the loop over the sources: the mask's bit is set, and the source is; the mask's bit is clear
pub next_set : (c now r : IrqController) (mask levels k : ℕ) → k < 16 → now ≡ each_set c mask levels k
    → (bit_and mask (1 * 2 ^ k % 65536) ≡ 0 → ⊥) → r ≡ source_set now k (not (eqb (bit_and levels (1 * 2 ^ k % 65536)) 0))
    → r ≡ each_set c mask levels (k + 1)
unfolding each_set
next_set c now r mask levels k h e t q =
    let one = one_shifted 16 k h in
    q ∙ simp (add-one, e, one, flag_is levels k, set_bit mask k (simp one at t))

pub next_skip : (c now : IrqController) (mask levels k : ℕ) → k < 16 → now ≡ each_set c mask levels k
    → bit_and mask (1 * 2 ^ k % 65536) ≡ 0 → now ≡ each_set c mask levels (k + 1)
unfolding each_set
next_skip c now mask levels k h e t =
    let one = one_shifted 16 k h in
    e ∙ simp (add-one, clear_bit mask k (simp one at t))
