-- The ways through the tests of a mapping and of the list. Assumes nothing.
use Rattle.std.proofs.Common.{ℕ, suc, ◌+◌, ◌*◌, ◌%◌, ◌≤◌, ◌<◌, ◌≡◌, refl, sym, ◌∙◌, Bool, true, false, not, ◌&&◌, ◌||◌, List, [], ◌∷◌, arith, ltb, eqb, bit_and, length, get_or, drop, ltb-true, eqb-true, lt-ltb, le-ltb, le-leb, eq-eqb, ne_eqb}
use Rattle.std.specs.List.{IsAllAdjacentAnswer}
use Rattle.common.specs.Bits.{bit_set}
use Rattle.common.specs.Cases.{and_left, and_right}
use Rattle.common.specs.Bits.Laws.{clear_bit, set_bit, flag_is, field_is}
use Rattle.mmu.specs.Check.{page_addr}
use Rattle.mmu.specs.Walk.{leaf_ok}
use Rattle.mmu.specs.Walk.Laws.{leaf_by_bits, leaf_alone}
use Rattle.tables.specs.declared.mapping.Mapping.{Mapping}
use Rattle.tables.specs.Mapping.{mapping, mappings, leaf_of, only_listed, good_bits, good_mapping, ascending_from, good_list, all_good}
use Rattle.tables.specs.Mapping.Laws.{ascending_pairs, mapping_next, none_left}

-- ---- `good_bits`

module _ (b : ℕ) where
  pub bits_odd : (b % 2 ≡ 0 → ⊥) → false ≡ good_bits b
  unfolding good_bits
  bits_odd h = rw (ne_eqb (b % 2) 0 h)

  pub bits_many : b % 2 ≡ 0 → 32 ≤ b → false ≡ good_bits b
  unfolding good_bits
  bits_many h g = rw (eq-eqb (b % 2) 0 h, le-ltb b 32 g)

  module _ (h : b % 2 ≡ 0) (g : b < 32) where
    by_bits : good_bits b ≡ (not (eqb (bit_and b 0x0E) 0) && (not (bit_set b 2) || bit_set b 1))
    unfolding good_bits
    by_bits = rw (eq-eqb (b % 2) 0 h, lt-ltb b 32 g, leaf_alone b h g, field_is b 3 1)

    pub bits_none : bit_and b 0x0E ≡ 0 → false ≡ good_bits b
    bits_none r = rw (by_bits, eq-eqb (bit_and b 0x0E) 0 r)

    pub bits_read_only : (bit_and b 0x0E ≡ 0 → ⊥) → bit_and b 4 ≡ 0 → true ≡ good_bits b
    bits_read_only r w = rw (by_bits, ne_eqb (bit_and b 0x0E) 0 r, clear_bit b 2 w)

    pub bits_written : (bit_and b 0x0E ≡ 0 → ⊥) → (bit_and b 4 ≡ 0 → ⊥) → not (eqb (bit_and b 2) 0) ≡ good_bits b
    bits_written r w = rw (by_bits, ne_eqb (bit_and b 0x0E) 0 r, set_bit b 2 w) (flag_is b 1)

-- ---- `Mapping::good`

module _ (x : Mapping) where
  pub page_high : 0xFFFF0 ≤ x.vpn → false ≡ good_mapping x
  unfolding good_mapping
  page_high h = rw (le-ltb (x.vpn * 4096) 0xFFFF_0000 (omega arith))

  module _ (h : x.vpn < 0xFFFF0) where
    pub frame_high : 0xFFFF0 ≤ x.ppn → false ≡ good_mapping x
    unfolding good_mapping
    frame_high g = rw (lt-ltb (x.vpn * 4096) 0xFFFF_0000 (omega arith), le-ltb (x.ppn * 4096) 0xFFFF_0000 (omega arith))

    -- the frame does not matter for the leaf
    same_leaf : (o : Bool) → only_listed x.bits ≡ o → (o && leaf_ok (x.bits + 1)) ≡ (o && leaf_ok (leaf_of x))
    same_leaf false p = refl
    same_leaf true p =
        let e = eqb-true _ _ (and_left (eqb (x.bits % 2) 0) (ltb x.bits 32) p) in
        let s = ltb-true _ _ (and_right (eqb (x.bits % 2) 0) (ltb x.bits 32) p) in
        leaf_alone x.bits e s ∙ sym (leaf_by_bits (page_addr x.ppn) x.bits (omega arith) e s)

    pub by_leaf : (r : Bool) → x.ppn < 0xFFFF0 → r ≡ good_bits x.bits → r ≡ good_mapping x
    unfolding good_mapping good_bits
    by_leaf r g e =
        e ∙ same_leaf (only_listed x.bits) refl
        ∙ sym (rw (lt-ltb (x.vpn * 4096) 0xFFFF_0000 (omega arith), lt-ltb (x.ppn * 4096) 0xFFFF_0000 (omega arith)))

-- ---- `ascending`: each page is below the next

adjacent_ascends : (n : ℕ) (l : List ℕ) → (0 < length l → n ≤ get_or l 0 0) → ((k : ℕ) → k + 1 < length l → get_or l k 0 < get_or l (k + 1) 0) → ascending_from n l ≡ true
unfolding ascending_from
adjacent_ascends n [] h f = refl
adjacent_ascends n (v ∷ l) h f =
    rw (le-leb n v (h (omega arith)))
    (adjacent_ascends (v + 1) l (λ g. let a = f 0 (omega arith) in omega arith) (λ k g. let a = f (suc k) (omega arith) in let e : suc k + 1 ≡ suc (k + 1) = omega arith in rw e at a))

pub sorted_ascends : (l : List ℕ) (r : Bool) → IsAllAdjacentAnswer (λ x y b. b ≡ ltb x y) l r → r ≡ ascending_from 0 l
sorted_ascends l true h = sym (adjacent_ascends 0 l (λ _. omega arith) (λ k g. ltb-true (get_or l k 0) (get_or l (k + 1) 0) (sym (h k 0 g))))
sorted_ascends l false h = by (ascending_from 0 l) refl
  where
    by : (b : Bool) → ascending_from 0 l ≡ b → false ≡ b
    by false p = refl
    by true p =
        let below = ascending_pairs 0 l p h.0 (h.0 + 1) (omega arith) h.1 in
        h.2 0 ∙ lt-ltb (get_or l h.0 0) (get_or l (h.0 + 1) 0) below

-- ---- `all_good`: the list from place k on

module _ (vs ps bs : List ℕ) (good : good_list vs ps bs ≡ true) where
  module _ (z : Bool) (k : ℕ) (p : z ≡ all_good (drop k (mappings vs ps bs))) where
    pub all_done : length vs ≤ k → true ≡ z
    unfolding all_good
    all_done h = sym (p ∙ rw (none_left vs ps bs good k h))

    module _ (x : Mapping) (r : Bool) (h : k < length vs) (e : x ≡ mapping (get_or vs k 0) (get_or ps k 0) (get_or bs k 0)) (q : r ≡ good_mapping x) where
      pub one_bad : r ≡ false → false ≡ z
      unfolding all_good
      one_bad t = sym (p ∙ rw (mapping_next vs ps bs good k h, ← e, ← q, t))

      pub one_good : r ≡ true → z ≡ all_good (drop (k + 1) (mappings vs ps bs))
      unfolding all_good
      one_good t = p ∙ rw (mapping_next vs ps bs good k h, ← e, ← q, t)
