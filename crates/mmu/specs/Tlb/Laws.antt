-- The laws of the TLB. Assumes nothing.
--
--   found_bound      == a slot that the search finds is within the list
--   found_matches    == the entry that stands there matches
--   found_after_fill == a page that was missing is found where its entry was filled
--   mark_dropped t e == e without its valid mark, where t says so
--   dropped_at       == an entry after its page, or another, was dropped: the valid mark alone may change
use Rattle.std.specs.Prelude.{◌≡◌, ℕ, zero, suc, ◌+◌, ◌-◌, ◌<◌, ◌≤◌, Bool, true, false, cond, not, ◌&&◌, List, [], ◌∷◌, map, length, get_or, ◌==◌, slice_index_or, slice_set, refl, Option, Some, None}
use Rattle.std.proofs.Common.{sym, ap, ◌∙◌, arith, eqb-true}
use Rattle.std.proofs.Math.ListN.{get_or-map}
use Rattle.common.specs.Cases.{absurd_eq, and_left, and_right}
use Rattle.mmu.specs.Tlb.{no_entry, matches, first_match, unmarked, dropped, dropped_page}
use Rattle.mmu.specs.declared.tlb.TlbEntry.{TlbEntry}

bound_step : (k i n : ℕ) (rest : Option ℕ) (b : Bool) → (rest ≡ Some i → (suc k ≤ i) × (i < suc k + n)) → cond b (Some k) rest ≡ Some i → (k ≤ i) × (i < k + suc n)
bound_step k i n rest true ih p = let e : k ≡ i = cc in (omega arith, omega arith)
bound_step k i n rest false ih p = (omega (arith, (ih p).0), omega (arith, (ih p).1))

between : (v k : ℕ) (l : List TlbEntry) (i : ℕ) → first_match v k l ≡ Some i → (k ≤ i) × (i < k + length l)
unfolding first_match
between v k [] i p = absurd_eq (cc)
between v k (e ∷ l) i p = bound_step k i (length l) (first_match v (suc k) l) (matches v e) (between v (suc k) l i) p

pub found_bound : (v : ℕ) (l : List TlbEntry) (i : ℕ) → first_match v 0 l ≡ Some i → i < length l
found_bound v l i p = omega (arith, (between v 0 l i p).1)

found_from : (v k : ℕ) (l : List TlbEntry) (i : ℕ) → first_match v k l ≡ Some i → matches v (slice_index_or l (i - k) no_entry) ≡ true
unfolding first_match
found_from v k [] i p = absurd_eq (cc)
found_from v k (e ∷ l) i p = by_match (matches v e) refl p (found_from v (suc k) l i) (between v (suc k) l i)
  where
    by_match : (b : Bool) → matches v e ≡ b → cond b (Some k) (first_match v (suc k) l) ≡ Some i
        → (first_match v (suc k) l ≡ Some i → matches v (slice_index_or l (i - suc k) no_entry) ≡ true)
        → (first_match v (suc k) l ≡ Some i → (suc k ≤ i) × (i < suc k + length l))
        → matches v (slice_index_or (e ∷ l) (i - k) no_entry) ≡ true
    by_match true m q ih lim = let z : i - k ≡ 0 = let s : k ≡ i = cc in omega arith in rw z m
    by_match false m q ih lim = let z : i - k ≡ suc (i - suc k) = omega (arith, (lim q).0) in rw z (ih q)

pub found_matches : (v : ℕ) (l : List TlbEntry) (i : ℕ) → first_match v 0 l ≡ Some i → matches v (slice_index_or l i no_entry) ≡ true
found_matches v l i p = let z : i - 0 ≡ i = omega arith in rw z at (found_from v 0 l i p)

-- what a match says
pub matches_valid : (v : ℕ) (e : TlbEntry) → matches v e ≡ true → e.valid ≡ true
unfolding matches
matches_valid v e p = and_left e.valid (e.vpn == v) p

pub matches_page : (v : ℕ) (e : TlbEntry) → matches v e ≡ true → e.vpn ≡ v
unfolding matches
matches_page v e p = eqb-true e.vpn v (and_right e.valid (e.vpn == v) p)

filled_from : (v k : ℕ) (l : List TlbEntry) (i : ℕ) (e : TlbEntry) → first_match v k l ≡ None → matches v e ≡ true → i < length l → first_match v k (slice_set l i e) ≡ Some (k + i)
unfolding first_match
filled_from v k [] i e p q h = absurd (omega arith)
filled_from v k (x ∷ l) zero e p q h = rw q (ap Some (omega arith))
filled_from v k (x ∷ l) (suc i) e p q h = by_match (matches v x) refl p (λ r. filled_from v (suc k) l i e r q (omega arith))
  where
    by_match : (b : Bool) → matches v x ≡ b → cond b (Some k) (first_match v (suc k) l) ≡ None
        → (first_match v (suc k) l ≡ None → first_match v (suc k) (slice_set l i e) ≡ Some (suc k + i))
        → cond (matches v x) (Some k) (first_match v (suc k) (slice_set l i e)) ≡ Some (k + suc i)
    by_match true r p ih = absurd_eq (cc)
    by_match false r p ih = rw r (ih p ∙ ap Some (omega arith))

pub found_after_fill : (v : ℕ) (l : List TlbEntry) (i : ℕ) (e : TlbEntry) → first_match v 0 l ≡ None → matches v e ≡ true → i < length l → first_match v 0 (slice_set l i e) ≡ Some i
found_after_fill v l i e p q h = filled_from v 0 l i e p q h ∙ ap Some (omega arith)

-- ---- dropping a page

abbrev pub mark_dropped : Bool → TlbEntry → TlbEntry
mark_dropped this e = record { valid = e.valid && not this; vpn = e.vpn; ppn = e.ppn; flags = e.flags }

dropped_is : (vpn : ℕ) (e : TlbEntry) → dropped vpn e ≡ mark_dropped (e.vpn == vpn) e
unfolding dropped
dropped_is vpn e = by_page e.valid (e.vpn == vpn)
  where
    by_page : (v t : Bool) → ◌≡◌ {A = TlbEntry} (cond t (record { valid = false; vpn = e.vpn; ppn = e.ppn; flags = e.flags }) (record { valid = v; vpn = e.vpn; ppn = e.ppn; flags = e.flags }))
        (record { valid = v && not t; vpn = e.vpn; ppn = e.ppn; flags = e.flags })
    by_page true true = refl
    by_page false true = refl
    by_page true false = refl
    by_page false false = refl

-- an entry of zeros stays one
nothing_dropped : (t : Bool) → cond t (unmarked no_entry) no_entry ≡ no_entry
nothing_dropped true = refl
nothing_dropped false = refl

pub dropped_at : (vpn : ℕ) (l : List TlbEntry) (i : ℕ) → slice_index_or (dropped_page vpn l) i no_entry ≡ mark_dropped ((get_or l i no_entry).vpn == vpn) (slice_index_or l i no_entry)
unfolding dropped_page dropped
dropped_at vpn l i =
    ap (get_or (map (dropped vpn) l) i) (sym (nothing_dropped (0 == vpn))) ∙ get_or-map (dropped vpn) l i no_entry
    ∙ dropped_is vpn (slice_index_or l i no_entry)
