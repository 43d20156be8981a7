-- An orderly TLB stays so, and a resident page's entry decides. Assumes nothing.
--
--   flushed_slots, dropped_slots                         == a flush and a dropped page leave sixteen slots
--   orderly_flushed, orderly_dropped                     == a flushed TLB is orderly, and one from which a page was dropped stays so
--   orderly_page, orderly_each                           == so does one after the check of a page, and of several
--   resident_page                                        == the check of a resident page, whose entry decides: no word is read and nothing changes
--   judged_open, judged_only, permits_when, permits_only == it allows exactly what the entry permits: U, the access's bit and a page below 0xFFFF0000
use Rattle.std.specs.Prelude.{◌≡◌, ℕ, zero, suc, ◌*◌, ◌/◌, ◌^◌, ◌<◌, Bool, true, false, cond, not, ◌&&◌, ◌⊎◌, List, [], ◌∷◌, length, ◌==◌, ◌≢◌, nat_eq, slice_set, Option, Some, None, Result, Ok, Err}
use Rattle.std.proofs.Math.Path.{refl, ap}
use Rattle.std.proofs.Common.{sym, ◌∙◌, inl, inr, ⊎_elim, arith, get_or-set_same, get_or-set_other}
use Rattle.std.proofs.Math.ListN.{length-map}
use borrow.Author.Tests.{eq-eqb, eqb-true, eqb-false, lt-ltb, ltb-true}
use Rattle.common.specs.Bits.{bit_set}
use Rattle.common.specs.Cases.{bool_is, absurd_eq, cond_case, and_left, and_right}
use Rattle.memory.specs.Memory.{Memory}
use Rattle.mmu.specs.Check.{page_addr, below_reserved, permits, judged, checked, by_walk, by_slot, check_with, check_page, after_page, check_each}
use Rattle.mmu.specs.Check.Pages.{pages_keep, each_page}
use Rattle.mmu.specs.Exception.{access_bit}
use Rattle.mmu.specs.Opened.Laws.{Small, walked_matches}
use Rattle.mmu.specs.Resident.{in_slot, Orderly}
use Rattle.mmu.specs.Tlb.{no_entry, no_entries, matches, first_match, dropped, dropped_page}
use Rattle.mmu.specs.Tlb.Laws.{found_matches, matches_valid, matches_page, dropped_at}
use Rattle.mmu.specs.Vm.{victim, filled, flushed, invalidated, slot_of}
use Rattle.mmu.specs.Vm.Laws.{no_entries_lem}
use Rattle.mmu.specs.Walk.{walk_of}
use Rattle.mmu.specs.declared.check.Checked.{Checked}
use Rattle.mmu.specs.declared.exception.Exception.{Exception}
use Rattle.mmu.specs.declared.walk.WalkFault.TheVariants as walked
use Rattle.mmu.specs.declared.walk.WalkFault.{WalkFault}
use Rattle.mmu.specs.declared.exception.Access.{Access}
use Rattle.mmu.specs.declared.tlb.TlbEntry.{TlbEntry}
use Rattle.mmu.specs.declared.vm.Vm.{Vm}

-- ---- a flush

pub flushed_slots : (vm : Vm) → length (flushed vm).tlb ≡ 16
unfolding flushed no_entries
flushed_slots vm = refl

pub orderly_flushed : (vm : Vm) → Orderly (flushed vm).tlb
orderly_flushed vm = record {
  one = λ i j p q e. let none = no_entries_lem vm i in absurd_eq (cc);
  low = λ i p. let none = no_entries_lem vm i in absurd_eq (cc);
}

-- ---- a page dropped

module _ (vm : Vm) (va : ℕ) where
  abbrev after : List TlbEntry
  after = (invalidated vm va).tlb

  entry_is : (i : ℕ) → (in_slot after i).valid ≡ ((in_slot vm.tlb i).valid && not ((in_slot vm.tlb i).vpn == va / 4096))
  unfolding invalidated
  entry_is i = ap (λ (e : TlbEntry). e.valid) (dropped_at (va / 4096) vm.tlb i)

  still : (i : ℕ) → (in_slot after i).valid ≡ true → (in_slot vm.tlb i).valid ≡ true
  still i h = and_left (in_slot vm.tlb i).valid (not ((in_slot vm.tlb i).vpn == va / 4096)) (sym (entry_is i) ∙ h)

  same_page : (i : ℕ) → (in_slot after i).vpn ≡ (in_slot vm.tlb i).vpn
  unfolding invalidated
  same_page i = ap (λ (e : TlbEntry). e.vpn) (dropped_at (va / 4096) vm.tlb i)

  pub dropped_slots : length after ≡ length vm.tlb
  unfolding invalidated dropped_page
  dropped_slots = length-map vm.tlb (dropped (va / 4096))

  pub orderly_dropped : Orderly vm.tlb → Orderly after
  orderly_dropped o = record {
    one = λ i j p q e. o.one i j (still i p) (still j q) (sym (same_page i) ∙ e ∙ same_page j);
    low = λ i p. rw (same_page i) (o.low i (still i p));
  }

-- ---- a fill of a page that was not resident

no_match : (k : ℕ) (rest : Option ℕ) (b : Bool) → cond b (Some k) rest ≡ None → (b ≡ false) × (rest ≡ None)
no_match k rest true p = absurd_eq (cc)
no_match k rest false p = (refl, p)

none_from : (v k : ℕ) (l : List TlbEntry) → first_match v k l ≡ None → (j : ℕ) → matches v (in_slot l j) ≡ false
unfolding first_match matches
none_from v k [] p j = refl
none_from v k (x ∷ l) p zero = (no_match k (first_match v (suc k) l) (matches v x) p).0
none_from v k (x ∷ l) p (suc j) = none_from v (suc k) l (no_match k (first_match v (suc k) l) (matches v x) p).1 j

unmatched : (v : ℕ) (x : TlbEntry) → matches v x ≡ false → x.valid ≡ true → x.vpn ≢ v
unfolding matches
unmatched v x p h e = let same : nat_eq x.vpn v ≡ true = eq-eqb x.vpn v e in let z = rw (h, same) at p in absurd_eq (cc)

module _ (t : List TlbEntry) (n : ℕ) (e : TlbEntry) (inside : n < length t) (o : Orderly t) (new : first_match e.vpn 0 t ≡ None) (below : e.vpn * 4096 < 0xFFFF_0000) where
  abbrev u : List TlbEntry
  u = slice_set t n e

  here : (i : ℕ) → i ≡ n → in_slot u i ≡ e
  here i a = ap (in_slot u) a ∙ get_or-set_same t n e no_entry inside

  -- slot n has the new entry, any other what it had
  either : (i : ℕ) → (i ≡ n) ⊎ (in_slot u i ≡ in_slot t i)
  either i =
      ⊎_elim
      (λ (h : nat_eq i n ≡ true). inl (eqb-true i n h))
      (λ (h : nat_eq i n ≡ false). inr (get_or-set_other t n i e no_entry (eqb-false i n h)))
      (bool_is (i == n))

  fresh : (j : ℕ) → (in_slot t j).valid ≡ true → (in_slot t j).vpn ≢ e.vpn
  fresh j = unmatched e.vpn (in_slot t j) (none_from e.vpn 0 t new j)

  set_one : (i j : ℕ) → (in_slot u i).valid ≡ true → (in_slot u j).valid ≡ true → (in_slot u i).vpn ≡ (in_slot u j).vpn → i ≡ j
  set_one i j p q s =
      ⊎_elim
      (λ (a : i ≡ n).
      ⊎_elim (λ (b : j ≡ n). a ∙ sym b)
      (λ (b : in_slot u j ≡ in_slot t j). absurd (fresh j (rw b at q) (ap (λ (x : TlbEntry). x.vpn) (sym b) ∙ sym s ∙ ap (λ (x : TlbEntry). x.vpn) (here i a)))) (either j))
      (λ (a : in_slot u i ≡ in_slot t i).
      ⊎_elim (λ (b : j ≡ n). absurd (fresh i (rw a at p) (ap (λ (x : TlbEntry). x.vpn) (sym a) ∙ s ∙ ap (λ (x : TlbEntry). x.vpn) (here j b))))
      (λ (b : in_slot u j ≡ in_slot t j). o.one i j (rw a at p) (rw b at q) (rw (a, b) at s)) (either j))
      (either i)

  set_low : (i : ℕ) → (in_slot u i).valid ≡ true → (in_slot u i).vpn * 4096 < 0xFFFF_0000
  set_low i p =
      ⊎_elim (λ (a : i ≡ n). rw (here i a) below)
      (λ (a : in_slot u i ≡ in_slot t i). rw a (o.low i (rw a at p))) (either i)

  orderly_set : Orderly u
  orderly_set = record { one = set_one; low = set_low }

orderly_filled : (vm : Vm) (e : TlbEntry) → length vm.tlb ≡ 16 → Orderly vm.tlb → first_match e.vpn 0 vm.tlb ≡ None → e.vpn * 4096 < 0xFFFF_0000 → Orderly (filled vm e).tlb
unfolding filled
orderly_filled vm e slots o new below = orderly_set vm.tlb (victim vm) e (omega arith) o new below

-- ---- the check of a page

module _ (m : Memory) (vm : Vm) (k : Access) (va : ℕ) (small : va < 2 ^ 32) (slots : length vm.tlb ≡ 16) (o : Orderly vm.tlb) where
  by_walk_lem : (x : Result TlbEntry WalkFault) (n : ℕ) → (walk_of m vm.ptbr va).walked ≡ x → slot_of vm va ≡ None → page_addr (va / 4096) < 0xFFFF_0000 → Orderly (by_walk vm k va n x).vm.tlb
  unfolding by_walk
  by_walk_lem (Ok e) n w none low =
      let page : e.vpn ≡ va / 4096 = matches_page (va / 4096) e (walked_matches m vm.ptbr va e w) in
      orderly_filled vm e slots o (rw page none) (rw page (omega arith))
  by_walk_lem (Err walked.Missing) n w none low = o
  by_walk_lem (Err walked.BusError) n w none low = o

  by_slot_lem : (s : Option ℕ) → slot_of vm va ≡ s → page_addr (va / 4096) < 0xFFFF_0000 → Orderly (by_slot vm k va (walk_of m vm.ptbr va) s).vm.tlb
  unfolding by_slot
  by_slot_lem (Some i) e low = o
  by_slot_lem None e low = by_walk_lem (walk_of m vm.ptbr va).walked (walk_of m vm.ptbr va).reads refl e low

  pub orderly_page : Orderly (check_page m vm k va).vm.tlb
  unfolding check_page check_with
  orderly_page =
      cond_case (λ (c : Checked). Orderly c.vm.tlb) (below_reserved (page_addr (va / 4096)))
      (λ t. by_slot_lem (slot_of vm va) refl (ltb-true (page_addr (va / 4096)) 0xFFFF_0000 t)) (λ t. o)

  pub resident_page : (i : ℕ) → slot_of vm va ≡ Some i → check_page m vm k va ≡ checked vm (judged (in_slot vm.tlb i) k va) 0
  unfolding check_page check_with by_slot
  resident_page i e =
      let hit = found_matches (va / 4096) vm.tlb i e in
      let page = matches_page (va / 4096) (in_slot vm.tlb i) hit in
      let below = rw page at (o.low i (matches_valid (va / 4096) (in_slot vm.tlb i) hit)) in
      rw (lt-ltb (page_addr (va / 4096)) 0xFFFF_0000 (omega arith), e)

-- ---- the check of pages

after_orderly : (v : Result (Unit {0}) Exception) (page rest : Checked) → Orderly page.vm.tlb → Orderly rest.vm.tlb → Orderly (after_page v page rest).vm.tlb
unfolding after_page
after_orderly (Ok tt) page rest p q = q
after_orderly (Err e) page rest p q = p

pub orderly_each : (m : Memory) (k : Access) (l : List ℕ) (vm : Vm) → Small l → length vm.tlb ≡ 16 → Orderly vm.tlb → Orderly (check_each m k vm l).vm.tlb
unfolding check_each
orderly_each m k [] vm small slots o = o
orderly_each m k (va ∷ l) vm small slots o =
    let page = check_page m vm k va in
    let kept : length page.vm.tlb ≡ length vm.tlb = rw (each_page m k vm va) at (pages_keep m k vm (va ∷ [])).slots in
    let here = orderly_page m vm k va small.0 slots o in
    after_orderly page.verdict page (check_each m k page.vm l) here (orderly_each m k l page.vm small.1 (kept ∙ slots) here)

-- ---- what an entry permits

pub judged_open : (e : TlbEntry) (k : Access) (va : ℕ) → permits e k ≡ true → judged e k va ≡ Ok tt
unfolding judged
judged_open e k va h = rw h

pub judged_only : (e : TlbEntry) (k : Access) (va : ℕ) → judged e k va ≡ Ok tt → permits e k ≡ true
unfolding judged
judged_only e k va = cond_case (λ (v : Result (Unit {0}) Exception). v ≡ Ok tt → permits e k ≡ true) (permits e k) (λ t h. t) (λ t h. absurd_eq (cc))

module _ (e : TlbEntry) (k : Access) where
  abbrev bits : Bool
  bits = bit_set e.flags 4 && bit_set e.flags (access_bit k)

  pub permits_when : bit_set e.flags 4 ≡ true → bit_set e.flags (access_bit k) ≡ true → page_addr e.ppn < 0xFFFF_0000 → permits e k ≡ true
  unfolding permits
  permits_when u b low = rw (u, b, lt-ltb (page_addr e.ppn) 0xFFFF_0000 low)

  pub permits_only : permits e k ≡ true → (bit_set e.flags 4 ≡ true) × (bit_set e.flags (access_bit k) ≡ true) × (page_addr e.ppn < 0xFFFF_0000)
  unfolding permits
  permits_only h =
      let both = and_left bits (below_reserved (page_addr e.ppn)) h in (
        and_left (bit_set e.flags 4) (bit_set e.flags (access_bit k)) both,
        and_right (bit_set e.flags 4) (bit_set e.flags (access_bit k)) both,
        ltb-true (page_addr e.ppn) 0xFFFF_0000 (and_right bits (below_reserved (page_addr e.ppn)) h),
      )
