-- What walks and checks depend on, and what a passed check says. Assumes nothing.
--
--   walk_same, check_same, each_same   == a walk, and so a check, depends on the bytes of the tables alone
--   table_same, usable_same            == and so do the tables themselves, and what is usable
--   Passed, passed                     == what an allowed page says of the entry that let it through
--   Refilled                           == what checks do to the state: fills from leaves
--   refilled_page, refilled_each       == a check refills
--   refilled_ptbr, -slots, -usable     == which keeps PTBR and the number of slots, and brings no entry that was not usable
use Rattle.std.specs.Prelude.{◌≡◌, ℕ, zero, suc, ◌+◌, ◌-◌, ◌*◌, ◌/◌, ◌%◌, ◌^◌, ◌<◌, ◌≤◌, Bool, true, false, cond, List, [], ◌∷◌, length, get_or, slice_index_or, slice_set, Option, Some, None, Result, Ok, Err}
use Rattle.std.proofs.Math.Path.{refl, ap}
use Rattle.std.proofs.Common.{sym, ◌∙◌, lit<, mod-lt, length-set, get_or-set_other, ltb-true, eq-eqb}
use Rattle.std.proofs.Math.Decide.{ℕ_discrete}
use native.Mathlib.Omega.{arith}
use Rattle.std.proofs.Math.Seq.{get_or-set_same}
use Rattle.common.specs.Cases.{absurd_eq, cond_holds, cond_case}
use Rattle.common.specs.Lists.{Each}
use Rattle.memory.specs.Memory.{Memory, byte_at, read_at, word_spots}
use Rattle.memory.specs.Memory.Laws.{read_same}
use Rattle.mmu.specs.declared.exception.Exception.{Exception}
use Rattle.mmu.specs.declared.walk.WalkFault.TheVariants as walked
use Rattle.mmu.specs.declared.walk.WalkFault.{WalkFault}
use Rattle.mmu.specs.Tlb.{no_entry, matches}
use Rattle.mmu.specs.Tlb.Laws.{found_bound, found_matches, found_after_fill, matches_valid, matches_page}
use Rattle.mmu.specs.Vm.{victim, filled, slot_of}
use Rattle.mmu.specs.Walk.{table_ok, leaf_ok, leaf_entry, word_of_table, spot1, walk_leaf, walk_table, walk_of}
use Rattle.mmu.specs.Check.{page_addr, below_reserved, permits, faulted, judged, by_walk, by_slot, check_with, check_page, after_page, check_each, pages_after, pages_of}
use Rattle.mmu.specs.Opened.{TableByte, level1, level2, Usable, resident, leaf}
use Rattle.mmu.specs.declared.tlb.TlbEntry.{TlbEntry}
use Rattle.mmu.specs.declared.vm.Vm.{Vm}
use Rattle.mmu.specs.declared.walk.WalkAnswer.{WalkAnswer}
use Rattle.mmu.specs.declared.exception.Access.{Access}
use Rattle.mmu.specs.declared.check.Checked.{Checked}

cond_same : {A : Type 0} (t : Bool) {x y x' y' : A} → (t ≡ true → x ≡ x') → (t ≡ false → y ≡ y') → cond t x y ≡ cond t x' y'
cond_same true f g = f refl
cond_same false f g = g refl

-- ---- what a walk depends on

-- two memories that agree on the bytes of the tables
abbrev pub TablesAgree : Memory → Memory → ℕ → Type 0
TablesAgree m m' ptbr = (a : ℕ) → TableByte m ptbr a → byte_at m a ≡ byte_at m' a

module _ (m m' : Memory) (ptbr : ℕ) (same : TablesAgree m m' ptbr) where
  first_word : (i : ℕ) → i < 1024 → read_at m (word_spots (word_of_table ptbr i)) ≡ read_at m' (word_spots (word_of_table ptbr i))
  first_word i h =
      read_same m m' _ (same _ (level1 (omega arith)), (same _ (level1 (omega arith)), (same _ (level1 (omega arith)), (same _ (level1 (omega arith)), tt))))

  second_word : (i w j : ℕ) → i < 1024 → read_at m (word_spots (word_of_table ptbr i)) ≡ Some w → table_ok w ≡ true → j < 1024
      → read_at m (word_spots (word_of_table w j)) ≡ read_at m' (word_spots (word_of_table w j))
  second_word i w j h p q g =
      read_same m m' _
      (same _ (level2 i w h p q (omega arith)), (same _ (level2 i w h p q (omega arith)), (same _ (level2 i w h p q (omega arith)), (same _ (level2 i w h p q (omega arith)), tt))))

  table_step : (va : ℕ) → va < 2 ^ 32 → (o : Option ℕ) → read_at m (word_spots (spot1 ptbr va)) ≡ o → walk_table m va o ≡ walk_table m' va o
  unfolding walk_table
  table_step va h None e = refl
  table_step va h (Some w) e =
      cond_same (table_ok w) (λ q. ap (walk_leaf va) (second_word (va / 4194304) w (va / 4096 % 1024) (omega arith) e q (omega arith))) (λ q. refl)

  pub walk_same : (va : ℕ) → va < 2 ^ 32 → walk_of m ptbr va ≡ walk_of m' ptbr va
  unfolding walk_of
  walk_same va h = table_step va h _ refl ∙ ap (walk_table m' va) (first_word (va / 4194304) (omega arith))

  pub table_same : (a : ℕ) → TableByte m' ptbr a → TableByte m ptbr a
  table_same a (level1 e) = level1 e
  table_same a (level2 i w h p q e) = level2 i w h (first_word i h ∙ p) q e

pub check_same : (m m' : Memory) (vm : Vm) (k : Access) (va : ℕ) → va < 2 ^ 32 → TablesAgree m m' vm.ptbr → check_page m vm k va ≡ check_page m' vm k va
unfolding check_page
check_same m m' vm k va h same = ap (check_with vm k va) (walk_same m m' vm.ptbr same va h)

pub usable_same : (m m' : Memory) (vm : Vm) → TablesAgree m m' vm.ptbr → (e : TlbEntry) → Usable m' vm e → Usable m vm e
usable_same m m' vm same e (resident i h p v) = resident i h p v
usable_same m m' vm same e (leaf va h w) = leaf va h (ap (λ (x : WalkAnswer). x.walked) (walk_same m m' vm.ptbr same va h) ∙ w)

-- ---- what checks do to the state

pub data Refilled (m : Memory) (vm : Vm) : Vm → Type 0 where
  kept : Refilled m vm vm
  refill : {vm' : Vm} → Refilled m vm vm' → (va : ℕ) (e : TlbEntry) → va < 2 ^ 32 → (walk_of m vm.ptbr va).walked ≡ Ok e → Refilled m vm (filled vm' e)

pub refilled_ptbr : {m : Memory} {vm vm' : Vm} → Refilled m vm vm' → vm'.ptbr ≡ vm.ptbr
unfolding filled
refilled_ptbr kept = refl
refilled_ptbr (refill r va e h w) = refilled_ptbr r

pub refilled_enabled : {m : Memory} {vm vm' : Vm} → Refilled m vm vm' → vm'.enabled ≡ vm.enabled
unfolding filled
refilled_enabled kept = refl
refilled_enabled (refill r va e h w) = refilled_enabled r

pub refilled_slots : {m : Memory} {vm vm' : Vm} → Refilled m vm vm' → length vm'.tlb ≡ length vm.tlb
unfolding filled
refilled_slots kept = refl
refilled_slots (refill {vm'} r va e h w) = length-set vm'.tlb (victim vm') e ∙ refilled_slots r

-- who stands in a slot after a fill is the new entry, or stood there before
pub refilled_usable : {m : Memory} {vm vm' : Vm} → Refilled m vm vm' → (x : TlbEntry) → Usable m vm' x → Usable m vm x
unfolding filled
refilled_usable kept x u = u
refilled_usable {m} {vm} (refill {vm'} r va e h w) x (resident i g p v) = by_slot_lem (ℕ_discrete i (victim vm')) (λ u. refilled_usable r x u)
  where
    by_slot_lem : Dec (i ≡ victim vm') → (Usable m vm' x → Usable m vm x) → Usable m vm x
    by_slot_lem (yes q) back =
        let s = victim vm' in
        let g' : i < length vm'.tlb = omega (arith, length-set vm'.tlb s e) in
        let new : e ≡ x = sym (get_or-set_same vm'.tlb s e no_entry (rw q at g')) ∙ (rw q at p) in
        leaf va h (w ∙ ap Ok new)
    by_slot_lem (no n) back =
        back (resident i (omega (arith, length-set vm'.tlb (victim vm') e)) (sym (get_or-set_other vm'.tlb (victim vm') i e no_entry n) ∙ p) v)
refilled_usable (refill r va e h w) x (leaf va' h' w') = leaf va' h' (rw (refilled_ptbr r) at w')

module _ (m : Memory) (vm vm' : Vm) (r : Refilled m vm vm') (k : Access) (va : ℕ) (small : va < 2 ^ 32) where
  by_walk_lem : (x : Result TlbEntry WalkFault) (n : ℕ) → (walk_of m vm'.ptbr va).walked ≡ x → Refilled m vm (by_walk vm' k va n x).vm
  unfolding by_walk
  by_walk_lem (Ok e) n w = refill r va e small (rw (refilled_ptbr r) at w)
  by_walk_lem (Err walked.Missing) n w = r
  by_walk_lem (Err walked.BusError) n w = r

  by_found : (s : Option ℕ) → Refilled m vm (by_slot vm' k va (walk_of m vm'.ptbr va) s).vm
  unfolding by_slot
  by_found (Some i) = r
  by_found None = by_walk_lem _ _ refl

  pub refilled_page : Refilled m vm (check_page m vm' k va).vm
  unfolding check_page check_with
  refilled_page = cond_holds (λ (c : Checked). Refilled m vm c.vm) (below_reserved (page_addr (va / 4096))) (by_found _) r

-- ---- what an allowed page says

-- the slot that the new TLB finds the page in, and its entry
pub record Passed (m : Memory) (vm : Vm) (k : Access) (va : ℕ) (c : Checked) : Type 0 where
  pub slot : ℕ
  pub again : slot_of c.vm va ≡ Some slot
  pub usable : Usable m vm (slice_index_or c.vm.tlb slot no_entry)
  pub low : (get_or c.vm.tlb slot no_entry).vpn < 0xFFFF0
  pub granted : permits (slice_index_or c.vm.tlb slot no_entry) k ≡ true

judged_allowed : (e : TlbEntry) (k : Access) (va : ℕ) → judged e k va ≡ Ok tt → permits e k ≡ true
unfolding judged
judged_allowed e k va p = by_permit (permits e k) p
  where
    by_permit : (t : Bool) → cond t (Ok tt) (faulted k true va) ≡ Ok tt → t ≡ true
    by_permit true q = refl
    by_permit false q = absurd_eq (cc)

-- a leaf that a walk finds is an entry for that page
leaf_matches : (va w : ℕ) → matches (va / 4096) (leaf_entry va w) ≡ true
unfolding matches leaf_entry
leaf_matches va w = eq-eqb (va / 4096) (va / 4096) refl

leaf_walked : (va : ℕ) (e : TlbEntry) (o : Option ℕ) → (walk_leaf va o).walked ≡ Ok e → matches (va / 4096) e ≡ true
unfolding walk_leaf
leaf_walked va e None = λ p. absurd_eq (cc)
leaf_walked va e (Some w) =
    cond_case (λ (a : WalkAnswer). a.walked ≡ Ok e → matches (va / 4096) e ≡ true) (leaf_ok w)
    (λ t p. let s : leaf_entry va w ≡ e = cc in rw (← s) (leaf_matches va w))
    (λ t p. absurd_eq (cc))

table_walked : (m : Memory) (va : ℕ) (e : TlbEntry) (o : Option ℕ) → (walk_table m va o).walked ≡ Ok e → matches (va / 4096) e ≡ true
unfolding walk_table
table_walked m va e None = λ p. absurd_eq (cc)
table_walked m va e (Some w) =
    cond_case (λ (a : WalkAnswer). a.walked ≡ Ok e → matches (va / 4096) e ≡ true) (table_ok w)
    (λ t p. leaf_walked va e _ p)
    (λ t p. absurd_eq (cc))

pub walked_matches : (m : Memory) (ptbr va : ℕ) (e : TlbEntry) → (walk_of m ptbr va).walked ≡ Ok e → matches (va / 4096) e ≡ true
unfolding walk_of
walked_matches m ptbr va e p = table_walked m va e _ p

module _ (m : Memory) (vm : Vm) (k : Access) (va : ℕ) (small : va < 2 ^ 32) (slots : length vm.tlb ≡ 16) (low : va / 4096 < 0xFFFF0) where
  walk_passed : (x : Result TlbEntry WalkFault) (n : ℕ) → (walk_of m vm.ptbr va).walked ≡ x → slot_of vm va ≡ None
      → (by_walk vm k va n x).verdict ≡ Ok tt → Passed m vm k va (by_walk vm k va n x)
  unfolding by_walk filled
  walk_passed (Ok e) n w q p =
      let t = walked_matches m vm.ptbr va e w in
      let h : victim vm < length vm.tlb = omega arith in
      let here : get_or (slice_set vm.tlb (victim vm) e) (victim vm) no_entry ≡ e = get_or-set_same vm.tlb (victim vm) e no_entry h in
      record {
        slot = victim vm;
        again = found_after_fill (va / 4096) vm.tlb (victim vm) e q t h;
        usable = rw here (leaf va small w);
        low = rw (here, matches_page (va / 4096) e t) low;
        granted = rw here (judged_allowed e k va p);
      }
  walk_passed (Err walked.Missing) n w q p = absurd_eq (cc)
  walk_passed (Err walked.BusError) n w q p = absurd_eq (cc)

  slot_passed : (s : Option ℕ) → slot_of vm va ≡ s → (by_slot vm k va (walk_of m vm.ptbr va) s).verdict ≡ Ok tt
      → Passed m vm k va (by_slot vm k va (walk_of m vm.ptbr va) s)
  unfolding by_slot
  slot_passed (Some i) q p =
      let t = found_matches (va / 4096) vm.tlb i q in
      record {
        slot = i;
        again = q;
        usable = resident i (found_bound (va / 4096) vm.tlb i q) refl (matches_valid (va / 4096) _ t);
        low = rw (matches_page (va / 4096) _ t) low;
        granted = judged_allowed (slice_index_or vm.tlb i no_entry) k va p;
      }
  slot_passed None q p = walk_passed _ _ refl q p

pub passed : (m : Memory) (vm : Vm) (k : Access) (va : ℕ) → va < 2 ^ 32 → length vm.tlb ≡ 16 → (check_page m vm k va).verdict ≡ Ok tt → Passed m vm k va (check_page m vm k va)
unfolding check_page check_with
passed m vm k va small slots =
    cond_case (λ (c : Checked). c.verdict ≡ Ok tt → Passed m vm k va c) (below_reserved (page_addr (va / 4096)))
    (λ t p. slot_passed m vm k va small slots (let l = ltb-true (page_addr (va / 4096)) 0xFFFF_0000 t in omega arith) _ refl p)
    (λ t p. absurd_eq (cc))

-- ---- several pages

after_page_lem : (m : Memory) (vm : Vm) (v : Result (Unit {0}) Exception) (page rest : Checked) → Refilled m vm page.vm → Refilled m vm rest.vm → Refilled m vm (after_page v page rest).vm
unfolding after_page
after_page_lem m vm (Ok tt) page rest a b = b
after_page_lem m vm (Err e) page rest a b = a

pub refilled_each : (m : Memory) (k : Access) (vm : Vm) (l : List ℕ) → Each (λ va. va < 2 ^ 32) l → (vm' : Vm) → Refilled m vm vm' → Refilled m vm (check_each m k vm' l).vm
unfolding check_each
refilled_each m k vm [] s vm' r = r
refilled_each m k vm (va ∷ l) s vm' r =
    let page = check_page m vm' k va in
    let q = refilled_page m vm vm' r k va s.0 in
    after_page_lem m vm page.verdict page (check_each m k page.vm l) q (refilled_each m k vm l s.1 page.vm q)

pub each_same : (m m' : Memory) (k : Access) (vm : Vm) → TablesAgree m m' vm.ptbr → (l : List ℕ) → Each (λ va. va < 2 ^ 32) l → (vm' : Vm) → Refilled m vm vm'
    → check_each m k vm' l ≡ check_each m' k vm' l
unfolding check_each
each_same m m' k vm same [] s vm' r = refl
each_same m m' k vm same (va ∷ l) s vm' r =
    let page = check_page m vm' k va in
    rw (← (check_same m m' vm' k va s.0 (rw (refilled_ptbr r) same)))
    (ap (after_page page.verdict page) (each_same m m' k vm same l s.1 page.vm (refilled_page m vm vm' r k va s.0)))

-- one page: where it is allowed, the check of a list of one leaves what the page's check does
one_page : (v : Result (Unit {0}) Exception) (page rest : Checked) → page.verdict ≡ v → rest.vm ≡ page.vm → (after_page v page rest).verdict ≡ Ok tt
    → (v ≡ Ok tt) × ((after_page v page rest).vm ≡ page.vm)
unfolding after_page
one_page (Ok tt) page rest h e q = (refl, e)
one_page (Err x) page rest h e q = absurd_eq (cc)

pub each_one : (m : Memory) (k : Access) (vm : Vm) (va : ℕ) → (check_each m k vm (va ∷ [])).verdict ≡ Ok tt
    → ((check_page m vm k va).verdict ≡ Ok tt) × ((check_each m k vm (va ∷ [])).vm ≡ (check_page m vm k va).vm)
unfolding check_each
each_one m k vm va p = one_page (check_page m vm k va).verdict (check_page m vm k va) _ refl refl p

-- ---- which pages an access has

abbrev pub Small : List ℕ → Type 0
Small l = Each (λ va. va < 2 ^ 32) l

after_small : (n p : ℕ) → Small (pages_after n p)
unfolding pages_after
after_small zero p = tt
after_small (suc n) p = (mod-lt ((p + 1) * 4096) (lit< tt), after_small n (p + 1))

pub pages_small : (addr size : ℕ) → addr < 2 ^ 32 → Small (pages_of addr size)
unfolding pages_of
pages_small addr size h = (h, after_small _ (addr / 4096))

-- an access that stays in its page has that page alone
pub pages_one : (addr size : ℕ) → addr < 2 ^ 32 → 0 < size → addr % 4096 + size ≤ 4096 → pages_of addr size ≡ addr ∷ []
unfolding pages_of pages_after
pages_one addr size h g l =
    let less : (size + (2 ^ 32 - 1)) % 2 ^ 32 ≡ size - 1 = omega arith in
    let last : (addr + (size - 1)) % 2 ^ 32 / 4096 ≡ addr / 4096 = omega arith in
    let none : (addr / 4096 + 2 ^ 20 - addr / 4096) % 2 ^ 20 ≡ 0 = omega arith in
    rw (less, last, none)
