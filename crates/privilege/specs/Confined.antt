-- What a user's accesses with translation on depend on, and where they reach. The isolation theorem stands on these laws.
--
--   Running s         == user mode, translation on
--   Refills m s t     == what a check leaves of the state: all but the TLB, which only leaves of m refill
--   tables_check      == a check depends on the map and on the bytes of the page tables alone
--   check_refills     == a check keeps all but the TLB
--   aligned_stays     == an aligned access of a legal size stays in its page
--   page_open         == the bytes of an allowed access that stays in its page lie in a page that is open to users for it
use Rattle.std.specs.Prelude.{◌≡◌, ℕ, zero, suc, ◌+◌, ◌/◌, ◌%◌, ◌^◌, ◌<◌, ◌≤◌, Bool, true, false, cond, ◌||◌, ◌⊎◌, [], ◌∷◌, map, length, ◌==◌, slice_index_or, refl, Some, Result, Ok, Err}
use Rattle.std.proofs.Common.{sym, ap, ◌∙◌, inl, inr, ⊎_elim, arith, eqb-true}
use Rattle.common.specs.Cases.{absurd_eq, cond_holds, cond_case}
use Rattle.common.specs.Lists.{Each, each_map}
use Rattle.memory.specs.Gate.{access_gate}
use Rattle.memory.specs.Gate.Laws.{gated_holds, gated_case, access_open, access_same}
use Rattle.memory.specs.Memory.{Memory}
use Rattle.memory.specs.Memory.Laws.{SameMap}
use Rattle.mmu.specs.Check.{check_page, check_each, pages_of}
use Rattle.mmu.specs.Vm.{frame_of, slot_of}
use Rattle.mmu.specs.Opened.{entry_frame, Opened, opened}
use Rattle.mmu.specs.Opened.Laws.{TablesAgree, Refilled, kept, passed, each_same, each_one, refilled_each, refilled_page, refilled_enabled, pages_small, pages_one}
use Rattle.mmu.specs.Tlb.{no_entry, first_match}
use Rattle.mmu.specs.declared.check.Checked.{Checked}
use Rattle.mmu.specs.declared.exception.Exception.{Exception}
use Rattle.mmu.specs.declared.exception.Access.{Access}
use Rattle.mmu.specs.declared.exception.Access.TheVariants.{Read, Write, Fetch}
use Rattle.privilege.specs.Access.{fetch_size, data_size, legal_size, translating_of, permission_of, from_pages, by_regions, check_legal, check_access}
use Rattle.privilege.specs.Addresses.{addresses}
use Rattle.privilege.specs.State.{with_vm}
use Rattle.privilege.specs.Transfer.{physical_of, spots}
use Rattle.privilege.specs.declared.check.AccessChecked.{AccessChecked}
use Rattle.privilege.specs.declared.state.SystemState.{SystemState}

pub record Running (s : SystemState) : Type 0 where
  pub user : s.user ≡ true
  pub enabled : s.vm.enabled ≡ true

pub record Refills (m : Memory) (s t : SystemState) : Type 0 where
  pub rest : t ≡ with_vm s t.vm
  pub refilled : Refilled m s.vm t.vm

-- ---- what a check depends on

legal_same : (m m' : Memory) (s : SystemState) (a n : ℕ) (k : Access) → a < 2 ^ 32 → TablesAgree m m' s.vm.ptbr → check_legal m s a n k ≡ check_legal m' s a n k
unfolding check_legal
legal_same m m' s a n k h same =
    ap (λ (c : Checked). cond (translating_of s) (from_pages s c) (by_regions s a n k)) (each_same m m' k s.vm same (pages_of a n) (pages_small a n h) s.vm kept)

pub tables_check : (m m' : Memory) (s : SystemState) (a n : ℕ) (k : Access) → a < 2 ^ 32 → SameMap m m' → TablesAgree m m' s.vm.ptbr
    → check_access m s a n k ≡ check_access m' s a n k
unfolding check_access
tables_check m m' s a n k h same tables = rw (access_same m m' same (legal_size k n), legal_same m m' s a n k h tables)

-- ---- what a check keeps

same_state : (m : Memory) (s : SystemState) → Refills m s s
same_state m s = record { rest = refl; refilled = kept }

pub check_refills : (m : Memory) (s : SystemState) (a n : ℕ) (k : Access) → a < 2 ^ 32 → Refills m s (check_access m s a n k).sys
unfolding check_access check_legal
check_refills m s a n k h =
    gated_holds RefillsBy (access_gate m (legal_size k n))
    (cond_holds RefillsBy (translating_of s)
    (record { rest = refl; refilled = refilled_each m k s.vm (pages_of a n) (pages_small a n h) s.vm kept })
    (same_state m s))
    (λ r. same_state m s)
  where
    RefillsBy : AccessChecked → Type 0
    RefillsBy c = Refills m s c.sys

-- ---- where an access that stays in its page reaches

or_cases : (a b : Bool) → (a || b) ≡ true → (a ≡ true) ⊎ (b ≡ true)
or_cases true b p = inl refl
or_cases false b p = inr p

-- a legal size
abbrev Sized : ℕ → Type 0
Sized n = (n ≡ 1) ⊎ ((n ≡ 2) ⊎ (n ≡ 4))

fetch_sized : (n : ℕ) → fetch_size n ≡ true → Sized n
unfolding fetch_size
fetch_sized n p = ⊎_elim (λ t. inr (inl (eqb-true n 2 t))) (λ t. inr (inr (eqb-true n 4 t))) (or_cases (n == 2) (n == 4) p)

data_sized : (n : ℕ) → data_size n ≡ true → Sized n
unfolding data_size
data_sized n p = ⊎_elim (λ t. inl (eqb-true n 1 t)) (λ t. fetch_sized n t) (or_cases (n == 1) (fetch_size n) p)

legal_sized : (k : Access) (n : ℕ) → legal_size k n ≡ true → Sized n
unfolding legal_size
legal_sized Read n p = data_sized n p
legal_sized Write n p = data_sized n p
legal_sized Fetch n p = fetch_sized n p

-- an aligned access stays in its page
in_page : (a n : ℕ) → Sized n → a % n ≡ 0 → (0 < n) × (a % 4096 + n ≤ 4096)
in_page a n s h =
    ⊎_elim (λ e. let g : a % 1 ≡ 0 = rw e at h in (omega arith, omega arith))
    (λ t. ⊎_elim (λ e. let g : a % 2 ≡ 0 = rw e at h in (omega arith, omega arith)) (λ e. let g : a % 4 ≡ 0 = rw e at h in (omega arith, omega arith)) t) s

-- a page that is resident with entry i: each of its bytes lies in that entry's frame
physical_in : (s : SystemState) (va i : ℕ) → translating_of s ≡ true → slot_of s.vm va ≡ Some i
    → physical_of s va / 4096 ≡ entry_frame (slice_index_or s.vm.tlb i no_entry)
unfolding physical_of frame_of
physical_in s va i t p = rw (t, p) (omega arith)

spots_in : (s : SystemState) (p i : ℕ) → translating_of s ≡ true → first_match p 0 s.vm.tlb ≡ Some i → p < 2 ^ 20 → (n va : ℕ) → va / 4096 ≡ p → va % 4096 + n ≤ 4096
    → Each (λ a. a / 4096 ≡ entry_frame (slice_index_or s.vm.tlb i no_entry)) (map (physical_of s) (addresses n va))
unfolding addresses
spots_in s p i t q h zero va e g = tt
spots_in s p i t q h (suc zero) va e g = (physical_in s va i t (rw e q), tt)
spots_in s p i t q h (suc (suc n)) va e g =
    let step : (va + 1) % 2 ^ 32 / 4096 ≡ p = omega arith in
    let stay : (va + 1) % 2 ^ 32 % 4096 + suc n ≤ 4096 = omega arith in
    (physical_in s va i t (rw e q), spots_in s p i t q h (suc n) ((va + 1) % 2 ^ 32) step stay)

running_translates : (s : SystemState) → Running s → translating_of s ≡ true
unfolding translating_of
running_translates s r = rw (r.user, r.enabled)

-- what an allowed access of a running user was, where c is the check's answer: legal, and allowed page by page
pub record Through (m : Memory) (s : SystemState) (a n : ℕ) (k : Access) (c : AccessChecked) : Type 0 where
  pub legal : legal_size k n ≡ true
  pub pages : (check_each m k s.vm (pages_of a n)).verdict ≡ Ok tt
  pub leaves : c.sys ≡ with_vm s (check_each m k s.vm (pages_of a n)).vm

verdict_allowed : (v : Result (Unit {0}) Exception) → permission_of v ≡ Ok tt → v ≡ Ok tt
verdict_allowed (Ok tt) p = refl
verdict_allowed (Err e) p = absurd_eq (cc)

through : (m : Memory) (s : SystemState) (a n : ℕ) (k : Access) → Running s → (check_access m s a n k).permission ≡ Ok tt → Through m s a n k (check_access m s a n k)
unfolding check_access check_legal
through m s a n k run =
    gated_case Passes (access_gate m (legal_size k n))
    (λ g. cond_case Passes (translating_of s)
    (λ t p. record { legal = (access_open m (legal_size k n) g).1; pages = verdict_allowed (check_each m k s.vm (pages_of a n)).verdict p; leaves = refl })
    (λ t p. absurd_eq (let z : true ≡ false = sym (running_translates s run) ∙ t in cc)))
    (λ r g p. absurd_eq (cc))
  where
    Passes : AccessChecked → Type 0
    Passes c = c.permission ≡ Ok tt → Through m s a n k c

some : (k : Access) (n : ℕ) → legal_size k n ≡ true → 0 < n
some k n h = sized (legal_sized k n h)
  where
    sized : Sized n → 0 < n
    sized = ⊎_elim (λ e. omega arith) (⊎_elim (λ e. omega arith) (λ e. omega arith))

pub aligned_stays : (k : Access) (a n : ℕ) → a % n ≡ 0 → legal_size k n ≡ true → a % 4096 + n ≤ 4096
aligned_stays k a n al h = (in_page a n (legal_sized k n h) al).1

-- the bytes of an allowed access
pub page_open : (m : Memory) (s : SystemState) (a n : ℕ) (k : Access) → Running s → length s.vm.tlb ≡ 16 → a < 2 ^ 32
    → (legal_size k n ≡ true → a % 4096 + n ≤ 4096)
    → (check_access m s a n k).permission ≡ Ok tt → Each (λ b. Opened m s.vm k b) (spots (check_access m s a n k).sys a n)
unfolding spots translating_of
page_open m s a n k run slots h stays p =
    let thr = through m s a n k run p in
    let fits : (0 < n) × (a % 4096 + n ≤ 4096) = (some k n thr.legal, stays thr.legal) in
    let one : pages_of a n ≡ a ∷ [] = pages_one a n h fits.0 fits.1 in
    let page = each_one m k s.vm a (rw one at thr.pages) in
    let pass = passed m s.vm k a h slots page.0 in
    let after = (check_page m s.vm k a).vm in
    let on : translating_of (with_vm s after) ≡ true = rw (run.user, refilled_enabled (refilled_page m s.vm s.vm kept k a h), run.enabled) in
    let frame = entry_frame (slice_index_or after.tlb pass.slot no_entry) in
    rw (thr.leaves, one, page.1)
    (each_map (λ b. b / 4096 ≡ frame) (λ b. Opened m s.vm k b) (λ b q. opened (slice_index_or after.tlb pass.slot no_entry) pass.usable pass.low pass.granted q)
    (map (physical_of (with_vm s after)) (addresses n a))
    (spots_in (with_vm s after) (a / 4096) pass.slot on pass.again (omega arith) n a refl fits.1))
