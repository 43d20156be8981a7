-- The laws of the access check that others use. Assumes nothing.
--
--   Kept s s'                               == nothing but the TLB and next_victim differs, and there are as many slots
--   check_refused, check_good               == a refusal of the gate, with nothing changed; else the check of a legal access
--   legal_answers                           == a legal access is allowed or denied, never refused
--   by_supervisor, by_regions_lem, by_pages == the check in each mode
--   regions_decide                          == the whole check of a user without translation: what the regions say of the access's bytes
--   check_keeps                             == what any check leaves, a refused or denied one included
--   check_user                              == the mode stays
--   refused_nothing                         == a refusal has changed nothing and read nothing
--   check_number                            == a check is refused with 2 or 1 alone
--   legal_few, allowed_size                 == a legal size, and so an allowed access's, is between 1 and 4
use Rattle.std.specs.Prelude.{◌≡◌, ℕ, ◌<◌, ◌≤◌, Bool, true, false, cond, ◌||◌, ◌==◌, ◌≢◌, refl, Result, Ok, Err}
use Rattle.std.proofs.Math.Path.{ap}
use Rattle.std.proofs.Common.{◌∙◌, arith, eqb-true}
use Rattle.common.specs.Cases.{absurd_eq, cond_holds}
use Rattle.common.specs.Refusal.{refusal_number}
use Rattle.common.specs.declared.Refusal.{Refusal}
use Rattle.memory.specs.Gate.{map_good, access_gate}
use Rattle.memory.specs.Gate.Laws.{map_open, size_open, gated_holds, gated_case, access_open, shut_number}
use Rattle.memory.specs.Memory.{Memory}
use Rattle.mmu.specs.Check.{check_each, pages_of}
use Rattle.mmu.specs.declared.exception.Exception.{Exception}
use Rattle.privilege.specs.declared.check.AccessError.TheVariants.{Denied, Refused}
use Rattle.privilege.specs.declared.check.AccessError.{AccessError}
use Rattle.mmu.specs.declared.exception.Access.{Access}
use Rattle.mmu.specs.declared.exception.Access.TheVariants.{Read, Write, Fetch}
use Rattle.mmu.specs.declared.exception.Exception.TheVariants.{ProtectionFault}
use Rattle.privilege.specs.Access.{fetch_size, data_size, legal_size, translating_of, allows_of, permission_of, access_answered, from_pages, by_regions, check_legal, check_access}
use Rattle.mmu.specs.Check.Pages.{VmKept, kept_same, pages_keep}
use Rattle.privilege.specs.Addresses.{addresses}
use Rattle.privilege.specs.Region.{all_allowed}
use Rattle.privilege.specs.State.{with_vm}
use Rattle.privilege.specs.declared.check.AccessChecked.{AccessChecked}
use Rattle.privilege.specs.declared.state.SystemState.{SystemState}

pub record Kept (s s' : SystemState) : Type 0 where
  pub else : s' ≡ with_vm s s'.vm
  pub vm : VmKept s.vm s'.vm

kept_all : (s : SystemState) → Kept s s
kept_all s = record { else = refl; vm = kept_same s.vm }

fetch_few : (n : ℕ) (b c : Bool) → (n == 2) ≡ b → (n == 4) ≡ c → (b || c) ≡ true → (0 < n) × (n ≤ 4)
fetch_few n true c e f h = let is = eqb-true n 2 e in (omega arith, omega arith)
fetch_few n false true e f h = let is = eqb-true n 4 f in (omega arith, omega arith)
fetch_few n false false e f h = absurd_eq (cc)

data_few : (n : ℕ) (b : Bool) → (n == 1) ≡ b → (b || (n == 2 || n == 4)) ≡ true → (0 < n) × (n ≤ 4)
data_few n true e h = let is = eqb-true n 1 e in (omega arith, omega arith)
data_few n false e h = fetch_few n (n == 2) (n == 4) refl refl h

pub legal_few : (k : Access) (n : ℕ) → legal_size k n ≡ true → (0 < n) × (n ≤ 4)
unfolding legal_size data_size fetch_size
legal_few Read n h = data_few n (n == 1) refl h
legal_few Write n h = data_few n (n == 1) refl h
legal_few Fetch n h = fetch_few n (n == 2) (n == 4) refl refl h

module _ (m : Memory) (s : SystemState) (a n : ℕ) (k : Access) where
  -- ---- the refusals

  pub check_refused : (r : Refusal) → access_gate m (legal_size k n) ≡ Err r → check_access m s a n k ≡ access_answered s (Err (Refused r))
  unfolding check_access
  check_refused r h = rw h

  pub check_good : access_gate m (legal_size k n) ≡ Ok tt → check_access m s a n k ≡ check_legal m s a n k
  unfolding check_access
  check_good h = rw h

  -- ---- the check in each mode

  pub by_pages : translating_of s ≡ true → check_legal m s a n k ≡ from_pages s (check_each m k s.vm (pages_of a n))
  unfolding check_legal
  by_pages h = rw h

  pub by_regions_lem : translating_of s ≡ false → check_legal m s a n k ≡ by_regions s a n k
  unfolding check_legal
  by_regions_lem h = rw h

  pub by_supervisor : s.user ≡ false → check_legal m s a n k ≡ access_answered s (Ok tt)
  unfolding check_legal translating_of allows_of
  by_supervisor h = rw h

  pub regions_decide : map_good m ≡ true → legal_size k n ≡ true → s.user ≡ true → s.vm.enabled ≡ false
      → check_access m s a n k ≡ access_answered s (cond (all_allowed s.regions k (addresses n a)) (Ok tt) (Err (Denied (ProtectionFault k))))
  unfolding translating_of allows_of
  regions_decide good legal user off = check_good (size_open m (legal_size k n) (map_open m good) legal) ∙ by_regions_lem (rw (user, off)) ∙ rw user

  not_refused : (v : Result (Unit {0}) Exception) (r : Refusal) → permission_of v ≢ Err (Refused r)
  not_refused (Ok tt) r e = absurd_eq (cc)
  not_refused (Err x) r e = absurd_eq (cc)

  pub legal_answers : (r : Refusal) → (check_legal m s a n k).permission ≢ Err (Refused r)
  unfolding check_legal
  legal_answers r =
      cond_holds (λ (c : AccessChecked). c.permission ≢ Err (Refused r)) (translating_of s)
      (not_refused (check_each m k s.vm (pages_of a n)).verdict r)
      (cond_holds (λ (p : Result (Unit {0}) AccessError). p ≢ Err (Refused r)) (allows_of s a n k) (λ e. absurd_eq (cc)) (λ e. absurd_eq (cc)))

  -- ---- what is left

  legal_keeps : Kept s (check_legal m s a n k).sys
  unfolding check_legal
  legal_keeps =
      cond_holds (λ (c : AccessChecked). Kept s c.sys) (translating_of s)
      (record { else = refl; vm = pages_keep m k s.vm (pages_of a n) })
      (kept_all s)

  pub check_keeps : Kept s (check_access m s a n k).sys
  unfolding check_access
  check_keeps = gated_holds (λ (c : AccessChecked). Kept s c.sys) (access_gate m (legal_size k n)) legal_keeps (λ r. kept_all s)

  pub check_user : (check_access m s a n k).sys.user ≡ s.user
  check_user = ap (λ (t : SystemState). t.user) check_keeps.else

  pub refused_nothing : (r : Refusal) → (check_access m s a n k).permission ≡ Err (Refused r) → check_access m s a n k ≡ access_answered s (Err (Refused r))
  unfolding check_access
  refused_nothing r =
      gated_holds (λ (c : AccessChecked). c.permission ≡ Err (Refused r) → c ≡ access_answered s (Err (Refused r))) (access_gate m (legal_size k n))
      (λ e. absurd (legal_answers r e)) (λ q e. ap (access_answered s) e)

  pub check_number : (r : Refusal) → (check_access m s a n k).permission ≡ Err (Refused r) → refusal_number r < 3
  unfolding check_access
  check_number r =
      gated_case (λ (c : AccessChecked). c.permission ≡ Err (Refused r) → refusal_number r < 3) (access_gate m (legal_size k n))
      (λ g e. absurd (legal_answers r e)) (λ q g e. let is : q ≡ r = cc in rw is at (shut_number m (legal_size k n) q g))

  pub allowed_size : (check_access m s a n k).permission ≡ Ok tt → (0 < n) × (n ≤ 4)
  unfolding check_access
  allowed_size =
      gated_case (λ (c : AccessChecked). c.permission ≡ Ok tt → (0 < n) × (n ≤ 4)) (access_gate m (legal_size k n))
      (λ g e. legal_few k n (access_open m (legal_size k n) g).1) (λ r g e. absurd_eq (cc))
