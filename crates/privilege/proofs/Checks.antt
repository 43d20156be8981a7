-- The ways through the check of an access. Assumes nothing.
use Rattle.std.proofs.Common.{◌≡◌, ℕ, Bool, true, false, sym, ap, ◌∙◌, ne_eqb, Result, Ok, Err}
use Rattle.std.specs.Result.{MatchResult, IsErrAnd}
use Rattle.std.proofs.lemmas.Result.{err_from_is_err_and}
use Rattle.common.specs.declared.Refusal.{Refusal}
use Rattle.mmu.specs.declared.exception.Exception.{Exception}
use Rattle.memory.specs.Gate.{access_gate}
use Rattle.memory.specs.Memory.{Memory}
use Rattle.mmu.specs.Check.{check_each, pages_of}
use Rattle.mmu.specs.declared.check.Checked.{Checked}
use Rattle.mmu.specs.declared.exception.Access.{Access}
use Rattle.mmu.specs.declared.exception.Access.TheVariants.{Read, Write, Fetch}
use Rattle.mmu.specs.declared.exception.Exception.TheVariants.{ProtectionFault}
use Rattle.privilege.specs.Access.{fetch_size, data_size, legal_size, translating_of, allows_of, permission_of, access_answered, check_legal, check_access}
use Rattle.privilege.specs.Access.Laws.{check_refused, check_good}
use Rattle.privilege.specs.Addresses.{addresses}
use Rattle.privilege.specs.Region.{all_allowed}
use Rattle.privilege.specs.State.{with_vm}
use Rattle.privilege.specs.declared.check.AccessError.TheVariants.{Denied, Refused}
use Rattle.privilege.specs.declared.check.AccessError.{AccessError}
use Rattle.privilege.specs.declared.check.AccessChecked.{AccessChecked}
use Rattle.privilege.specs.declared.state.SystemState.{SystemState}

-- the sizes
module _ (n : ℕ) where
  pub size_none : (n ≡ 1 → ⊥) → (n ≡ 2 → ⊥) → (n ≡ 4 → ⊥) → data_size n ≡ false
  unfolding data_size fetch_size
  size_none a b d = rw (ne_eqb n 1 a, ne_eqb n 2 b, ne_eqb n 4 d)

  -- a word is legal for each access
  pub word_size : n ≡ 4 → (k : Access) → true ≡ legal_size k n
  unfolding legal_size data_size fetch_size
  word_size h Read = rw h
  word_size h Write = rw h
  word_size h Fetch = rw h

  module _ (k : Access) (r : Bool) where
    pub read_size : k ≡ Read → r ≡ data_size n → r ≡ legal_size k n
    unfolding legal_size
    read_size e q = q ∙ rw e

    pub write_size : k ≡ Write → r ≡ data_size n → r ≡ legal_size k n
    unfolding legal_size
    write_size e q = q ∙ rw e

    pub fetch_size_lem : k ≡ Fetch → r ≡ fetch_size n → r ≡ legal_size k n
    unfolding legal_size
    fetch_size_lem e q = q ∙ rw e

module _ (s : SystemState) where
  pub on : s.user ≡ true → s.vm.enabled ≡ translating_of s
  unfolding translating_of
  on h = rw h

  pub off : s.user ≡ false → false ≡ translating_of s
  unfolding translating_of
  off h = rw h

  module _ (a n : ℕ) (k : Access) where
    pub by_regions_lem : (r : Bool) → s.user ≡ true → r ≡ all_allowed s.regions k (addresses n a) → r ≡ allows_of s a n k
    unfolding allows_of
    by_regions_lem r h e = e ∙ rw h

-- a verdict whose exception is what denies
pub denies : (v : Result (Unit {0}) Exception) (p : Result (Unit {0}) AccessError) → MatchResult v (λ x. p ≡ Ok x) (λ e. IsErrAnd p (λ d. d ≡ Denied e))
    → p ≡ permission_of v
denies (Ok u) p h = h
denies (Err e) p h = let q = err_from_is_err_and p h in q.1 ∙ ap Err q.2

module _ (m : Memory) (s : SystemState) (a n : ℕ) (k : Access) where
  -- `check_legal`, where the mode is known
  module _ (t : Bool) (is : t ≡ translating_of s) where
    pub by_pages : (c : Checked) (p : Result (Unit {0}) AccessError) → t ≡ true → c ≡ check_each m k s.vm (pages_of a n) → p ≡ permission_of c.verdict
        → record { sys = with_vm s c.vm; permission = p; reads = c.reads } ≡ check_legal m s a n k
    unfolding check_legal
    by_pages c p h e q = rw (← is, h, ← e, q)

    module _ (ok : Bool) (e : ok ≡ allows_of s a n k) (r : AccessChecked) where
      pub allowed : t ≡ false → ok ≡ true → r ≡ access_answered s (Ok tt) → r ≡ check_legal m s a n k
      unfolding check_legal
      allowed h g q = q ∙ rw (← is, h, ← e, g)

      pub denied : t ≡ false → ok ≡ false → r ≡ access_answered s (Err (Denied (ProtectionFault k))) → r ≡ check_legal m s a n k
      unfolding check_legal
      denied h g q = q ∙ rw (← is, h, ← e, g)

  -- `check_access`
  module _ (legal : Bool) (size : legal ≡ legal_size k n) (r : AccessChecked) where
    pub let_in : (u : Unit {0}) → Ok u ≡ access_gate m legal → r ≡ check_legal m s a n k → r ≡ check_access m s a n k
    let_in u h q = q ∙ sym (check_good m s a n k (ap (access_gate m) (sym size) ∙ sym h))

    pub shut : (f : Refusal) → Err f ≡ access_gate m legal → r ≡ access_answered s (Err (Refused f)) → r ≡ check_access m s a n k
    shut f h q = q ∙ sym (check_refused m s a n k f (ap (access_gate m) (sym size) ∙ sym h))
