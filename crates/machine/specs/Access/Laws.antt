-- The ways of a combined access, by what its check permits. Assumes nothing.
--
--   asked_first                        == the cache is asked at the first byte's address
--   access_refused, access_denied      == the two ways that touch neither cache nor memory
--   access_allowed                     == an allowed access, of any kind
--   access_read, access_written        == the same of a load or fetch, and of a store
--   access_keeps                       == a load or fetch leaves memory, whatever the check says
--   access_base                        == every access leaves the map's base
--   allowed_answers                    == an allowed access raises no exception
--   access_number                      == an access is refused with 2 or 1 alone
use Rattle.std.specs.Prelude.{◌≡◌, ℕ, ◌<◌, true, List, ◌∷◌, ◌≢◌, refl, Result, Ok, Err}
use Rattle.std.proofs.Common.{sym, ◌∙◌, add-zero}
use Rattle.std.proofs.Math.Path.{ap}
use Rattle.cache.specs.declared.CacheAccess.{CacheAccess}
use Rattle.cache.specs.declared.L1Cache.{L1Cache}
use Rattle.common.specs.Cases.{absurd_eq}
use Rattle.common.specs.Refusal.{refusal_number}
use Rattle.common.specs.declared.Refusal.{Refusal}
use Rattle.memory.specs.Memory.{Memory}
use Rattle.mmu.specs.declared.exception.Access.{Access}
use Rattle.mmu.specs.declared.exception.Access.TheVariants.{Read, Write, Fetch}
use Rattle.mmu.specs.declared.exception.Exception.{Exception}
use Rattle.privilege.specs.Access.{check_access}
use Rattle.privilege.specs.Access.Laws.{check_number}
use Rattle.privilege.specs.Transfer.{load_at, store_at, memory_at}
use Rattle.privilege.specs.Transfer.Laws.{store_map, load_number, store_number}
use Rattle.privilege.specs.declared.check.AccessChecked.{AccessChecked}
use Rattle.machine.specs.declared.access.Fault.TheVariants as outcome
use Rattle.privilege.specs.declared.check.AccessError.TheVariants.{Denied, Refused}
use Rattle.privilege.specs.declared.check.AccessError.{AccessError}
use Rattle.privilege.specs.declared.transfer.DataError.TheVariants as missing
use Rattle.privilege.specs.declared.transfer.DataError.{DataError}
use Rattle.machine.specs.State.{with_sys, with_cache}
use Rattle.machine.specs.Access.{Effect, is_read, access_answer, lines_of, presented, presented_each, asked, read_outcome, write_outcome, data_outcome, data_memory, moved, permitted, looked_up, access_of}
use Rattle.machine.specs.declared.state.Machine.{Machine}

pub asked_first : (k : Access) (M : Machine) (pa : ℕ) (l : List ℕ) → asked k M (pa ∷ l) ≡ presented k M.cache pa
unfolding lines_of presented_each
asked_first k M pa l =
    ap (costing (presented k M.cache pa).cache) (add-zero (presented k M.cache pa).stall)
  where
    costing : L1Cache → ℕ → CacheAccess
    costing c n = record { cache = c; stall = n }

-- what an allowed load or fetch comes to, and an allowed store, on the machine M that the check left
abbrev pub read_result : Access → Machine → Memory → List ℕ → ℕ → ℕ → Effect
read_result k M m l n reads =
    record { accessed = access_answer (with_cache M (asked k M l).cache) (read_outcome (load_at m n l)) (asked k M l).stall reads; memory = m }

abbrev pub write_result : Machine → Memory → List ℕ → ℕ → ℕ → ℕ → Effect
write_result M m l n v reads =
    record {
      accessed = access_answer (with_cache M (asked Write M l).cache) (write_outcome (store_at m n l)) (asked Write M l).stall reads;
      memory = memory_at m n l v;
    }

pub read_moved : (k : Access) (M : Machine) (m : Memory) (l : List ℕ) (n v reads : ℕ) → is_read k ≡ true → moved k M m l n v reads ≡ read_result k M m l n reads
unfolding data_outcome data_memory
read_moved Read M m l n v reads h = refl
read_moved Fetch M m l n v reads h = refl
read_moved Write M m l n v reads h = absurd_eq (cc)

pub write_moved : (M : Machine) (m : Memory) (l : List ℕ) (n v reads : ℕ) → moved Write M m l n v reads ≡ write_result M m l n v reads
unfolding data_outcome data_memory
write_moved M m l n v reads = refl

module _ (k : Access) (M : Machine) (m : Memory) (a n v : ℕ) (c : AccessChecked) (is : c ≡ check_access m M.sys a n k) where
  pub access_refused : (r : Refusal) → c.permission ≡ Err (Refused r) → access_of k M m a n v ≡ record { accessed = access_answer M (Err (outcome.Refused r)) 0 0; memory = m }
  unfolding access_of permitted
  access_refused r p = rw (← is, p)

  pub access_denied : (e : Exception) → c.permission ≡ Err (Denied e)
      → access_of k M m a n v ≡ record { accessed = access_answer (with_sys M c.sys) (Err (outcome.Exception e)) 0 c.reads; memory = m }
  unfolding access_of permitted
  access_denied e p = rw (← is, p)

  pub access_allowed : c.permission ≡ Ok tt → access_of k M m a n v ≡ moved k (with_sys M c.sys) m (looked_up c a n) n v c.reads
  unfolding access_of permitted
  access_allowed p = rw (← is, p)

  pub access_read : is_read k ≡ true → c.permission ≡ Ok tt → access_of k M m a n v ≡ read_result k (with_sys M c.sys) m (looked_up c a n) n c.reads
  access_read h p = access_allowed p ∙ read_moved k (with_sys M c.sys) m (looked_up c a n) n v c.reads h

pub access_written : (M : Machine) (m : Memory) (a n v : ℕ) (c : AccessChecked) → c ≡ check_access m M.sys a n Write → c.permission ≡ Ok tt
    → access_of Write M m a n v ≡ write_result (with_sys M c.sys) m (looked_up c a n) n v c.reads
access_written M m a n v c is p = access_allowed Write M m a n v c is p ∙ write_moved (with_sys M c.sys) m (looked_up c a n) n v c.reads

keeps : (k : Access) (M : Machine) (m : Memory) (l : List ℕ) (n v : ℕ) (c : AccessChecked) (p : Result (Unit {0}) AccessError) → is_read k ≡ true → (permitted k M m l n v c p).memory ≡ m
unfolding permitted
keeps k M m l n v c (Ok tt) h = ap (λ (r : Effect). r.memory) (read_moved k (with_sys M c.sys) m l n v c.reads h)
keeps k M m l n v c (Err (Denied e)) h = refl
keeps k M m l n v c (Err (Refused r)) h = refl

pub access_keeps : (k : Access) (M : Machine) (m : Memory) (a n v : ℕ) → is_read k ≡ true → (access_of k M m a n v).memory ≡ m
unfolding access_of
access_keeps k M m a n v h =
    let c = check_access m M.sys a n k in
    keeps k M m (looked_up c a n) n v c c.permission h

by_permission : (M : Machine) (m : Memory) (l : List ℕ) (n v : ℕ) (c : AccessChecked) (p : Result (Unit {0}) AccessError) → (permitted Write M m l n v c p).memory.base ≡ m.base
unfolding permitted
by_permission M m l n v c (Ok tt) = ap (λ (r : Effect). r.memory.base) (write_moved (with_sys M c.sys) m l n v c.reads) ∙ (store_map m n l v).base
by_permission M m l n v c (Err (Denied e)) = refl
by_permission M m l n v c (Err (Refused r)) = refl

pub access_base : (k : Access) (M : Machine) (m : Memory) (a n v : ℕ) → (access_of k M m a n v).memory.base ≡ m.base
unfolding access_of
access_base Read M m a n v = ap (λ (x : Memory). x.base) (access_keeps Read M m a n v refl)
access_base Fetch M m a n v = ap (λ (x : Memory). x.base) (access_keeps Fetch M m a n v refl)
access_base Write M m a n v =
    let c = check_access m M.sys a n Write in
    by_permission M m (looked_up c a n) n v c c.permission

-- ---- what an allowed access answers

read_answers : (d : Result ℕ DataError) (x : Exception) → read_outcome d ≢ Err (outcome.Exception x)
unfolding read_outcome
read_answers (Ok v) x e = absurd_eq (cc)
read_answers (Err missing.BusError) x e = absurd_eq (cc)
read_answers (Err (missing.Refused r)) x e = absurd_eq (cc)

write_answers : (d : Result (Unit {0}) DataError) (x : Exception) → write_outcome d ≢ Err (outcome.Exception x)
unfolding write_outcome
write_answers (Ok tt) x e = absurd_eq (cc)
write_answers (Err missing.BusError) x e = absurd_eq (cc)
write_answers (Err (missing.Refused r)) x e = absurd_eq (cc)

data_answers : (k : Access) (m : Memory) (n : ℕ) (l : List ℕ) (x : Exception) → data_outcome k m n l ≢ Err (outcome.Exception x)
unfolding data_outcome
data_answers Read m n l = read_answers (load_at m n l)
data_answers Fetch m n l = read_answers (load_at m n l)
data_answers Write m n l = write_answers (store_at m n l)

pub allowed_answers : (k : Access) (M : Machine) (m : Memory) (a n v : ℕ) → (check_access m M.sys a n k).permission ≡ Ok tt
    → (x : Exception) → (access_of k M m a n v).accessed.outcome ≢ Err (outcome.Exception x)
allowed_answers k M m a n v h x e =
    let c = check_access m M.sys a n k in
    data_answers k m n (looked_up c a n) x (ap (λ (r : Effect). r.accessed.outcome) (sym (access_allowed k M m a n v c refl h)) ∙ e)

-- ---- what an access is refused with

module _ (r : Refusal) where
  read_refused : (d : Result ℕ DataError) → read_outcome d ≡ Err (outcome.Refused r) → d ≡ Err (missing.Refused r)
  unfolding read_outcome
  read_refused (Ok v) e = absurd_eq (cc)
  read_refused (Err missing.BusError) e = absurd_eq (cc)
  read_refused (Err (missing.Refused q)) e = let is : q ≡ r = cc in ap (λ (x : Refusal). Err (missing.Refused x)) is

  write_refused : (d : Result (Unit {0}) DataError) → write_outcome d ≡ Err (outcome.Refused r) → d ≡ Err (missing.Refused r)
  unfolding write_outcome
  write_refused (Ok tt) e = absurd_eq (cc)
  write_refused (Err missing.BusError) e = absurd_eq (cc)
  write_refused (Err (missing.Refused q)) e = let is : q ≡ r = cc in ap (λ (x : Refusal). Err (missing.Refused x)) is

  data_number : (k : Access) (m : Memory) (n : ℕ) (l : List ℕ) → data_outcome k m n l ≡ Err (outcome.Refused r) → refusal_number r < 3
  unfolding data_outcome
  data_number Read m n l e = load_number m n l r (read_refused (load_at m n l) e)
  data_number Fetch m n l e = load_number m n l r (read_refused (load_at m n l) e)
  data_number Write m n l e = store_number m n l r (write_refused (store_at m n l) e)

  permitted_number : (k : Access) (M : Machine) (m : Memory) (l : List ℕ) (n v : ℕ) (c : AccessChecked) (p : Result (Unit {0}) AccessError)
      → (p ≡ Err (Refused r) → refusal_number r < 3) → (permitted k M m l n v c p).accessed.outcome ≡ Err (outcome.Refused r) → refusal_number r < 3
  unfolding permitted
  permitted_number k M m l n v c (Ok tt) h e = data_number k m n l e
  permitted_number k M m l n v c (Err (Denied x)) h e = absurd_eq (cc)
  permitted_number k M m l n v c (Err (Refused q)) h e = let is : q ≡ r = cc in h (ap (λ (x : Refusal). Err (Refused x)) is)

  pub access_number : (k : Access) (M : Machine) (m : Memory) (a n v : ℕ) → (access_of k M m a n v).accessed.outcome ≡ Err (outcome.Refused r) → refusal_number r < 3
  unfolding access_of
  access_number k M m a n v =
      let c = check_access m M.sys a n k in
      permitted_number k M m (looked_up c a n) n v c c.permission (check_number m M.sys a n k r)
