-- An access where the machine's words stand: its check, the cache, and what it comes to by what the check permits. Assumes nothing.
use Rattle.std.proofs.Common.{◌≡◌, ℕ, zero, suc, ◌+◌, ◌%◌, ◌^◌, ◌<◌, Bool, true, false, cond, eqb, List, length, sym, refl, ap, ◌∙◌, arith, ne_eqb, Option, Some, None, Result, Ok, Err, ok_or}
use Rattle.std.specs.Bool.{then_some}
use Rattle.std.specs.Result.{MatchResult, IsErrAnd, result_and}
use Rattle.cache.specs.Cache.{loaded, fetched, stored}
use Rattle.cache.specs.Flat.{cache_words, cache_at, Costs, Changes}
use Rattle.cache.specs.declared.CacheAccess.{CacheAccess}
use Rattle.common.specs.Bytes.{bytes_of}
use Rattle.common.specs.Cases.{cond_holds, absurd_eq}
use Rattle.common.specs.declared.Refusal.{Refusal}
use Rattle.layout.specs.Words.{part, put}
use Rattle.memory.specs.Gate.{map_good}
use Rattle.memory.specs.Memory.{Memory, lent, good_map, read_at, word_spots, all_writable, put_at}
use Rattle.machine.specs.declared.access.Fault.TheVariants as outcome
use Rattle.machine.specs.declared.access.Fault.{Fault}
use Rattle.privilege.specs.declared.check.AccessError.TheVariants.{Denied, Refused}
use Rattle.privilege.specs.declared.check.AccessError.{AccessError}
use Rattle.privilege.specs.declared.transfer.DataError.TheVariants as missing
use Rattle.privilege.specs.declared.transfer.DataError.{DataError}
use Rattle.mmu.specs.declared.exception.Access.{Access}
use Rattle.mmu.specs.declared.exception.Access.TheVariants.{Read, Write, Fetch}
use Rattle.mmu.specs.declared.exception.Exception.{Exception}
use Rattle.privilege.specs.Access.{check_access}
use Rattle.privilege.specs.Access.Laws.{refused_nothing, allowed_size}
use Rattle.privilege.specs.Flat.{system_words}
use Rattle.privilege.specs.Flat.Access.{place_at, permit_of, permit_for, Permits as SysPermits, Grants as SysGrants}
use Rattle.privilege.specs.Flat.Access.Laws.{placed, not_placed, permit_pa, permit_spots, grant_permits, grant_stays}
use Rattle.privilege.specs.Rows.{rows_of}
use Rattle.privilege.specs.Rows.Laws.{word_loaded, word_stored, word_left}
use Rattle.privilege.specs.Transfer.{physical_of, spots, read_of, load_at, store_at, memory_at}
use Rattle.privilege.specs.Transfer.Laws.{spots_next}
use Rattle.privilege.specs.declared.check.AccessChecked.{AccessChecked}
use Rattle.privilege.specs.declared.flat.access.Grant.{Grant}
use Rattle.privilege.specs.declared.flat.access.Permit.{Permit}
use Rattle.privilege.specs.declared.flat.access.Place.{Place}
use Rattle.privilege.specs.declared.state.SystemState.{SystemState}
use Rattle.script.specs.declared.Event.{Event}
use Rattle.machine.specs.Access.{Effect, is_read, fault_of, data_fault, access_answer, presented, asked, read_outcome, write_outcome, moved, permitted, looked_up, access_of}
use Rattle.machine.specs.Access.Laws.{asked_first, read_moved, write_moved, access_allowed, access_denied, access_refused, access_keeps}
use Rattle.machine.specs.Event.{access_kind, stored_by}
use Rattle.machine.specs.Flat.{cache_from, state_words, machine_at, answer_of, accessed_as, Asks, Permits, checked_in, ReadsPermitted, WritesPermitted, Accesses, AccessesAny, Grants, ReadsGranted, WritesGranted}
use Rattle.machine.specs.State.{with_sys, with_cache}
use Rattle.machine.specs.declared.access.Accessed.{Accessed}
use Rattle.machine.specs.declared.flat.access.Answer.{Answer}
use Rattle.machine.specs.declared.state.Machine.{Machine}
use Rattle.machine.proofs.Words.{sys_long, cache_long, sys_left, sys_put, cache_left, cache_put}

-- ---- what the data answers, and the access of a kind

-- what `map_err` makes of the data's answer
pub read_mapped : (d : Result ℕ DataError) (o : Result ℕ Fault) → MatchResult d (λ v. o ≡ Ok v) (λ e. IsErrAnd o (λ f. f ≡ data_fault e)) → o ≡ read_outcome d
unfolding read_outcome
read_mapped (Ok v) o h = h
read_mapped (Err e) (Ok v) h = absurd h
read_mapped (Err e) (Err f) h = ap Err h

-- and of a store's, with 0 for its value
pub written_mapped : (d : Result (Unit {0}) DataError) (r : Result ℕ DataError) (o : Result ℕ Fault) → r ≡ result_and d (Ok 0)
    → MatchResult r (λ v. o ≡ Ok v) (λ e. IsErrAnd o (λ f. f ≡ data_fault e)) → o ≡ write_outcome d
unfolding read_outcome write_outcome
written_mapped (Ok tt) r o h g = read_mapped r o g ∙ rw h
written_mapped (Err e) r o h g = read_mapped r o g ∙ rw h

module _ (kind : ℕ) where
  pub kind_reads : (k : Access) → (kind ≡ 1 → ⊥) → k ≡ access_kind kind → is_read k ≡ true
  kind_reads k h is = rw (is, ne_eqb kind 1 h) (cond_holds (λ (x : Access). is_read x ≡ true) (eqb kind 0) refl refl)

-- ---- the cache

module _ (l new : List ℕ) (long : length l ≡ state_words) (same : length new ≡ length (part cache_from cache_words l)) (pa r : ℕ) where
  same_cache : length new ≡ cache_words
  same_cache = same ∙ cache_long l long

  -- the cache's words come back as those of c, and the access costs r
  comes_back : (k : Access) → ◌≡◌ {A = CacheAccess} (record { cache = cache_at new; stall = r }) (presented k (machine_at l).cache pa) → Asks l (put cache_from cache_words l new) k pa r
  comes_back k e = (
    (cache_left l long new same_cache, cache_put l long new same_cache ∙ ap (λ (a : CacheAccess). with_cache (machine_at l) a.cache) e),
    ap (λ (a : CacheAccess). a.stall) e,
  )

  pub asks_load : (k : Access) → k ≡ Read → Costs (part cache_from cache_words l) new r (loaded (cache_at (part cache_from cache_words l)) pa) → Asks l (put cache_from cache_words l new) k pa r
  unfolding machine_at presented
  asks_load k is w = rw is (comes_back Read (w.0 (cache_long l long)).1)

  pub asks_fetch : (k : Access) → k ≡ Fetch → Costs (part cache_from cache_words l) new r (fetched (cache_at (part cache_from cache_words l)) pa) → Asks l (put cache_from cache_words l new) k pa r
  unfolding machine_at presented
  asks_fetch k is w = rw is (comes_back Fetch (w.0 (cache_long l long)).1)

  pub asks_store : (k : Access) → k ≡ Write → r ≡ 0 → Changes (part cache_from cache_words l) new (stored (cache_at (part cache_from cache_words l)) pa) → Asks l (put cache_from cache_words l new) k pa r
  unfolding machine_at presented
  asks_store k is z w = rw is (comes_back Write (rw (z, (w.0 (cache_long l long)).1)))

pub ruleset asks = (asks_load, asks_fetch, asks_store)

-- ---- the check

pub check_permits : (l new : List ℕ) (m : Memory) (a n : ℕ) (k : Access) (r : Permit) → length l ≡ state_words → length new ≡ length (part 0 system_words l)
    → SysPermits m (part 0 system_words l) a n k r new → Permits l (put 0 system_words l new) m a n k r
unfolding machine_at
check_permits l new m a n k r long same w =
    let size : length new ≡ system_words = same ∙ sys_long l long in
    let is = (w.0 (sys_long l long)).1 in
    ((sys_left l long new size, sys_put l long new size ∙ rw (is.1, is.2)), is.0)

-- ---- an access after its check

same_sys : (M : Machine) (s : SystemState) → M.sys ≡ s → with_sys M s ≡ M
same_sys M s h = rw (← h)

module _ (m : Memory) (k : Access) (a n v : ℕ) (s : SystemState) (M : Machine) (p : Permit) (at : M.sys ≡ (check_access m s a n k).sys)
    (is : p ≡ permit_of (check_access m s a n k) a n) where
  abbrev c : AccessChecked
  c = check_access m s a n k

  -- where the check has the bytes, if it allows
  abbrev there : Place
  there = place_at (physical_of c.sys) a n

  place_is : (o : Result Place AccessError) → p.place ≡ o → result_and c.permission (Ok there) ≡ o
  place_is o e = ap (λ (q : Permit). q.place) (sym is) ∙ e

  reads_same : p.reads ≡ c.reads
  reads_same = ap (λ (q : Permit). q.reads) is

  fails : (e : AccessError) → p.place ≡ Err e → c.permission ≡ Err e
  fails e h = not_placed c.permission there e (place_is (Err e) h)

  failed_is : (e : AccessError) → p.place ≡ Err e
      → checked_in s M m a n v k ≡ record { accessed = accessed_as (answer_of (Err (fault_of e)) 0 p.reads) M; memory = m }
  unfolding permitted
  failed_is (Denied e) h = rw (fails (Denied e) h, same_sys M c.sys at, reads_same)
  failed_is (Refused r) h =
      let is : c.permission ≡ Err (Refused r) = fails (Refused r) h in
      let none : p.reads ≡ 0 = reads_same ∙ ap (λ (c : AccessChecked). c.reads) (refused_nothing m s a n k r is) in
      rw (is, none)

  module _ (x : Place) (h : p.place ≡ Ok x) (small : a < 2 ^ 32) where
    allowed : c.permission ≡ Ok tt
    allowed = (placed c.permission there x (place_is (Ok x) h)).0

    bytes_are : rows_of a n x.pa x.pb ≡ looked_up c a n
    bytes_are = permit_spots c a n x (place_is (Ok x) h) small (let q = allowed_size m s a n k allowed in omega (arith, q.1))

    -- the first byte's address is the line that is presented
    line_is : asked k M (looked_up c a n) ≡ presented k M.cache x.pa
    line_is =
        let q = allowed_size m s a n k allowed in
        first n q.0 ∙ ap (presented k M.cache) (sym (permit_pa c a n x (place_is (Ok x) h)))
      where
        first : (j : ℕ) → 0 < j → asked k M (spots c.sys a j) ≡ presented k M.cache (physical_of c.sys a)
        first zero z = absurd (omega arith)
        first (suc j) z = ap (asked k M) (spots_next c.sys a j) ∙ asked_first k M (physical_of c.sys a) (spots c.sys ((a + 1) % 2 ^ 32) j)

    allowed_is : checked_in s M m a n v k ≡ moved k M m (looked_up c a n) n v p.reads
    unfolding permitted
    allowed_is = rw (allowed, reads_same) (ap (λ (N : Machine). moved k N m (looked_up c a n) n v c.reads) (same_sys M c.sys at))

    -- what is left of the machine after the cache, and of its answer
    abbrev after : Machine
    after = with_cache M (presented k M.cache x.pa).cache

    abbrev stall : ℕ
    stall = (presented k M.cache x.pa).stall

    read_is : is_read k ≡ true
        → checked_in s M m a n v k ≡ record { accessed = accessed_as (answer_of (read_outcome (load_at m n (rows_of a n x.pa x.pb))) stall p.reads) after; memory = m }
    read_is r = allowed_is ∙ read_moved k M m (looked_up c a n) n v p.reads r ∙ rw (line_is, bytes_are)

written_is : (m : Memory) (a n v : ℕ) (s : SystemState) (M : Machine) (p : Permit) (x : Place) → M.sys ≡ (check_access m s a n Write).sys
    → p ≡ permit_of (check_access m s a n Write) a n → p.place ≡ Ok x → a < 2 ^ 32
    → checked_in s M m a n v Write
    ≡ record {
      accessed =
          accessed_as (answer_of (write_outcome (store_at m n (rows_of a n x.pa x.pb))) (presented Write M.cache x.pa).stall p.reads)
          (with_cache M (presented Write M.cache x.pa).cache);
      memory = memory_at m n (rows_of a n x.pa x.pb) v;
    }
written_is m a n v s M p x at is h small =
    allowed_is m Write a n v s M p at is x h small ∙ write_moved M m (looked_up (check_access m s a n Write) a n) n v p.reads
    ∙ rw (line_is m Write a n v s M p at is x h small, bytes_are m Write a n v s M p at is x h small)

-- ---- a load or fetch on the words

abbrev accessed : Effect → Accessed
accessed r = r.accessed

module _ (l : List ℕ) (m : Memory) (a n : ℕ) (k : Access) (p : Permit) (r : Answer) where
  pub reads_failed : (e : AccessError) (x : Fault) → p.place ≡ Err e → x ≡ fault_of e → r ≡ answer_of (Err x) 0 p.reads → ReadsPermitted l l m a n k p r
  reads_failed e x h g j = (refl, λ s at is. rw (j, g) (sym (ap accessed (failed_is m k a n 0 s (machine_at l) p at is e h))))

  pub reads_allowed : (x : Place) (l₁ : List ℕ) (stall : ℕ) (d : Result ℕ DataError) (o : Result ℕ Fault) → is_read k ≡ true → a < 2 ^ 32 → p.place ≡ Ok x → Asks l l₁ k x.pa stall
      → d ≡ load_at m n (rows_of a n x.pa x.pb) → o ≡ read_outcome d → r ≡ answer_of o stall p.reads → ReadsPermitted l l₁ m a n k p r
  reads_allowed x l₁ stall d o read small h w e q j =
      (w.0.0, λ s at is. rw (j, q, e, w.0.1, w.1) (sym (ap accessed (read_is m k a n 0 s (machine_at l) p at is x h small read))))

pub ruleset reading = (reads_failed, reads_allowed)

-- ---- a store on the words

module _ (l : List ℕ) (m : Memory) (a n v : ℕ) (p : Permit) (r : Answer) (bytes : List ℕ) where
  -- what holds of a store's result holds of its two parts
  parts : (l₁ : List ℕ) (s : SystemState) (x : Effect) → checked_in s (machine_at l) m a n v Write ≡ x → accessed_as r (machine_at l₁) ≡ x.accessed → bytes ≡ x.memory.bytes
      → (accessed_as r (machine_at l₁) ≡ (checked_in s (machine_at l) m a n v Write).accessed) × (bytes ≡ (checked_in s (machine_at l) m a n v Write).memory.bytes)
  parts l₁ s x e q b = (q ∙ sym (ap accessed e), b ∙ sym (ap (λ (y : Effect). y.memory.bytes) e))

  pub writes_failed : (e : AccessError) (x : Fault) → p.place ≡ Err e → x ≡ fault_of e → r ≡ answer_of (Err x) 0 p.reads → bytes ≡ m.bytes → WritesPermitted l l m a n v p r bytes
  writes_failed e x h g j b = (refl, λ s at is. parts l s _ (failed_is m Write a n v s (machine_at l) p at is e h) (rw (j, g)) b)

  pub writes_allowed : (x : Place) (l₁ : List ℕ) (stall : ℕ) (d : Result (Unit {0}) DataError) (o : Result ℕ Fault) → a < 2 ^ 32 → p.place ≡ Ok x → Asks l l₁ Write x.pa stall
      → (d ≡ store_at m n (rows_of a n x.pa x.pb)) × (bytes ≡ (memory_at m n (rows_of a n x.pa x.pb) v).bytes) → o ≡ write_outcome d → r ≡ answer_of o stall p.reads
      → WritesPermitted l l₁ m a n v p r bytes
  writes_allowed x l₁ stall d o small h w e q j =
      (w.0.0, λ s at is. parts l₁ s _ (written_is m a n v s (machine_at l) p x at is h small) (rw (j, q, e.0, w.0.1, w.1)) e.1)

pub ruleset writing = (writes_failed, writes_allowed)

-- ---- a word that is granted

word_outcome : (x : Option ℕ) → ok_or x outcome.BusError ≡ read_outcome (read_of x)
unfolding read_outcome
word_outcome (Some v) = refl
word_outcome None = refl

stored_outcome : (all : Bool) → ok_or (then_some all 0) outcome.BusError ≡ write_outcome (cond all (Ok tt) (Err missing.BusError))
unfolding write_outcome
stored_outcome true = refl
stored_outcome false = refl

pub map_is : (base : ℕ) (bytes : List ℕ) (good : Bool) → good ≡ good_map base (length bytes) → good ≡ true → map_good (lent base bytes) ≡ true
map_is base bytes good is h = sym is ∙ h

module _ (l : List ℕ) (m : Memory) (g : Grant) (r : Answer) (good : map_good m ≡ true) where
  pub granted_reads : (k : Access) (l₁ : List ℕ) (stall : ℕ) (x : Option ℕ) (o : Result ℕ Fault) → is_read k ≡ true → Asks l l₁ k g.pa stall → x ≡ read_at m (word_spots g.pa)
      → o ≡ ok_or x outcome.BusError → r ≡ answer_of o stall g.reads → ReadsGranted l l₁ m k g r
  granted_reads k l₁ stall x o read w is e j a at =
      reads_allowed l m a 4 k (permit_for g) r (record { pa = g.pa; pb = 0 }) l₁ stall (read_of x) o read at.0 refl w (rw (is, word_loaded m a g.pa 0 good at.1)) (e ∙ word_outcome x) j

  pub granted_writes : (v : ℕ) (bytes : List ℕ) (l₁ : List ℕ) (stall : ℕ) (all : Bool) (q : Option ℕ) (o : Result ℕ Fault) → Asks l l₁ Write g.pa stall
      → (all ≡ all_writable m (word_spots g.pa)) × (bytes ≡ (put_at m (word_spots g.pa) (bytes_of 4 v)).bytes)
      → q ≡ then_some all 0 → o ≡ ok_or q outcome.BusError → r ≡ answer_of o stall g.reads → WritesGranted l l₁ m v g r bytes
  granted_writes v bytes l₁ stall all q o w is t e j a at =
      writes_allowed l m a 4 v (permit_for g) r bytes (record { pa = g.pa; pb = 0 }) l₁ stall (cond all (Ok tt) (Err missing.BusError)) o at.0 refl w
      (rw (is.0, word_stored m a g.pa 0 good at.1), is.1 ∙ rw (word_left m a g.pa 0 good at.1 v)) (rw t at e ∙ stored_outcome all) j

module _ (l : List ℕ) (m : Memory) (a n : ℕ) (k : Access) where
  pub grants_word : (r : Option Grant) (new : List ℕ) → a < 2 ^ 32 → length l ≡ state_words → length new ≡ length (part 0 system_words l) → n ≡ 4 → map_good m ≡ true
      → SysGrants m (part 0 system_words l) a k r new → Grants l (put 0 system_words l new) m a n k r
  unfolding machine_at
  grants_word r new small long same four good w =
      let size : length new ≡ system_words = same ∙ sys_long l long in (
        (λ g h.
            let is = grant_permits m (part 0 system_words l) a k r new (sys_long l long) w g good h in
            (four, good, (small, is.0), rw four (check_permits l new m a 4 k (permit_for g) long same is.1))),
        (λ h. let is = grant_stays m (part 0 system_words l) a k r new (sys_long l long) w h in (sys_left l long new size, sys_put l long new size ∙ rw (is.0, is.1))),
      )

  pub grants_none : Grants l l m a n k None
  grants_none = (λ g h. absurd_eq (cc), λ h. (refl, refl))

-- ---- a whole access

module _ (k : Access) (M : Machine) (m : Memory) (a n v : ℕ) where
  abbrev checked : AccessChecked
  checked = check_access m M.sys a n k

  abbrev left : Effect
  left = checked_in M.sys (with_sys M checked.sys) m a n v k

  checked_allowed : checked.permission ≡ Ok tt → left ≡ moved k (with_sys M checked.sys) m (looked_up checked a n) n v checked.reads
  unfolding permitted
  checked_allowed h = rw h

  checked_denied : (e : Exception) → checked.permission ≡ Err (Denied e)
      → left ≡ record { accessed = access_answer (with_sys M checked.sys) (Err (outcome.Exception e)) 0 checked.reads; memory = m }
  unfolding permitted
  checked_denied e h = rw h

  checked_refused : (r : Refusal) → checked.permission ≡ Err (Refused r) → left ≡ record { accessed = access_answer M (Err (outcome.Refused r)) 0 0; memory = m }
  unfolding permitted
  checked_refused r h =
      let back : checked.sys ≡ M.sys = ap (λ (c : AccessChecked). c.sys) (refused_nothing m M.sys a n k r h) in
      rw (h, back)

-- the check's state is in the machine before anything else is done
access_checked : (k : Access) (M : Machine) (m : Memory) (a n v : ℕ) → access_of k M m a n v ≡ checked_in M.sys (with_sys M (check_access m M.sys a n k).sys) m a n v k
access_checked k M m a n v = by (check_access m M.sys a n k).permission refl
  where
    by : (o : Result (Unit {0}) AccessError) → (check_access m M.sys a n k).permission ≡ o
        → access_of k M m a n v ≡ checked_in M.sys (with_sys M (check_access m M.sys a n k).sys) m a n v k
    by (Ok tt) h =
        access_allowed k M m a n v (check_access m M.sys a n k) refl h
        ∙ sym (checked_allowed k M m a n v h)
    by (Err (Denied e)) h =
        access_denied k M m a n v (check_access m M.sys a n k) refl e h
        ∙ sym (checked_denied k M m a n v e h)
    by (Err (Refused r)) h =
        access_refused k M m a n v (check_access m M.sys a n k) refl r h
        ∙ sym (checked_refused k M m a n v r h)

module _ (l l₁ l₂ : List ℕ) (m : Memory) (k : Access) (a n v : ℕ) (p : Permit) (r : Answer) (w : Permits l l₁ m a n k p) where
  abbrev M : Machine
  M = machine_at l

  state_is : (machine_at l₁).sys ≡ (check_access m M.sys a n k).sys
  state_is = ap (λ (N : Machine). N.sys) w.0.1

  comes_to : access_of k M m a n v ≡ checked_in M.sys (machine_at l₁) m a n v k
  comes_to = access_checked k M m a n v ∙ ap (λ (N : Machine). checked_in M.sys N m a n v k) (sym w.0.1)

pub access_read_whole : (l l₁ l₂ : List ℕ) (m : Memory) (k : Access) (a n : ℕ) (p : Permit) (r : Answer) → Permits l l₁ m a n k p → is_read k ≡ true
    → ReadsPermitted l₁ l₂ m a n k p r → Accesses l l₂ k m a n 0 r m.bytes
access_read_whole l l₁ l₂ m k a n p r w read q = (
  q.1 (machine_at l).sys (state_is l l₁ l₂ m k a n 0 p r w) w.1 ∙ ap accessed (sym (comes_to l l₁ l₂ m k a n 0 p r w)),
  ap (λ (x : Memory). x.bytes) (sym (access_keeps k (machine_at l) m a n 0 read)),
)

pub access_write_whole : (l l₁ l₂ : List ℕ) (m : Memory) (a n v : ℕ) (p : Permit) (r : Answer) (bytes : List ℕ) → Permits l l₁ m a n Write p
    → WritesPermitted l₁ l₂ m a n v p r bytes → Accesses l l₂ Write m a n v r bytes
access_write_whole l l₁ l₂ m a n v p r bytes w q =
    let is = q.1 (machine_at l).sys (state_is l l₁ l₂ m Write a n v p r w) w.1 in
    let e = comes_to l l₁ l₂ m Write a n v p r w in
    (is.0 ∙ ap accessed (sym e), is.1 ∙ ap (λ (x : Effect). x.memory.bytes) (sym e))

-- ---- over any words

module _ (l l₁ l₂ : List ℕ) (base : ℕ) (bytes : List ℕ) (k : Access) (a n : ℕ) (p : Permit) (r : Answer) (long : length l ≡ state_words) (w : Permits l l₁ (lent base bytes) a n k p) where
  pub any_read : is_read k ≡ true → ReadsPermitted l₁ l₂ (lent base bytes) a n k p r → AccessesAny l l₂ k base bytes a n 0 r bytes
  any_read read q = (λ h. (q.0 ∙ w.0.0 ∙ long, access_read_whole l l₁ l₂ (lent base bytes) k a n p r w read q), λ h. absurd (h long))

pub any_written : (l l₁ l₂ : List ℕ) (base : ℕ) (bytes : List ℕ) (a n v : ℕ) (p : Permit) (r : Answer) (bytes' : List ℕ) → length l ≡ state_words
    → Permits l l₁ (lent base bytes) a n Write p → WritesPermitted l₁ l₂ (lent base bytes) a n v p r bytes' → AccessesAny l l₂ Write base bytes a n v r bytes'
any_written l l₁ l₂ base bytes a n v p r bytes' long w q =
    (λ h. (q.0 ∙ w.0.0 ∙ long, access_write_whole l l₁ l₂ (lent base bytes) a n v p r bytes' w q), λ h. absurd (h long))

-- ---- the access of an event

abbrev Event' : List ℕ → List ℕ → ℕ → List ℕ → Event → Answer → List ℕ → Type 0
Event' l l' base bytes e r bytes' = (length l' ≡ length l) × Accesses l l' (access_kind e.kind) (lent base bytes) e.a e.size (stored_by e) r bytes'

module _ (l l₁ l₂ : List ℕ) (base : ℕ) (bytes : List ℕ) (e : Event) (k : Access) (p : Permit) (r : Answer) (is : k ≡ access_kind e.kind)
    (w : Permits l l₁ (lent base bytes) e.a e.size k p) where
  pub event_read : (e.kind ≡ 1 → ⊥) → ReadsPermitted l₁ l₂ (lent base bytes) e.a e.size k p r
      → (length l₂ ≡ length l) × Accesses l l₂ (access_kind e.kind) (lent base bytes) e.a e.size (stored_by e) r bytes
  event_read h q =
      let read = kind_reads e.kind k h is in
      (q.0 ∙ w.0.0, rw (← is, ne_eqb e.kind 1 h) (access_read_whole l l₁ l₂ (lent base bytes) k e.a e.size p r w read q))

  pub event_written : (bytes' : List ℕ) → e.kind ≡ 1 → WritesPermitted l₁ l₂ (lent base bytes) e.a e.size e.b p r bytes'
      → (length l₂ ≡ length l) × Accesses l l₂ (access_kind e.kind) (lent base bytes) e.a e.size (stored_by e) r bytes'
  event_written bytes' h q =
      let store : k ≡ Write = is ∙ rw h in
      (q.0 ∙ w.0.0, rw h (access_write_whole l l₁ l₂ (lent base bytes) e.a e.size e.b p r bytes' (rw store at w) q))

module _ (l l₁ : List ℕ) (base : ℕ) (bytes : List ℕ) (e : Event) (k : Access) (o : Option Grant) (w : Grants l l₁ (lent base bytes) e.a e.size k o) where
  pub word_good : (g : Grant) → o ≡ Some g → map_good (lent base bytes) ≡ true
  word_good g h = (w.0 g h).1

  module _ (l₂ : List ℕ) (r : Answer) (is : k ≡ access_kind e.kind) where
    pub event_read_word : (g : Grant) → o ≡ Some g → (e.kind ≡ 1 → ⊥) → ReadsGranted l₁ l₂ (lent base bytes) k g r → Event' l l₂ base bytes e r bytes
    event_read_word g h kind q = let of = w.0 g h in event_read l l₁ l₂ base bytes e k (permit_for g) r is of.3 kind (rw of.0 (q e.a of.2))

    pub event_written_word : (g : Grant) → o ≡ Some g → (bytes' : List ℕ) → e.kind ≡ 1 → WritesGranted l₁ l₂ (lent base bytes) e.b g r bytes' → Event' l l₂ base bytes e r bytes'
    event_written_word g h bytes' kind q = let of = w.0 g h in event_written l l₁ l₂ base bytes e k (permit_for g) r is of.3 bytes' kind (rw of.0 (q e.a of.2))

  pub event_other : (l₂ : List ℕ) (r : Answer) → o ≡ None → (bytes' : List ℕ) → Event' l₁ l₂ base bytes e r bytes' → Event' l l₂ base bytes e r bytes'
  event_other l₂ r h bytes' q = let still = w.1 h in (q.0 ∙ still.0, rw still.1 at q.1)
