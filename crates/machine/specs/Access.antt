-- The combined access: document 01, "Combined access (added): check; the cache once, at the first byte's physical address; memory."
--
--   Effect                      == what an access answers, and the memory that it leaves
--   looked_up c a n             == where an access's bytes are after its check c: each is looked up in the TLB again
--   lines_of l                  == the addresses at which an access is presented to the cache whose bytes stand at l: the first byte's
--   presented k c pa            == the cache asked at one address: a load or fetch may cost its stall, a store snoops and costs 0
--   presented_each k c l        == the same at each of the addresses l, in their order; the stalls add up
--   fault_of, data_fault        == why an access has no value: its check's exception or refusal; the data's bus error or refusal
--   read_outcome, write_outcome == the data's answer: a value, or a bus error and no value; a store answers 0
--   denied_with, refused_with   == a denied or refused access: "A denied check touches neither"
--   moved k M m l n v reads     == an allowed access whose n bytes stand at l: the cache, then memory
--   access_of k M m a n v       == the access k of n bytes at a, storing v: refusal 2, then 1
--
-- Where an access's bytes are is one argument, a list of physical addresses: cache and memory see nothing else of an address.
use Rattle.std.specs.Prelude.{ℕ, ◌+◌, Bool, true, false, List, [], ◌∷◌, Result, Ok, Err}
use Rattle.cache.specs.Cache.{loaded, fetched, stored}
use Rattle.cache.specs.declared.L1Cache.{L1Cache}
use Rattle.cache.specs.declared.CacheAccess.{CacheAccess}
use Rattle.common.specs.declared.Refusal.{Refusal}
use Rattle.memory.specs.Memory.{Memory}
use Rattle.mmu.specs.declared.exception.Access.{Access}
use Rattle.mmu.specs.declared.exception.Access.TheVariants.{Read, Write, Fetch}
use Rattle.mmu.specs.declared.exception.Exception as exception
use Rattle.privilege.specs.Access.{check_access}
use Rattle.privilege.specs.Transfer.{spots, load_at, store_at, memory_at}
use Rattle.privilege.specs.declared.check.AccessChecked.{AccessChecked}
use Rattle.machine.specs.declared.access.Fault.TheVariants.{Exception, BusError, Refused}
use Rattle.machine.specs.declared.access.Fault.{Fault}
use Rattle.privilege.specs.declared.check.AccessError.TheVariants as permission
use Rattle.privilege.specs.declared.check.AccessError.{AccessError}
use Rattle.privilege.specs.declared.transfer.DataError.TheVariants as missing
use Rattle.privilege.specs.declared.transfer.DataError.{DataError}
use Rattle.privilege.specs.declared.state.SystemState.{SystemState}
use Rattle.machine.specs.State.{with_sys, with_cache}
use Rattle.machine.specs.declared.state.Machine.{Machine}
use Rattle.machine.specs.declared.access.Accessed.{Accessed}
pub mod Laws

pub record Effect : Type 0 where
  pub accessed : Accessed
  pub memory : Memory

-- a load or fetch
abbrev pub is_read : Access → Bool
is_read Read = true
is_read Fetch = true
is_read Write = false

abbrev pub access_answer : Machine → Result ℕ Fault → ℕ → ℕ → Accessed
access_answer M outcome stall reads = record { machine = M; outcome = outcome; stall = stall; reads = reads }

abbrev pub denied_with : Machine → SystemState → exception.Exception → ℕ → Accessed
denied_with M sys e reads = access_answer (with_sys M sys) (Err (Exception e)) 0 reads

abbrev pub refused_with : Machine → Refusal → Accessed
refused_with M r = access_answer M (Err (Refused r)) 0 0

-- ---- the cache

-- "the cache once, at the first byte's physical address"
unfoldable pub lines_of : List ℕ → List ℕ
lines_of [] = []
lines_of (pa ∷ l) = pa ∷ []

unfoldable pub presented : Access → L1Cache → ℕ → CacheAccess
presented Read c pa = loaded c pa
presented Fetch c pa = fetched c pa
presented Write c pa = record { cache = stored c pa; stall = 0 }

unfoldable pub presented_each : Access → L1Cache → List ℕ → CacheAccess
presented_each k c [] = record { cache = c; stall = 0 }
presented_each k c (pa ∷ l) =
    let first = presented k c pa in
    let rest = presented_each k first.cache l in
    record { cache = rest.cache; stall = first.stall + rest.stall }

-- an access whose bytes stand at l
abbrev pub asked : Access → Machine → List ℕ → CacheAccess
asked k M l = presented_each k M.cache (lines_of l)

-- ---- memory

-- why an access has no value, by its check and by its data
abbrev pub fault_of : AccessError → Fault
fault_of (permission.Denied e) = Exception e
fault_of (permission.Refused r) = Refused r

abbrev pub data_fault : DataError → Fault
data_fault missing.BusError = BusError
data_fault (missing.Refused r) = Refused r

unfoldable pub read_outcome : Result ℕ DataError → Result ℕ Fault
read_outcome (Ok v) = Ok v
read_outcome (Err e) = Err (data_fault e)

unfoldable pub write_outcome : Result (Unit {0}) DataError → Result ℕ Fault
write_outcome (Ok tt) = Ok 0
write_outcome (Err e) = Err (data_fault e)

-- what the data of an access answers
unfoldable pub data_outcome : Access → Memory → ℕ → List ℕ → Result ℕ Fault
data_outcome Read m n l = read_outcome (load_at m n l)
data_outcome Fetch m n l = read_outcome (load_at m n l)
data_outcome Write m n l = write_outcome (store_at m n l)

-- the memory that it leaves: "a store writes its inside bytes"
unfoldable pub data_memory : Access → Memory → ℕ → List ℕ → ℕ → Memory
data_memory Read m n l v = m
data_memory Fetch m n l v = m
data_memory Write m n l v = memory_at m n l v

-- ---- the access

-- an allowed access: the cache, then memory
abbrev pub moved : Access → Machine → Memory → List ℕ → ℕ → ℕ → ℕ → Effect
moved k M m l n v reads =
    record {
      accessed = access_answer (with_cache M (asked k M l).cache) (data_outcome k m n l) (asked k M l).stall reads;
      memory = data_memory k m n l v;
    }

-- by what the check permits, and where the bytes are if it does
unfoldable pub permitted : Access → Machine → Memory → List ℕ → ℕ → ℕ → AccessChecked → Result (Unit {0}) AccessError → Effect
permitted k M m l n v c (Ok tt) = moved k (with_sys M c.sys) m l n v c.reads
permitted k M m l n v c (Err (permission.Denied e)) = record { accessed = denied_with M c.sys e c.reads; memory = m }
permitted k M m l n v c (Err (permission.Refused r)) = record { accessed = refused_with M r; memory = m }

-- "finds each byte by looking up the TLB again"
abbrev pub looked_up : AccessChecked → ℕ → ℕ → List ℕ
looked_up c a n = spots c.sys a n

abbrev pub after_check : Access → Machine → Memory → ℕ → ℕ → ℕ → AccessChecked → Effect
after_check k M m a n v c = permitted k M m (looked_up c a n) n v c c.permission

unfoldable pub access_of : Access → Machine → Memory → ℕ → ℕ → ℕ → Effect
access_of k M m a n v = after_check k M m a n v (check_access m M.sys a n k)
