-- Change request W-209: "Say what a resident page permits."
--
--   tlb_of M         == the machine's TLB
--   Granted e k      == "that entry has U and the access bit and its physical page is below 0xFFFF0000"
--   Held M m a n k i == a user's access with translation on, over a good map and of a legal size, that stays in its page; the page is resident in slot i, and the TLB
--                       is as every run from reset leaves it
--   Residency        == the invariant, the rule, and what follows from it
use Rattle.std.specs.Prelude.{ℕ, ◌+◌, ◌%◌, ◌^◌, ◌≤◌, ◌<◌, ◌≡◌, true, List, Some, Ok, Err}
use Rattle.common.specs.Bits.{bit_set}
use Rattle.common.specs.Lists.{Each}
use Rattle.memory.specs.Gate.{map_good}
use Rattle.memory.specs.Memory.{Memory}
use Rattle.mmu.specs.Check.{page_addr}
use Rattle.mmu.specs.Exception.{access_bit}
use Rattle.mmu.specs.Resident.{in_slot, Orderly}
use Rattle.mmu.specs.Vm.{slot_of}
use Rattle.mmu.specs.declared.exception.Access.{Access}
use Rattle.mmu.specs.declared.exception.Exception as exception
use Rattle.machine.specs.declared.access.Fault.TheVariants.{Exception}
use Rattle.mmu.specs.declared.tlb.TlbEntry.{TlbEntry}
use Rattle.privilege.specs.Access.{legal_size, translating_of, check_access}
use Rattle.privilege.specs.Resident.{Tidy}
use Rattle.script.specs.declared.Event.{Event}
use Rattle.machine.specs.Access.{access_of}
use Rattle.machine.specs.Resident.{Addressed}
use Rattle.machine.specs.Run.{run_over, run_from}
use Rattle.machine.specs.State.{new_machine, reset_of}
use Rattle.machine.specs.declared.state.Machine.{Machine}

abbrev pub tlb_of : Machine → List TlbEntry
tlb_of M = M.sys.vm.tlb

pub record Granted (e : TlbEntry) (k : Access) : Type 0 where
  pub user : bit_set e.flags 4 ≡ true
  pub bit : bit_set e.flags (access_bit k) ≡ true
  pub page : page_addr e.ppn < 0xFFFF_0000

pub record Held (M : Machine) (m : Memory) (a n : ℕ) (k : Access) (i : ℕ) : Type 0 where
  pub tidy : Tidy M.sys
  pub translated : translating_of M.sys ≡ true
  pub map : map_good m ≡ true
  pub size : legal_size k n ≡ true
  pub small : a < 2 ^ 32
  pub stays : a % 4096 + n ≤ 4096
  pub resident : slot_of M.sys.vm a ≡ Some i

pub record Residency : Type 0 where
  -- "From reset, after any sequence of the runner's events, .. no two valid TLB entries have the same virtual page, and none has a page at or above 0xFFFF0000."
  pub from_reset : (M : Machine) (m : Memory) (es : List Event) → Addressed es → Tidy (run_over es (reset_of M) m).machine.sys
  pub from_new : (base len penalty : ℕ) (m : Memory) (es : List Event) → Addressed es → Tidy (run_over es (new_machine base len penalty) m).machine.sys
  pub from_script : (base len penalty : ℕ) (m : Memory) (n : ℕ) (s : List ℕ) (at : ℕ) → Each (λ b. b < 256) s → Orderly (tlb_of (run_from n s at (new_machine base len penalty) m).machine)
  -- an aligned access stays in its page
  pub aligned : (a n : ℕ) (k : Access) → legal_size k n ≡ true → a % n ≡ 0 → a % 4096 + n ≤ 4096
  -- "passes the check exactly when that entry has U and the access bit and its physical page is below 0xFFFF0000"
  pub passes : (M : Machine) (m : Memory) (a n : ℕ) (k : Access) (i : ℕ) → Held M m a n k i → Granted (in_slot (tlb_of M) i) k → (check_access m M.sys a n k).permission ≡ Ok tt
  pub only : (M : Machine) (m : Memory) (a n : ℕ) (k : Access) (i : ℕ) → Held M m a n k i → (check_access m M.sys a n k).permission ≡ Ok tt → Granted (in_slot (tlb_of M) i) k
  -- "It then uses no walk read and leaves the TLB unchanged." So it does where it is denied
  pub no_reads : (M : Machine) (m : Memory) (a n : ℕ) (k : Access) (i : ℕ) → Held M m a n k i → (check_access m M.sys a n k).reads ≡ 0
  pub nothing_changed : (M : Machine) (m : Memory) (a n : ℕ) (k : Access) (i : ℕ) → Held M m a n k i → (check_access m M.sys a n k).sys ≡ M.sys
  -- so it answers no exception
  pub no_exception : (M : Machine) (m : Memory) (a n v : ℕ) (k : Access) (i : ℕ) → Held M m a n k i → Granted (in_slot (tlb_of M) i) k
      → (x : exception.Exception) → (access_of k M m a n v).accessed.outcome ≡ Err (Exception x) → ⊥
  -- and a table that was changed since says nothing: a leaf that was taken back stays usable while its entry is resident
  pub whatever_tables : (M : Machine) (m m' : Memory) (a n : ℕ) (k : Access) (i : ℕ) → Held M m a n k i → Held M m' a n k i → check_access m M.sys a n k ≡ check_access m' M.sys a n k
