-- The privilege state's TLB stays orderly, and what a resident page permits: change request W-209. Assumes nothing.
--
--   Tidy s                                         == the TLB has its sixteen slots, and is orderly
--   new_tidy                                       == a new state's is
--   check_tidy, write_tidy, trap_tidy, return_tidy == it stays so through a check, a register write, a trap and a return from one
--   resident_check                                 == the check of an access inside a resident page: its entry decides, no table word is read and nothing changes
use Rattle.std.specs.Prelude.{◌≡◌, ℕ, ◌+◌, ◌*◌, ◌/◌, ◌%◌, ◌^◌, ◌<◌, ◌≤◌, true, List, length, ◌==◌, Option, Some, None}
use Rattle.std.proofs.Common.{ap, ◌∙◌}
use Rattle.common.specs.Cases.{cond_holds}
use Rattle.memory.specs.Gate.{map_good, access_gate}
use Rattle.memory.specs.Gate.Laws.{map_open, size_open, gated_holds}
use Rattle.memory.specs.Memory.{Memory}
use Rattle.mmu.specs.Check.{judged, check_each, pages_of}
use Rattle.mmu.specs.Check.Pages.{pages_keep, each_page}
use Rattle.mmu.specs.Opened.Laws.{pages_small, pages_one}
use Rattle.mmu.specs.Resident.{in_slot, Orderly}
use Rattle.mmu.specs.Resident.Laws.{flushed_slots, orderly_flushed, dropped_slots, orderly_dropped, orderly_each, resident_page}
use Rattle.mmu.specs.Vm.{new_vm, flushed, slot_of}
use Rattle.mmu.specs.Vm.Laws.{flushed_is}
use Rattle.mmu.specs.declared.exception.Access.{Access}
use Rattle.mmu.specs.declared.vm.Vm.{Vm}
use Rattle.privilege.specs.Access.{legal_size, translating_of, permission_of, from_pages, check_legal, check_access}
use Rattle.privilege.specs.Access.Laws.{legal_few, check_good, by_pages}
use Rattle.privilege.specs.Registers.{vm_ptbr, user_written, region_written, region_field, sr_written}
use Rattle.privilege.specs.State.{new_state, status_set, with_vm}
use Rattle.privilege.specs.Trap.{trapped, returned, enters_user}
use Rattle.privilege.specs.declared.check.AccessChecked.{AccessChecked}
use Rattle.privilege.specs.declared.registers.SrWritten.{SrWritten}
use Rattle.privilege.specs.declared.state.InstructionMode.{InstructionMode}
use Rattle.privilege.specs.declared.state.SystemState.{SystemState}
use Rattle.privilege.specs.declared.trap.Returned.{Returned}
use Rattle.privilege.specs.declared.trap.Trapped.{Trapped}

abbrev pub Tidy : SystemState → Type 0
Tidy s = (length s.vm.tlb ≡ 16) × Orderly s.vm.tlb

-- a flushed TLB
swept : (s : SystemState) (vm : Vm) → Tidy (with_vm s (flushed vm))
swept s vm = (flushed_slots vm, orderly_flushed vm)

pub new_tidy : Tidy new_state
new_tidy = let same = flushed_is new_vm in rw same at (swept new_state new_vm)

-- ---- a check

module _ (m : Memory) (s : SystemState) (a n : ℕ) (k : Access) (small : a < 2 ^ 32) (o : Tidy s) where
  legal_tidy : Tidy (check_legal m s a n k).sys
  unfolding check_legal
  legal_tidy =
      cond_holds (λ (c : AccessChecked). Tidy c.sys) (translating_of s)
      ((pages_keep m k s.vm (pages_of a n)).slots ∙ o.0, orderly_each m k (pages_of a n) s.vm (pages_small a n small) o.0 o.1) o

  pub check_tidy : Tidy (check_access m s a n k).sys
  unfolding check_access
  check_tidy = gated_holds (λ (c : AccessChecked). Tidy c.sys) (access_gate m (legal_size k n)) legal_tidy (λ r. o)

  pub resident_check : (i : ℕ) → map_good m ≡ true → legal_size k n ≡ true → translating_of s ≡ true → a % 4096 + n ≤ 4096 → slot_of s.vm a ≡ Some i
      → check_access m s a n k ≡ record { sys = s; permission = permission_of (judged (in_slot s.vm.tlb i) k a); reads = 0 }
  resident_check i good legal on room at =
      let one = ap (check_each m k s.vm) (pages_one a n small (legal_few k n legal).0 room) ∙ each_page m k s.vm a in
      check_good m s a n k (size_open m (legal_size k n) (map_open m good) legal)
      ∙ by_pages m s a n k on
      ∙ ap (from_pages s) (one ∙ resident_page m s.vm k a small o.0 o.1 i at)

-- ---- registers, traps

module _ (s : SystemState) (o : Tidy s) where
  abbrev Left : SrWritten → Type 0
  Left w = Tidy w.sys

  user_tidy : (i v : ℕ) (reg : List ℕ) → Left (user_written s i v reg)
  unfolding user_written
  user_tidy i v reg = cond_holds Left s.user o o

  region_tidy : (v : ℕ) (reg : List ℕ) (p : Option (ℕ × ℕ)) → Left (region_written s reg v p)
  region_tidy v reg (Some (n, f)) = o
  region_tidy v reg None = o

  pub write_tidy : (sr v : ℕ) (reg : List ℕ) → Tidy (sr_written s sr v reg).sys
  unfolding sr_written status_set
  write_tidy sr v reg =
      cond_holds Left (sr == 0x00) o
      (cond_holds Left (sr == 0x01) o
      (cond_holds Left (sr == 0x02) o
      (cond_holds Left (sr == 0x08) (user_tidy 0 v reg)
      (cond_holds Left (sr == 0x09) (user_tidy 1 v reg)
      (cond_holds Left (sr == 0x0A) (user_tidy 2 v reg)
      (cond_holds Left (sr == 0x40) o
      (cond_holds Left (sr == 0x41) (swept s (vm_ptbr s.vm (v / 4096 * 4096)))
      (cond_holds Left (sr == 0x42) o
      (cond_holds Left (sr == 0x43) (swept s s.vm)
      (cond_holds Left (sr == 0x44) (dropped_slots s.vm v ∙ o.0, orderly_dropped s.vm v o.1) (region_tidy v reg (region_field sr))))))))))))

  pub trap_tidy : (reg : List ℕ) (epc cause : ℕ) (mode : InstructionMode) → Tidy (trapped s reg epc cause mode).sys
  unfolding trapped
  trap_tidy reg epc cause mode = cond_holds (λ (t : Trapped). Tidy t.sys) s.user o o

  pub return_tidy : (reg : List ℕ) → Tidy (returned s reg).sys
  unfolding returned
  return_tidy reg = cond_holds (λ (t : Returned). Tidy t.sys) (enters_user s) o o
