-- Extension V's state and what changes it: `Vm` and its `fill`, `flush` and `invalidate`.
--
--   new_vm            == translation off, all else 0: `Vm::default`
--   filled vm e       == e in the victim's slot, "even if another slot is free"; next_victim advances modulo 16
--   flushed vm        == all entries and next_victim zeroed; the registers stay
--   invalidated vm va == the page of address va dropped: TLBINV
--   slot_of vm va     == the slot of the TLB that answers for va's page: the first valid match
--   frame_of vm va    == the physical page that va's page leads to, 0 where it is not resident
use Rattle.std.specs.Prelude.{ℕ, ◌+◌, ◌/◌, ◌%◌, false, List, slice_index_or, slice_set, Option, Some, None}
use Rattle.mmu.specs.declared.tlb.TlbEntry.{TlbEntry}
use Rattle.mmu.specs.declared.vm.Vm.{Vm}
use Rattle.mmu.specs.Tlb.{no_entry, no_entries, first_match, dropped_page}
pub mod Laws

-- the same registers with another TLB
abbrev pub with_tlb : Vm → List TlbEntry → ℕ → Vm
with_tlb vm tlb victim = record { enabled = vm.enabled; ptbr = vm.ptbr; vfault = vm.vfault; tlb = tlb; next_victim = victim }

abbrev pub new_vm : Vm
new_vm = record { enabled = false; ptbr = 0; vfault = 0; tlb = no_entries; next_victim = 0 }

-- next_victim is read modulo 16
abbrev pub victim : Vm → ℕ
victim vm = vm.next_victim % 16

unfoldable pub filled : Vm → TlbEntry → Vm
filled vm e = with_tlb vm (slice_set vm.tlb (victim vm) e) ((victim vm + 1) % 16)

unfoldable pub flushed : Vm → Vm
flushed vm = with_tlb vm no_entries 0

unfoldable pub invalidated : Vm → ℕ → Vm
invalidated vm va = with_tlb vm (dropped_page (va / 4096) vm.tlb) vm.next_victim

-- "the first valid TLB match"
abbrev pub slot_of : Vm → ℕ → Option ℕ
slot_of vm va = first_match (va / 4096) 0 vm.tlb

-- the physical page of a slot
abbrev pub slot_frame : List TlbEntry → Option ℕ → ℕ
slot_frame l (Some i) = (slice_index_or l i no_entry).ppn
slot_frame l None = 0

unfoldable pub frame_of : Vm → ℕ → ℕ
frame_of vm va = slot_frame vm.tlb (slot_of vm va)
