-- The debugger's view: document 01, 'Access and translation'; `debug_translate`, `TlbFlags::from_pte` and an entry of
-- `mmu_snapshot` of cpu_privilege.rs.
--
--   flags_of w                == R, W, X and U of an entry's flags: `from_pte`
--   debug_translated m s va   == "looks up or walks in any mode, fills nothing and checks no permission": `debug_translate`
--   slot_view vm i            == one slot, its index "read modulo 16"
use Rattle.std.specs.Prelude.{ℕ, ◌%◌, Bool, true, false, slice_index_or, Option, Some, None, Result, Ok, Err}
use Rattle.common.specs.Bits.{bit_set}
use Rattle.common.specs.declared.Refusal.{Refusal}
use Rattle.memory.specs.Gate.{gated, map_gate}
use Rattle.memory.specs.Memory.{Memory}
use Rattle.mmu.specs.Check.{page_addr}
use Rattle.mmu.specs.Tlb.{no_entry}
use Rattle.mmu.specs.Vm.{slot_of}
use Rattle.mmu.specs.Walk.{walk_of}
use Rattle.mmu.specs.declared.walk.WalkFault.TheVariants as walked
use Rattle.mmu.specs.declared.walk.WalkFault.{WalkFault}
use Rattle.privilege.specs.declared.debug.DebugTranslation.TheVariants.{Mapped, Unmapped, BusError}
use Rattle.privilege.specs.declared.debug.DebugTranslation.{DebugTranslation}
use Rattle.mmu.specs.declared.tlb.TlbEntry.{TlbEntry}
use Rattle.mmu.specs.declared.vm.Vm.{Vm}
use Rattle.privilege.specs.Transfer.{joined_to}
use Rattle.privilege.specs.declared.debug.TlbEntryView.{TlbEntryView}
use Rattle.privilege.specs.declared.debug.TlbFlags.{TlbFlags}
use Rattle.privilege.specs.declared.state.SystemState.{SystemState}

abbrev pub flags_of : ℕ → TlbFlags
flags_of w = record { read = bit_set w 1; write = bit_set w 2; execute = bit_set w 3; user = bit_set w 4 }

abbrev pub mapped_to : TlbEntry → ℕ → Bool → DebugTranslation
mapped_to e va inTlb = Mapped (joined_to e.ppn va) (flags_of e.flags) inTlb

-- a page that is not resident
abbrev pub by_walk : ℕ → Result TlbEntry WalkFault → DebugTranslation
by_walk va (Ok e) = mapped_to e va false
by_walk va (Err walked.Missing) = Unmapped
by_walk va (Err walked.BusError) = BusError

abbrev pub by_slot : Vm → ℕ → Result TlbEntry WalkFault → Option ℕ → DebugTranslation
by_slot vm va w (Some i) = mapped_to (slice_index_or vm.tlb i no_entry) va true
by_slot vm va w None = by_walk va w

unfoldable pub debug_translated : Memory → SystemState → ℕ → Result DebugTranslation Refusal
debug_translated m s va =
    gated (map_gate m) (Ok (by_slot s.vm va (walk_of m s.vm.ptbr va).walked (slot_of s.vm va))) (λ (r : Refusal). Err r)

abbrev pub view_of : ℕ → TlbEntry → TlbEntryView
view_of i e =
    record { index = i; valid = e.valid; virtual_page = page_addr e.vpn; physical_page = page_addr e.ppn; flags = flags_of e.flags }

unfoldable pub slot_view : Vm → ℕ → TlbEntryView
slot_view vm i = view_of (i % 16) (slice_index_or vm.tlb (i % 16) no_entry)
