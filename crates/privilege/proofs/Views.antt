-- The ways through the debugger's view. Assumes nothing.
use Rattle.std.proofs.Common.{◌≡◌, ℕ, ◌%◌, true, false, not, eqb, get_or, ◌∙◌, Option, Some, None, Result, Ok, Err, bit_and}
use Rattle.common.specs.Bits.Laws.{flag_is}
use Rattle.common.specs.declared.Refusal.{Refusal}
use Rattle.memory.specs.Gate.{access_gate}
use Rattle.memory.specs.Gate.Laws.{map_alone}
use Rattle.memory.specs.Memory.{Memory}
use Rattle.mmu.specs.Check.{page_addr}
use Rattle.mmu.specs.Tlb.{no_entry}
use Rattle.mmu.specs.Vm.{slot_of}
use Rattle.mmu.specs.Walk.{walk_of}
use Rattle.mmu.specs.declared.walk.WalkFault.TheVariants as walked
use Rattle.mmu.specs.declared.walk.WalkFault.{WalkFault}
use Rattle.privilege.specs.declared.debug.DebugTranslation.TheVariants.{Unmapped, BusError}
use Rattle.privilege.specs.declared.debug.DebugTranslation.{DebugTranslation}
use Rattle.mmu.specs.declared.tlb.TlbEntry.{TlbEntry}
use Rattle.mmu.specs.declared.vm.Vm.{Vm}
use Rattle.mmu.specs.declared.walk.WalkAnswer.{WalkAnswer}
use Rattle.privilege.specs.Debug.{flags_of, mapped_to, by_walk, by_slot, debug_translated, slot_view}
use Rattle.privilege.specs.declared.debug.TlbFlags.{TlbFlags}
use Rattle.privilege.specs.declared.state.SystemState.{SystemState}

pub flags_are : (w : ℕ)
    → record { read = not (eqb (bit_and w 2) 0); write = not (eqb (bit_and w 4) 0); execute = not (eqb (bit_and w 8) 0); user = not (eqb (bit_and w 16) 0) } ≡ flags_of w
flags_are w = rw (flag_is w 1, flag_is w 2, flag_is w 3, flag_is w 4)

-- `debug_walk`, where the walk answered w
module _ (va : ℕ) (o w : WalkAnswer) (is : w ≡ o) where
  pub walk_mapped : (e : TlbEntry) (r : DebugTranslation) → w.walked ≡ Ok e → r ≡ mapped_to e va false → r ≡ by_walk va o.walked
  walk_mapped e r p q = q ∙ rw (← is, p)

  pub walk_unmapped : (f : WalkFault) → w.walked ≡ Err f → f ≡ walked.Missing → Unmapped ≡ by_walk va o.walked
  walk_unmapped f p q = rw (← is, p, q)

  pub walk_bus : (f : WalkFault) → w.walked ≡ Err f → f ≡ walked.BusError → BusError ≡ by_walk va o.walked
  walk_bus f p q = rw (← is, p, q)

-- `debug_translate`
module _ (m : Memory) (s : SystemState) (va : ℕ) where
  pub view_refused : (r : Refusal) → Err r ≡ access_gate m true → Err r ≡ debug_translated m s va
  unfolding debug_translated
  view_refused r h = rw (← (map_alone m), ← h)

  pub view_shown : (r : DebugTranslation) → (u : Unit {0}) → Ok u ≡ access_gate m true → r ≡ by_slot s.vm va (walk_of m s.vm.ptbr va).walked (slot_of s.vm va) → Ok r ≡ debug_translated m s va
  unfolding debug_translated
  view_shown r u h q = rw (← (map_alone m), ← h, q)

-- `debug_lookup`, where the walk would answer w
module _ (vm : Vm) (va : ℕ) (w : Result TlbEntry WalkFault) (p : Option ℕ) (at : p ≡ slot_of vm va) (r : DebugTranslation) where
  pub view_resident : (i : ℕ) → p ≡ Some i → r ≡ mapped_to (get_or vm.tlb i no_entry) va true → r ≡ by_slot vm va w (slot_of vm va)
  view_resident i e q = q ∙ rw (← at, e)

  pub view_walked : p ≡ None → r ≡ by_walk va w → r ≡ by_slot vm va w (slot_of vm va)
  view_walked e q = q ∙ rw (← at, e)

pub view_is : (vm : Vm) (i : ℕ) (f : TlbFlags) → f ≡ flags_of (get_or vm.tlb (i % 16) no_entry).flags
    → (let e = get_or vm.tlb (i % 16) no_entry in
    record { index = i % 16; valid = e.valid; virtual_page = page_addr e.vpn; physical_page = page_addr e.ppn; flags = f }) ≡ slot_view vm i
unfolding slot_view
view_is vm i f e = rw e
