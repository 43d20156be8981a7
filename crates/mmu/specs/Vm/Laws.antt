-- The laws of extension V's state. Assumes nothing.
--
--   flushed_is                          == a flush keeps the registers and zeroes the TLB and next_victim
--   no_entries_lem                      == it leaves no valid entry
--   frame_same                          == addresses of one page lead to one frame
--   invalidated_else, invalidated_entry == TLBINV changes the TLB alone, and there the valid marks of the page's entries alone
use Rattle.std.specs.Prelude.{◌≡◌, ℕ, ◌/◌, false, get_or, replicate, ◌==◌, slice_index_or, refl}
use Rattle.std.proofs.Common.{ap, ⊎_elim}
use Rattle.std.proofs.lemmas.List.{get_or-replicate}
use Rattle.std.proofs.Math.ListN.{get_or-eq_default}
use Rattle.common.specs.Cases.{lt_or_ge}
use Rattle.mmu.specs.Tlb.{no_entry, no_entries}
use Rattle.mmu.specs.Tlb.Laws.{mark_dropped, dropped_at}
use Rattle.mmu.specs.Vm.{with_tlb, flushed, invalidated, frame_of}
use Rattle.mmu.specs.declared.tlb.TlbEntry.{TlbEntry}
use Rattle.mmu.specs.declared.vm.Vm.{Vm}

pub flushed_is : (vm : Vm) → flushed vm ≡ with_tlb vm no_entries 0
unfolding flushed
flushed_is vm = refl

pub no_entries_lem : (vm : Vm) (i : ℕ) → (get_or (flushed vm).tlb i no_entry).valid ≡ false
unfolding flushed no_entries
no_entries_lem vm i =
    ⊎_elim (λ h. ap (λ (e : TlbEntry). e.valid) (get_or-replicate 16 i no_entry no_entry h))
    (λ h. ap (λ (e : TlbEntry). e.valid) (get_or-eq_default (replicate 16 no_entry) no_entry {n = i} h)) (lt_or_ge i 16)

pub frame_same : (vm : Vm) (a b : ℕ) → a / 4096 ≡ b / 4096 → frame_of vm a ≡ frame_of vm b
unfolding frame_of
frame_same vm a b e = rw e

pub invalidated_else : (vm : Vm) (va : ℕ) → invalidated vm va ≡ with_tlb vm (invalidated vm va).tlb vm.next_victim
unfolding invalidated
invalidated_else vm va = refl

pub invalidated_entry : (vm : Vm) (va i : ℕ)
    → slice_index_or (invalidated vm va).tlb i no_entry ≡ mark_dropped ((get_or vm.tlb i no_entry).vpn == va / 4096) (slice_index_or vm.tlb i no_entry)
unfolding invalidated
invalidated_entry vm va i = dropped_at (va / 4096) vm.tlb i
