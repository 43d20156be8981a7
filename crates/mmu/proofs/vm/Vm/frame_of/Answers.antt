-- `mmu::vm::Vm::frame_of` meets its contract: the page is resident, or it is not. Assumes nothing.
use Rattle.std.proofs.Common.{◌≡◌, length, sym, arith, rules}
use Rattle.common.specs.Lists.{mapped_length}
use Rattle.mmu.specs.Tlb.Laws.{found_bound}
use Rattle.mmu.proofs.Pages.{resident_frame, no_frame}
use Rattle.mmu.proofs.vm.Vm.frame_of.Goals as goal

pub offset_bounds-self-i : goal.offset_bounds-self-i
offset_bounds-self-i c =
    let n : length c.args.self.tlb ≡ 16 = search (rules, mapped_length) in
    omega (arith, found_bound _ _ _ (sym c.in-Some.ensures))

pub bounds-self-i : goal.bounds-self-i
bounds-self-i c =
    let n : length c.args.self.tlb ≡ 16 = search (rules, mapped_length) in
    omega (arith, found_bound _ _ _ (sym c.in-Some.ensures))

pub returns-in-Some : goal.returns-in-Some
returns-in-Some c = search resident_frame

pub returns-in-None : goal.returns-in-None
returns-in-None c = search no_frame
