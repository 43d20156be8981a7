-- `privilege::state::SystemState::debug_lookup` meets its contract: resident, or walked. Assumes nothing.
use Rattle.std.proofs.Common.{◌≡◌, length, sym, arith, rules}
use Rattle.common.specs.Lists.{mapped_length}
use Rattle.mmu.specs.Tlb.Laws.{found_bound}
use Rattle.privilege.proofs.Views.{view_resident, view_walked}
use Rattle.privilege.proofs.state.SystemState.debug_lookup.Goals as goal

pub offset_bounds-vm-i : goal.offset_bounds-vm-i
offset_bounds-vm-i c =
    let n : length c.args.self.vm.tlb ≡ 16 = search (rules, mapped_length) in
    omega (arith, found_bound _ _ _ (sym c.in-Some.ensures))

pub bounds-vm-i : goal.bounds-vm-i
bounds-vm-i c =
    let n : length c.args.self.vm.tlb ≡ 16 = search (rules, mapped_length) in
    omega (arith, found_bound _ _ _ (sym c.in-Some.ensures))

pub returns-in-Some : goal.returns-in-Some
returns-in-Some c = search view_resident

pub returns-in-None : goal.returns-in-None
returns-in-None c = search view_walked
