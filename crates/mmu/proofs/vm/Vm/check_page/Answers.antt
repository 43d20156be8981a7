-- `mmu::vm::Vm::check_page` meets its contract: the page is reserved, resident, or walked for. Assumes nothing.
use Rattle.std.proofs.Common.{◌≡◌, length, sym, arith, rules}
use Rattle.common.specs.Lists.{mapped_length}
use Rattle.mmu.specs.Tlb.Laws.{found_bound}
use Rattle.mmu.proofs.Pages.{page_reserved, page_resident, page_walked}
use Rattle.mmu.proofs.vm.Vm.check_page.Goals as goal

pub returns-then-page-ge-CPU_RESERVED_BASE : goal.returns-then-page-ge-CPU_RESERVED_BASE
returns-then-page-ge-CPU_RESERVED_BASE c = search page_reserved

pub offset_bounds-self-i : goal.offset_bounds-self-i
offset_bounds-self-i c =
    let s = c.args.self in
    let n : length s.tlb ≡ 16 = search (rules, mapped_length) in
    omega (arith, found_bound _ _ _ (sym c.in-Some.ensures))

pub bounds-self-i : goal.bounds-self-i
bounds-self-i c =
    let s = c.args.self in
    let n : length s.tlb ≡ 16 = search (rules, mapped_length) in
    omega (arith, found_bound _ _ _ (sym c.in-Some.ensures))

pub returns-in-Some : goal.returns-in-Some
returns-in-Some c = search page_resident

pub returns-in-None : goal.returns-in-None
returns-in-None c = search page_walked
