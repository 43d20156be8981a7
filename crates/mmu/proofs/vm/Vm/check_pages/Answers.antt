-- `mmu::vm::Vm::check_pages` meets its contract. The loop's invariant: the whole check is the check from the present page on, after the
-- reads made so far. The number after an allowed page's is a page's (`next_number`, by `steps`), so the loop comes to the last page.
-- Assumes nothing.
use Rattle.std.proofs.Common.{refl, rules}
use Rattle.mmu.proofs.Pages.{from_start, last_is, steps}
use Rattle.mmu.proofs.vm.Vm.check_pages.Goals as goal

pub loop-e-init : goal.loop-e-init
loop-e-init c = (from_start _ _ _ _ _, refl, search rules, search (last_is, rules), search rules, search rules)

pub overflow_add-reads : goal.overflow_add-reads
overflow_add-reads c = search (steps, rules)

pub loop-e-preserved : goal.loop-e-preserved
loop-e-preserved c =
    (search (steps, rules), search (steps, rules), search (steps, rules), search rules, search rules, search (steps, rules))

pub returns-in-Err : goal.returns-in-Err
returns-in-Err c = search (steps, rules)

pub returns-then-page-last : goal.returns-then-page-last
returns-then-page-last c = search (steps, rules)
