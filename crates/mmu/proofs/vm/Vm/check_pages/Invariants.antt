-- `mmu::vm::Vm::check_pages` meets its contract. The loop's invariant: the whole check is the check from the present page on, after the
-- reads made so far. The number after an allowed page's is a page's (`next_number`, by `steps`), so the loop comes to the last page.
-- Assumes nothing.
use Rattle.std.proofs.Common.{◌≡◌, ◌-◌, ◌*◌, ◌/◌, ◌^◌, ◌<◌, ◌≤◌}
use Rattle.memory.specs.Memory.{lent}
use Rattle.mmu.specs.Check.{last_page}
use Rattle.mmu.proofs.Pages.{From}
use Rattle.mmu.proofs.vm.Vm.check_pages.Given as goal

abbrev pub invariant-loop-e : goal.invariant-loop-e
invariant-loop-e l =
    From (lent l.base l.mem) l.access l.addr l.size l.initial.vm l.vm l.page l.va l.reads
    × (l.va / 4096 ≡ l.page)
    × (l.page < 2 ^ 20)
    × (l.last ≡ last_page l.addr l.size)
    × (l.last < 2 ^ 20)
    × (l.reads ≤ 2 * l.page)

abbrev pub decreases-loop-e : goal.decreases-loop-e
decreases-loop-e l =
    2 ^ 20 - l.page
