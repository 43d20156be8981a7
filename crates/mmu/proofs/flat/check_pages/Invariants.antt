-- `mmu::flat::check_pages` meets its contract. The loop's invariant: the whole check is the check from the present page on, after the reads made so
-- far. An allowed page lies below the reserved ones, so the next number is a page's, and the loop ends. Assumes nothing.
use Rattle.std.proofs.Common.{◌≡◌, ◌-◌, ◌*◌, ◌/◌, ◌^◌, ◌<◌, ◌≤◌}
use Rattle.memory.specs.Memory.{lent}
use Rattle.mmu.specs.Check.{last_page}
use Rattle.mmu.specs.Flat.{vm_at}
use Rattle.mmu.proofs.Pages.{From}
use Rattle.mmu.proofs.flat.check_pages.Given as goal

abbrev pub invariant-loop-e : goal.invariant-loop-e
invariant-loop-e l =
    From (lent l.base l.mem) l.access l.addr l.size (vm_at l.initial.vm) (vm_at l.vm) l.page l.va l.reads
    × (l.va / 4096 ≡ l.page)
    × (l.page < 2 ^ 20)
    × (l.last ≡ last_page l.addr l.size)
    × (l.last < 2 ^ 20)
    × (l.reads ≤ 2 * l.page)

abbrev pub decreases-loop-e : goal.decreases-loop-e
decreases-loop-e l =
    2 ^ 20 - l.page
