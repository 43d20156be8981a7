-- `mmu::flat::check_pages` meets its contract. The loop's invariant: the whole check is the check from the present page on, after the reads made so
-- far. An allowed page lies below the reserved ones, so the next number is a page's, and the loop ends. Assumes nothing.
use Rattle.std.proofs.Common.{refl, rules}
use Rattle.mmu.proofs.Flats.{checks_all, loops}
use Rattle.mmu.proofs.Pages.{from_start, last_is}
use Rattle.mmu.proofs.flat.check_pages.Goals as goal

pub loop-e-init : goal.loop-e-init
loop-e-init c = (from_start _ _ _ _ _, refl, search rules, search (last_is, rules), search rules, search rules)

pub overflow_add-reads : goal.overflow_add-reads
overflow_add-reads c = search (loops, rules)

pub loop-e-preserved : goal.loop-e-preserved
loop-e-preserved c =
    (search (loops, rules), search (loops, rules), search (loops, rules), search rules, search rules, search (loops, rules))

pub returns-in-Err : goal.returns-in-Err
returns-in-Err c = checks_all _ _ _ _ _ c.in-Some.ensures.cases (search rules) _ _ _ (search (loops, rules))

pub returns-then-page-last : goal.returns-then-page-last
returns-then-page-last c = checks_all _ _ _ _ _ c.in-Some.ensures.cases (search rules) _ _ _ (search (loops, rules))
