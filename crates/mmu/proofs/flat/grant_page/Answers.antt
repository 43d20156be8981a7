-- `mmu::flat::grant_page` meets its contract: the page is reserved, resident, or walked for. Assumes nothing.
use Rattle.std.proofs.Common.{rules}
use Rattle.mmu.proofs.Flats.{grants_all, grantings}
use Rattle.mmu.proofs.flat.grant_page.Goals as goal

pub returns-then-page-ge-CPU_RESERVED_BASE : goal.returns-then-page-ge-CPU_RESERVED_BASE
returns-then-page-ge-CPU_RESERVED_BASE c = grants_all _ _ _ _ _ c.in-Some.ensures.cases (search rules) _ _ (search (grantings, rules))

pub returns-in_default-slot_of : goal.returns-in_default-slot_of
returns-in_default-slot_of c = grants_all _ _ _ _ _ c.in-Some.ensures.cases (search rules) _ _ (search (grantings, rules))

pub returns-then-grants : goal.returns-then-grants
returns-then-grants c = grants_all _ _ _ _ _ c.in-Some.ensures.cases (search rules) _ _ (search (grantings, rules))

pub returns : goal.returns
returns c = grants_all _ _ _ _ _ c.in-Some.ensures.cases (search rules) _ _ (search (grantings, rules))
