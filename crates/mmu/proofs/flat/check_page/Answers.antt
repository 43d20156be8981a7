-- `mmu::flat::check_page` meets its contract: the page is reserved, resident, or walked for. Assumes nothing.
use Rattle.mmu.proofs.Flats.{pages}
use Rattle.std.proofs.Common.{rules}
use Rattle.mmu.proofs.flat.check_page.Goals as goal

pub returns-then-page-ge-CPU_RESERVED_BASE : goal.returns-then-page-ge-CPU_RESERVED_BASE
returns-then-page-ge-CPU_RESERVED_BASE c = search (pages, rules)

pub returns-in_default : goal.returns-in_default
returns-in_default c = search (pages, rules)

pub returns : goal.returns
returns c = search (pages, rules)
