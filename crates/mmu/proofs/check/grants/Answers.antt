-- `mmu::check::grants` meets its contract: each test by a mask is the definition's test of a bit. Assumes nothing.
use Rattle.mmu.proofs.Masks.{not_user, no_access, by_frame}
use Rattle.mmu.proofs.check.grants.Goals as goal

pub returns-then-entry-eq0 : goal.returns-then-entry-eq0
returns-then-entry-eq0 c = search not_user

pub returns-then-entry-pte_bit-eq0 : goal.returns-then-entry-pte_bit-eq0
returns-then-entry-pte_bit-eq0 c = search no_access

pub returns : goal.returns
returns c = search by_frame
