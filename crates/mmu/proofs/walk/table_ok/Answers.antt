-- `mmu::walk::table_ok` meets its contract: each test by a mask is one of the definition's. Assumes nothing.
use Rattle.mmu.proofs.Masks.{table_invalid, table_reserved, table_rwx}
use Rattle.mmu.proofs.walk.table_ok.Goals as goal

pub returns-then-l1-eq0 : goal.returns-then-l1-eq0
returns-then-l1-eq0 c = search table_invalid

pub returns-then-l1-ne0 : goal.returns-then-l1-ne0
returns-then-l1-ne0 c = search table_reserved

pub returns : goal.returns
returns c = search table_rwx
