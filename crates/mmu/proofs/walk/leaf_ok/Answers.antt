-- `mmu::walk::leaf_ok` meets its contract: each test by a mask is one of the definition's. Assumes nothing.
use Rattle.mmu.proofs.Masks.{leaf_invalid, leaf_reserved, leaf_none, leaf_read_only, leaf_written}
use Rattle.mmu.proofs.walk.leaf_ok.Goals as goal

pub returns-then-l2-eq0 : goal.returns-then-l2-eq0
returns-then-l2-eq0 c = search leaf_invalid

pub returns-then-l2-ne0 : goal.returns-then-l2-ne0
returns-then-l2-ne0 c = search leaf_reserved

pub returns-then-l2-eq0-2 : goal.returns-then-l2-eq0-2
returns-then-l2-eq0-2 c = search leaf_none

pub returns-then-l2-eq0-3 : goal.returns-then-l2-eq0-3
returns-then-l2-eq0-3 c = search leaf_read_only

pub returns : goal.returns
returns c = search leaf_written
