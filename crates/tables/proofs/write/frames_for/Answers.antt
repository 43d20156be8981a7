-- `tables::write::frames_for` meets its contract. The loop's invariant: the frames counted and those of the directories to come are all.
-- Assumes nothing.
use Rattle.std.proofs.Common.{refl, rules, arith}
use Rattle.tables.specs.Tables.{frames_for}
use Rattle.tables.proofs.Written.{count_done, count_same, count_new}
use Rattle.tables.proofs.write.frames_for.Goals as goal
use Rattle.tables.proofs.write.frames_for.Goals.{else-directory-last, then-directory-last}

pub loop-vpn-init : goal.loop-vpn-init
unfolding frames_for
loop-vpn-init c = (refl, search rules, search rules)

pub loop-vpn-preserved : goal.loop-vpn-preserved
loop-vpn-preserved c = (
  elim c.if-directory-last.branch [ then-directory-last w ↦ search count_new | else-directory-last w ↦ search count_same ],
  search rules,
  elim c.if-directory-last.branch [ then-directory-last w ↦ omega arith | else-directory-last w ↦ omega arith ],
)

pub returns : goal.returns
returns c = search count_done
