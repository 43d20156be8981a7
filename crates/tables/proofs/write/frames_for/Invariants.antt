-- `tables::write::frames_for` meets its contract. The loop's invariant: the frames counted and those of the directories to come are all.
-- Assumes nothing.
use Rattle.std.proofs.Common.{◌≤◌, ◌+◌, ◌≡◌, length, drop}
use Rattle.tables.specs.Tables.{directories_after, frames_for}
use Rattle.tables.proofs.write.frames_for.Given as goal

abbrev pub invariant-loop-vpn : goal.invariant-loop-vpn
invariant-loop-vpn l =
    (frames_for l.vpns ≡ l.used + length (directories_after l.last (drop l.vpn-index l.vpns))) × (l.vpn-index ≤ length l.vpns) × (l.used ≤ l.vpn-index + 1)
