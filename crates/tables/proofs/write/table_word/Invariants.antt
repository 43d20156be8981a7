-- `tables::write::table_word` meets its contract. The loop's invariant: the word is that of the directories to come, whose tables stand after
-- `frame`, and they have room. Assumes nothing.
use Rattle.std.proofs.Common.{◌≤◌, ◌+◌, ◌*◌, ◌≡◌, length, drop}
use Rattle.tables.specs.Tables.{directories_after, directories, table_for, frames_for}
use Rattle.tables.proofs.Written.{Room}
use Rattle.tables.proofs.write.table_word.Given as goal

abbrev pub invariant-loop-vpn : goal.invariant-loop-vpn
invariant-loop-vpn l =
    (table_for l.first l.wanted (directories l.vpns) ≡ table_for l.frame l.wanted (directories_after l.last (drop l.vpn-index l.vpns)))
    × Room (l.first + 4096 * frames_for l.vpns) l.frame l.last l.vpn-index l.vpns
    × (l.vpn-index ≤ length l.vpns)
