-- `tables::write::write_level2` meets its contract. The loop's invariant: the tables of the directories to come make the whole, and they have
-- room. Assumes nothing.
use Rattle.std.proofs.Common.{◌≤◌, ◌+◌, ◌*◌, ◌≡◌, length, drop}
use Rattle.memory.specs.Memory.{lent}
use Rattle.tables.specs.Mapping.{mappings}
use Rattle.tables.specs.Words.{put_words}
use Rattle.tables.specs.Tables.{tables_after, frames_for}
use Rattle.tables.proofs.Written.{Room}
use Rattle.tables.proofs.write.write_level2.Given as goal

abbrev pub invariant-loop-k : goal.invariant-loop-k
invariant-loop-k l =
    ((put_words (lent l.base l.initial.mem) (l.first + 4096) (tables_after 1024 (mappings l.list.vpns.now l.list.ppns.now l.list.bits.now))).bytes
    ≡ (put_words (lent l.base l.mem) (l.frame + 4096) (tables_after l.last (drop l.k (mappings l.list.vpns.now l.list.ppns.now l.list.bits.now)))).bytes)
    × Room (l.first + 4096 * frames_for l.list.vpns.now) l.frame l.last l.k l.list.vpns.now
    × (l.k ≤ length l.list.vpns.now)
    × (length l.mem ≡ length l.initial.mem)
