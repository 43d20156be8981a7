-- `tables::write::write_table` meets its contract. The loop's invariant: the words to come make the whole. Assumes nothing.
use Rattle.std.proofs.Common.{◌≤◌, ◌-◌, ◌+◌, ◌*◌, ◌≡◌, length, drop}
use Rattle.memory.specs.Memory.{lent}
use Rattle.tables.specs.Mapping.{mappings, leaf_at}
use Rattle.tables.specs.Words.{put_words, words_of}
use Rattle.tables.specs.Tables.{level2}
use Rattle.tables.proofs.write.write_table.Given as goal

abbrev pub invariant-loop-i : goal.invariant-loop-i
invariant-loop-i l =
    ((put_words (lent l.base l.initial.mem) l.frame (level2 l.directory (drop l.from (mappings l.list.vpns.now l.list.ppns.now l.list.bits.now)))).bytes
    ≡ (put_words (lent l.base l.mem) (l.frame + l.i * 4) (words_of (λ v. leaf_at v (drop l.from (mappings l.list.vpns.now l.list.ppns.now l.list.bits.now))) (l.directory * 1024 + l.i) (1024 - l.i))).bytes)
    × (l.i ≤ 1024)
    × (length l.mem ≡ length l.initial.mem)
