-- `tables::write::write_level1` meets its contract. The loop's invariant: the words to come make the whole. Assumes nothing.
use Rattle.std.proofs.Common.{◌≤◌, ◌-◌, ◌+◌, ◌*◌, ◌≡◌, length}
use Rattle.memory.specs.Memory.{lent}
use Rattle.tables.specs.Words.{put_words, words_of}
use Rattle.tables.specs.Tables.{directories, table_for, level1}
use Rattle.tables.proofs.write.write_level1.Given as goal

abbrev pub invariant-loop-directory : goal.invariant-loop-directory
invariant-loop-directory l =
    ((put_words (lent l.base l.initial.mem) l.first (level1 l.first (directories l.vpns))).bytes
    ≡ (put_words (lent l.base l.mem) (l.first + l.directory * 4) (words_of (λ j. table_for l.first j (directories l.vpns)) (0 + l.directory) (1024 - l.directory))).bytes)
    × (l.directory ≤ 1024)
    × (length l.mem ≡ length l.initial.mem)
