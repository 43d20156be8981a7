-- The table walk: document 01, 'Access and translation'; `Vm::walk` of cpu_privilege.rs.
--
--   table_ok w        == a level-1 word that names a table: V, bits 6 and 7 clear, R, W and X clear
--   leaf_ok w         == a leaf: V, bits 6 and 7 clear, some of R, W and X, and R if W
--   word_of_table w i == where word i of a table stands, whose base is w with its low 12 bits cleared
--   spot1, spot2      == where the walk's two words stand
--   leaf_entry va w   == the entry that a good leaf makes: its frame, and of its bits R, W, X and U alone
--   walk_of m ptbr va == the walk for virtual address va
--
-- Of a table word bit 0 is V, 1 to 3 are R, W and X, 4 is U; 6 and 7 are reserved. The others are ignored.
use Rattle.std.specs.Prelude.{ℕ, ◌+◌, ◌*◌, ◌/◌, ◌%◌, Bool, true, cond, not, ◌&&◌, ◌||◌, ◌==◌, Option, Some, None, Result, Ok, Err}
use Rattle.common.specs.Bits.{bit_set}
use Rattle.memory.specs.Memory.{Memory, read_at, word_spots}
use Rattle.mmu.specs.declared.walk.WalkFault.TheVariants.{Missing, BusError}
use Rattle.mmu.specs.declared.walk.WalkFault.{WalkFault}
use Rattle.mmu.specs.declared.tlb.TlbEntry.{TlbEntry}
use Rattle.mmu.specs.declared.walk.WalkAnswer.{WalkAnswer}
pub mod Laws

-- valid, and no reserved bit
abbrev pub well_formed : ℕ → Bool
well_formed w = bit_set w 0 && w / 64 % 4 == 0

-- the word's R, W and X bits
abbrev pub rwx : ℕ → ℕ
rwx w = w / 2 % 8

unfoldable pub table_ok : ℕ → Bool
table_ok w = well_formed w && rwx w == 0

unfoldable pub leaf_ok : ℕ → Bool
leaf_ok w = well_formed w && not (rwx w == 0) && (not (bit_set w 2) || bit_set w 1)

-- where word i of the table stands whose base is w: the low 12 bits of the base are cleared
abbrev pub word_of_table : ℕ → ℕ → ℕ
word_of_table w i = w / 4096 * 4096 + i * 4

abbrev pub spot1 : ℕ → ℕ → ℕ
spot1 ptbr va = word_of_table ptbr (va / 4194304)

abbrev pub spot2 : ℕ → ℕ → ℕ
spot2 l1 va = word_of_table l1 (va / 4096 % 1024)

unfoldable pub leaf_entry : ℕ → ℕ → TlbEntry
leaf_entry va w = record { valid = true; vpn = va / 4096; ppn = w / 4096; flags = w / 2 % 16 * 2 }

-- an answer after n words read
abbrev pub answered : Result TlbEntry WalkFault → ℕ → WalkAnswer
answered walked n = record { walked = walked; reads = n }

-- by the second word
unfoldable pub walk_leaf : ℕ → Option ℕ → WalkAnswer
walk_leaf va None = answered (Err BusError) 2
walk_leaf va (Some w) = cond (leaf_ok w) (answered (Ok (leaf_entry va w)) 2) (answered (Err Missing) 2)

-- by the first word
unfoldable pub walk_table : Memory → ℕ → Option ℕ → WalkAnswer
walk_table m va None = answered (Err BusError) 1
walk_table m va (Some w) = cond (table_ok w) (walk_leaf va (read_at m (word_spots (spot2 w va)))) (answered (Err Missing) 1)

unfoldable pub walk_of : Memory → ℕ → ℕ → WalkAnswer
walk_of m ptbr va = walk_table m va (read_at m (word_spots (spot1 ptbr va)))
