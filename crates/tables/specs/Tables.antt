-- The page tables of a list of mappings: W-201.
--
--   directories vs           == the level-1 words that the pages vs use, in order; a page's directory is its number / 1,024
--   table_for a i ds         == word i of level 1, where the tables of the directories ds stand in the frames after a: "a used word holds its
--                               frame and V", else 0
--   level1 first ds          == the 1,024 words of level 1, which stands at first
--   level2 d l               == the 1,024 words of directory d's table: each page's leaf, or 0
--   tables_after last l      == the tables of the mappings l that come after a page of directory last: one for each directory, in order
--   image first vs l         == all words that are written: level 1, then each level-2 table
--   frames_for vs            == frames that the pages vs need
--   good_run m first n       == a run of n frames from first on is aligned and has no byte outside the map: refusal 11 else
--   written ptbr used        == the answer where level 1 stands at ptbr and so many frames are used
--   answer_for, memory_after == what the writer answers, and the memory that it leaves
--   Call                     == the writer's arguments; list_of, answer_to, after: its list, its answer and the memory that it leaves
--
-- Choices that a reader may question. Every word of a used frame is written, so nothing depends on what stood there. A run is judged
-- whole, also its frames that are not needed; those keep their bytes. A run of no frames has no byte outside. That a mapping leads to a
-- frame of the tables is not refused.
use Rattle.std.specs.Prelude.{ℕ, ◌+◌, ◌*◌, ◌/◌, ◌%◌, Bool, cond, ◌&&◌, ◌||◌, List, [], ◌∷◌, ◌++◌, leb, eqb, length, Result, Ok, Err}
use Rattle.memory.specs.Memory.{Memory, good_map}
use Rattle.tables.specs.declared.mapping.Mapping.{Mapping}
use Rattle.tables.specs.declared.refusal.Refusal.{Refusal}
use Rattle.tables.specs.declared.refusal.Refusal.TheVariants.{Map, Order, Leaf, Run, Frames}
use Rattle.tables.specs.declared.write.Tables.{Tables}
use Rattle.tables.specs.Mapping.{mappings, leaf_at, all_good, good_list}
use Rattle.tables.specs.Words.{put_words, words_of}
pub mod Laws

-- the directories of the pages that come after a page of directory last
unfoldable pub directories_after : ℕ → List ℕ → List ℕ
directories_after last [] = []
directories_after last (v ∷ vs) =
    cond (eqb (v / 1024) last) (directories_after last vs) (v / 1024 ∷ directories_after (v / 1024) vs)

-- 1,024 is no page's directory
abbrev pub directories : List ℕ → List ℕ
directories vs = directories_after 1024 vs

unfoldable pub table_for : ℕ → ℕ → List ℕ → ℕ
table_for a i [] = 0
table_for a i (d ∷ ds) = cond (eqb d i) (a + 4096 + 1) (table_for (a + 4096) i ds)

unfoldable pub level1 : ℕ → List ℕ → List ℕ
level1 first ds = words_of (λ i. table_for first i ds) 0 1024

unfoldable pub level2 : ℕ → List Mapping → List ℕ
level2 d l = words_of (λ v. leaf_at v l) (d * 1024) 1024

unfoldable pub tables_after : ℕ → List Mapping → List ℕ
tables_after last [] = []
tables_after last (x ∷ l) =
    cond (eqb (x.vpn / 1024) last) (tables_after last l) (level2 (x.vpn / 1024) (x ∷ l) ++ tables_after (x.vpn / 1024) l)

unfoldable pub image : ℕ → List ℕ → List Mapping → List ℕ
image first vs l = level1 first (directories vs) ++ tables_after 1024 l

unfoldable pub frames_for : List ℕ → ℕ
frames_for vs = 1 + length (directories vs)

-- the run's end is a true sum
unfoldable pub good_run : Memory → ℕ → ℕ → Bool
good_run m first n =
    eqb (first % 4096) 0 && (eqb n 0 || (leb m.base first && leb (first + 4096 * n) (m.base + length m.bytes)))

-- the answer of a call that wrote
abbrev pub written : ℕ → ℕ → Tables
written ptbr used = record { ptbr = ptbr; used = used }

unfoldable pub answer_for : Memory → List ℕ → List ℕ → List ℕ → ℕ → ℕ → Result Tables Refusal
answer_for m vs ps bs first n =
    cond (good_map m.base (length m.bytes))
    (cond (good_list vs ps bs)
    (cond (all_good (mappings vs ps bs))
    (cond (good_run m first n)
    (cond (leb (frames_for vs) n) (Ok (written first (frames_for vs))) (Err Frames))
    (Err Run))
    (Err Leaf))
    (Err Order))
    (Err Map)

-- "a refused call writes nothing"
unfoldable pub by_answer : Memory → ℕ → List ℕ → List Mapping → Result Tables Refusal → Memory
by_answer m first vs l (Ok t) = put_words m first (image first vs l)
by_answer m first vs l (Err r) = m

unfoldable pub memory_after : Memory → List ℕ → List ℕ → List ℕ → ℕ → ℕ → Memory
memory_after m vs ps bs first n = by_answer m first vs (mappings vs ps bs) (answer_for m vs ps bs first n)

-- ---- a call, for the laws

pub record Call : Type 0 where
  pub memory : Memory
  pub vpns : List ℕ
  pub ppns : List ℕ
  pub bits : List ℕ
  pub first : ℕ
  pub frames : ℕ

abbrev pub list_of : Call → List Mapping
list_of c = mappings c.vpns c.ppns c.bits

abbrev pub answer_to : Call → Result Tables Refusal
answer_to c = answer_for c.memory c.vpns c.ppns c.bits c.first c.frames

abbrev pub after : Call → Memory
after c = memory_after c.memory c.vpns c.ppns c.bits c.first c.frames
