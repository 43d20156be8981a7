-- What the writer's definitions mean: W-201's sentences as laws.
--
--   InOrder l                          == ascending without a repeat
--   Wrote c ptbr used                  == the call was not refused, and answered PTBR and the number of used frames
--   First r map list leaves run frames == r is the first refusal, where each question is answered so
--   Applies c r                        == r is the first refusal that applies to the call
--   indexes vs                         == the level-1 word of each page
--   distinct l                         == how many numbers l has, each counted once
--   Meaning                            == the laws, one field a sentence
use Rattle.std.specs.Prelude.{ℕ, suc, ◌+◌, ◌*◌, ◌/◌, ◌%◌, ◌^◌, ◌≤◌, ◌<◌, ◌≡◌, Bool, true, false, cond, ◌||◌, List, [], ◌∷◌, map, leb, eqb, length, get_or, Some, Ok, Err}
use Rattle.common.specs.Bits.{bit_set}
use Rattle.memory.specs.Memory.{Memory, good_map, byte_at, read_at, word_spots, inside}
use Rattle.memory.specs.Memory.Laws.{SameMap}
use Rattle.mmu.specs.declared.walk.WalkFault.TheVariants.{Missing}
use Rattle.mmu.specs.Opened.{TableByte, Opened}
use Rattle.mmu.specs.Vm.{flushed}
use Rattle.mmu.specs.Walk.{walk_of}
use Rattle.mmu.specs.declared.exception.Access.{Access}
use Rattle.mmu.specs.declared.exception.Access.TheVariants.{Write}
use Rattle.mmu.specs.declared.vm.Vm.{Vm}
use Rattle.tables.specs.declared.mapping.Mapping.{Mapping}
use Rattle.tables.specs.declared.refusal.Refusal.{Refusal}
use Rattle.tables.specs.declared.refusal.Refusal.TheVariants as refusal
use Rattle.tables.specs.Mapping.{mapping, leaf_at, only_listed, good_mapping, all_good, ascending_from, good_list}
use Rattle.tables.specs.Tables.{directories, table_for, frames_for, good_run, written, answer_for, Call, list_of, answer_to, after}
use Rattle.tables.specs.Found.{Listed, entry_of, InFrames, NoEntry, Opens}

-- each number above those before it
abbrev pub InOrder : List ℕ → Type 0
InOrder l = (j k : ℕ) → j < k → k < length l → get_or l j 0 < get_or l k 0

abbrev pub Wrote : Call → ℕ → ℕ → Type 0
Wrote c ptbr used = answer_to c ≡ Ok (written ptbr used)

-- "in that order after 2": map, list, leaves, run and frames are asked one after the other, and the first that is not good is told
abbrev pub First : Refusal → Bool → Bool → Bool → Bool → Bool → Type 0
First refusal.Map map list leaves run frames = map ≡ false
First refusal.Order map list leaves run frames = (map ≡ true) × (list ≡ false)
First refusal.Leaf map list leaves run frames = (map ≡ true) × (list ≡ true) × (leaves ≡ false)
First refusal.Run map list leaves run frames = (map ≡ true) × (list ≡ true) × (leaves ≡ true) × (run ≡ false)
First refusal.Frames map list leaves run frames = (map ≡ true) × (list ≡ true) × (leaves ≡ true) × (run ≡ true) × (frames ≡ false)

abbrev pub Applies : Call → Refusal → Type 0
Applies c r =
    First r (good_map c.memory.base (length c.memory.bytes)) (good_list c.vpns c.ppns c.bits) (all_good (list_of c))
    (good_run c.memory c.first c.frames) (leb (frames_for c.vpns) c.frames)

abbrev pub indexes : List ℕ → List ℕ
indexes vs = map (λ (v : ℕ). v / 1024) vs

unfoldable pub occurs : ℕ → List ℕ → Bool
occurs x [] = false
occurs x (y ∷ l) = eqb x y || occurs x l

-- a number counts where it occurs for the last time
unfoldable pub distinct : List ℕ → ℕ
distinct [] = 0
distinct (x ∷ l) = cond (occurs x l) (distinct l) (suc (distinct l))

pub record Meaning : Type 0 where
  -- "A walk from the new PTBR must find exactly the listed mappings": of a listed page its frame and its bits,
  pub listed : (c : Call) (ptbr used : ℕ) → Wrote c ptbr used → (va : ℕ) → va < 2 ^ 32 → (x : Mapping) → Listed x (list_of c) → x.vpn ≡ va / 4096
      → (walk_of (after c) ptbr va).walked ≡ Ok (entry_of x)
  -- and of any other page nothing
  pub unlisted : (c : Call) (ptbr used : ℕ) → Wrote c ptbr used → (va : ℕ) → va < 2 ^ 32 → ((x : Mapping) → Listed x (list_of c) → x.vpn ≡ va / 4096 → ⊥)
      → (walk_of (after c) ptbr va).walked ≡ Err Missing
  -- "The first frame becomes the level-1 table": its words, where each directory's table stands in the frame of its place
  pub first_frame : (c : Call) (ptbr used : ℕ) → Wrote c ptbr used
      → (ptbr ≡ c.first) × (used ≡ frames_for c.vpns)
      × ((i : ℕ) → i < 1024 → read_at (after c) (word_spots (ptbr + 4 * i)) ≡ Some (table_for ptbr i (directories c.vpns)))
  -- "each further one a level-2 table": the words of the table in the frame number j + 1, "a leaf its listed bits too, and all else is zero"
  pub further_frames : (c : Call) (ptbr used : ℕ) → Wrote c ptbr used → (j i : ℕ) → j + 1 < used → i < 1024
      → read_at (after c) (word_spots (ptbr + 4096 * (j + 1) + 4 * i)) ≡ Some (leaf_at (get_or (directories c.vpns) j 0 * 1024 + i) (list_of c))
  -- "in ascending order, lowest frame first"
  pub ascending : (c : Call) (ptbr used : ℕ) → Wrote c ptbr used
      → (ascending_from 0 (directories c.vpns) ≡ true)
      × ((j : ℕ) → j + 1 < used → table_for ptbr (get_or (directories c.vpns) j 0) (directories c.vpns) ≡ ptbr + 4096 * (j + 1) + 1)
  -- "equal lists and frames give equal bytes", whatever stood there
  pub equal_bytes : (c d : Call) (ptbr used ptbr' used' : ℕ) → Wrote c ptbr used → Wrote d ptbr' used'
      → c.vpns ≡ d.vpns → c.ppns ≡ d.ppns → c.bits ≡ d.bits → c.first ≡ d.first
      → (a : ℕ) → InFrames ptbr used a → byte_at (after c) a ≡ byte_at (after d) a
  -- "Bytes outside the used frames stay", those of the run that are not needed too; so does the map
  pub outside_stays : (c : Call) (ptbr used : ℕ) → Wrote c ptbr used → (a : ℕ) → (InFrames ptbr used a → ⊥) → byte_at (after c) a ≡ byte_at c.memory a
  pub map_stays : (c : Call) → SameMap (after c) c.memory
  -- "a refused call writes nothing"
  pub refused_stays : (c : Call) (r : Refusal) → answer_to c ≡ Err r → after c ≡ c.memory
  -- "Refusals: 9 .., 10 .., 11 .., 12 .., in that order after 2": a refusal is given exactly where it is the first that applies
  pub refused : (c : Call) (r : Refusal) → Applies c r → answer_to c ≡ Err r
  pub refused_only : (c : Call) (r : Refusal) → answer_to c ≡ Err r → Applies c r
  -- 9 exactly where a list is over 512, out of order or has a repeat, or the lists do not fit together
  pub list_accepted : (vs ps bs : List ℕ) → length vs ≤ 512 → length ps ≡ length vs → length bs ≡ length vs → InOrder vs → good_list vs ps bs ≡ true
  pub list_is : (vs ps bs : List ℕ) → good_list vs ps bs ≡ true → (length vs ≤ 512) × (length ps ≡ length vs) × (length bs ≡ length vs) × InOrder vs
  -- 10 exactly for "a leaf that a walk would not accept", W without R among them, or "a page starting at or above 0xFFFF0000"
  pub leaf_accepted : (v p b : ℕ) → v * 4096 < 0xFFFF_0000 → p * 4096 < 0xFFFF_0000 → only_listed b ≡ true
      → (b / 2 % 8 ≡ 0 → ⊥) → (bit_set b 2 ≡ true → bit_set b 1 ≡ true) → good_mapping (mapping v p b) ≡ true
  pub other_bits : (v p b : ℕ) → only_listed b ≡ false → good_mapping (mapping v p b) ≡ false
  pub no_access : (v p b : ℕ) → b / 2 % 8 ≡ 0 → good_mapping (mapping v p b) ≡ false
  pub write_only : (v p b : ℕ) → bit_set b 2 ≡ true → bit_set b 1 ≡ false → good_mapping (mapping v p b) ≡ false
  pub high_page : (v p b : ℕ) → 0xFFFF_0000 ≤ v * 4096 → good_mapping (mapping v p b) ≡ false
  pub high_frame : (v p b : ℕ) → 0xFFFF_0000 ≤ p * 4096 → good_mapping (mapping v p b) ≡ false
  -- 10 over the list: it is good exactly if each of its mappings is
  pub leaves_accepted : (l : List Mapping) → ((x : Mapping) → Listed x l → good_mapping x ≡ true) → all_good l ≡ true
  pub leaves_are : (l : List Mapping) → all_good l ≡ true → (x : Mapping) → Listed x l → good_mapping x ≡ true
  -- 11 exactly for a run that "is unaligned or has a byte outside the map"; a run of no frames has none
  pub run_accepted : (m : Memory) (first n : ℕ) → first % 4096 ≡ 0 → ((a : ℕ) → InFrames first n a → inside m a ≡ true) → good_run m first n ≡ true
  pub run_unaligned : (m : Memory) (first n : ℕ) → (first % 4096 ≡ 0 → ⊥) → good_run m first n ≡ false
  pub run_outside : (m : Memory) (first n a : ℕ) → InFrames first n a → inside m a ≡ false → good_run m first n ≡ false
  -- 12 "for too few frames": a list needs one for level 1 and one for each level-1 word that its pages use, and no more are used
  pub frames_needed : (c : Call) → good_list c.vpns c.ppns c.bits ≡ true → all_good (list_of c) ≡ true
      → frames_for c.vpns ≡ 1 + distinct (indexes c.vpns)
  pub none_needless : (c : Call) (ptbr used : ℕ) → Wrote c ptbr used → used ≡ 1 + distinct (indexes c.vpns)
  -- an empty list is good and needs one frame
  pub empty_list : (m : Memory) (first n : ℕ) → good_map m.base (length m.bytes) ≡ true → good_run m first n ≡ true → 1 ≤ n
      → answer_for m [] [] [] first n ≡ Ok (written first 1)
  -- for isolation: the bytes of the tables are those of the used frames,
  pub table_bytes : (c : Call) (ptbr used : ℕ) → Wrote c ptbr used → (a : ℕ) → TableByte (after c) ptbr a → InFrames ptbr used a
  pub all_table_bytes : (c : Call) (ptbr used : ℕ) → Wrote c ptbr used → (a : ℕ) → InFrames ptbr used a → TableByte (after c) ptbr a
  -- and with PTBR set and the TLB empty, as after the flush that a write of PTBR makes, users can open what the list opens and nothing else
  pub flush_empties : (vm : Vm) → NoEntry (flushed vm)
  pub opened_listed : (c : Call) (ptbr used : ℕ) → Wrote c ptbr used → (vm : Vm) → vm.ptbr ≡ ptbr → NoEntry vm
      → (k : Access) (a : ℕ) → Opened (after c) vm k a → Opens (list_of c) k a
  pub listed_opened : (c : Call) (ptbr used : ℕ) → Wrote c ptbr used → (vm : Vm) → vm.ptbr ≡ ptbr
      → (k : Access) (a : ℕ) → Opens (list_of c) k a → Opened (after c) vm k a
  -- so the premises of demand 3 are met. A list that opens no hidden page, in frames with no hidden byte, leaves every hidden byte shut:
  -- "No hidden byte lies in a page table reachable from PTBR, or in a page that a table leaf or valid TLB entry opens to users"
  pub shut : (c : Call) (ptbr used : ℕ) → Wrote c ptbr used → (vm : Vm) → vm.ptbr ≡ ptbr → NoEntry vm → (hidden : ℕ → Bool)
      → ((a : ℕ) → hidden a ≡ true → InFrames ptbr used a → ⊥) → ((a : ℕ) → hidden a ≡ true → (k : Access) → Opens (list_of c) k a → ⊥)
      → (a : ℕ) → hidden a ≡ true → (TableByte (after c) ptbr a → ⊥) × ((k : Access) → Opened (after c) vm k a → ⊥)
  -- "No table byte lies in a page so opened for user writing", where no listed page opens a used frame for it
  pub unwritable : (c : Call) (ptbr used : ℕ) → Wrote c ptbr used → (vm : Vm) → vm.ptbr ≡ ptbr → NoEntry vm
      → ((a : ℕ) → InFrames ptbr used a → Opens (list_of c) Write a → ⊥)
      → (a : ℕ) → TableByte (after c) ptbr a → Opened (after c) vm Write a → ⊥
