-- What is found in the written tables, as far as it rests on the words of level 1. Assumes nothing.
--
--   word_of_level1, word_of_level2, word_of_table_lem == the words of the tables, read back
--   walk_leads                                        == a walk leads to the page's leaf, and where it has none, to nothing
--   walk_listed, walk_unlisted                        == a walk finds exactly the listed mappings
--   walk_only                                         == an entry that a walk finds is one of the list
--   bytes_equal                                       == the bytes in the used frames
--   tables_inside, frames_are_tables                  == the bytes of the tables are those of the used frames
--   directory_word                                    == the word of level 1 that names table number j
--   list_opens, opened_list                           == what is open to users is what the list opens
use Rattle.std.specs.Prelude.{ℕ, zero, suc, ◌+◌, ◌-◌, ◌*◌, ◌/◌, ◌%◌, ◌^◌, ◌<◌, ◌≡◌, refl, List, [], ◌∷◌, eqb, Some, Ok, Err}
use Rattle.std.proofs.Math.Path.{sym, ap}
use Rattle.std.proofs.Common.{◌∙◌, get_or-append-add, arith}
use Rattle.std.proofs.Math.Bool.{true, false}
use Rattle.std.proofs.Math.ListN.{length, get_or, get_or-append}
use Rattle.common.specs.Bits.{bit_set}
use Rattle.common.specs.Cases.{absurd_eq, cond_holds, and_left, and_right}
use Rattle.common.specs.Lists.{Each}
use Rattle.memory.specs.Memory.{byte_at, read_at, word_spots}
use Rattle.mmu.specs.declared.walk.WalkFault.TheVariants.{Missing}
use Rattle.mmu.specs.Walk.{table_ok, word_of_table, walk_leaf, walk_of}
use Rattle.mmu.specs.declared.tlb.TlbEntry.{TlbEntry}
use Rattle.mmu.specs.declared.walk.WalkAnswer.{WalkAnswer}
use Rattle.mmu.specs.Check.{page_addr}
use Rattle.mmu.specs.Exception.{access_bit}
use Rattle.mmu.specs.Opened.{TableByte, level1, level2, resident, leaf, entry_frame, Opened, opened}
use Rattle.mmu.specs.declared.exception.Access.{Access}
use Rattle.mmu.specs.declared.vm.Vm.{Vm}
use Rattle.mmu.specs.Walk.Laws.{table_followed, none_followed, walk_two, walk_one, no_leaf}
use Rattle.mmu.specs.Check.Laws.{permits_bits}
use Rattle.tables.specs.declared.mapping.Mapping.{Mapping}
use Rattle.tables.specs.Mapping.{leaf_at}
use Rattle.tables.specs.Mapping.Laws.{pages_of, page_low, frame_low}
use Rattle.tables.specs.Words.Laws.{words_fit, word_back, words_same}
use Rattle.tables.specs.Tables as t
use Rattle.tables.specs.Tables.{directories, table_for, tables_after, image, frames_for, answer_for, by_answer, memory_after, Call, list_of, answer_to, after}
use Rattle.tables.specs.Tables.Laws.{Accepted, run_aligned, some_frame, frames_low, level1_size, level1_at, Placed, nowhere, in_table}
use Rattle.tables.specs.Found.{made, Listed, entry_of, InFrames, NoEntry, Opens, opens}
use Rattle.tables.specs.Found.Laws.{each_append, tables_fit, image_size, in_map, ByPage, absent, present, by_page, listed_good, listed_once, FromList, from_list, ascends, entry_listed, pages_ascend, directory_low}
use Rattle.tables.proofs.Frames.{placed, table_of, table_range}

-- ---- every word fits

table_fits : (a i : ℕ) (ds : List ℕ) → a + 4096 * length ds + 1 < 2 ^ 32 → table_for a i ds < 2 ^ 32
unfolding table_for
table_fits a i [] h = omega arith
table_fits a i (d ∷ ds) h = cond_holds (λ (w : ℕ). w < 2 ^ 32) (eqb d i) (omega arith) (table_fits (a + 4096) i ds (omega arith))

-- ---- the words of an accepted call, read back

module _ (c : Call) (acc : Accepted c) where
  image_fits : Each (λ w. w < 2 ^ 32) (image c.first c.vpns (list_of c))
  unfolding image t.level1 frames_for
  image_fits =
      each_append (λ w. w < 2 ^ 32) (t.level1 c.first (directories c.vpns)) (tables_after 1024 (list_of c))
      (words_fit (λ i. table_for c.first i (directories c.vpns)) (λ i. table_fits c.first i (directories c.vpns) (omega (arith, frames_low c acc))) 0 1024)
      (tables_fit 1024 (list_of c) acc.leaves)

  -- word i of level 1
  pub word_of_level1 : (i : ℕ) → i < 1024 → read_at (made c) (word_spots (word_of_table c.first i)) ≡ Some (table_for c.first i (directories c.vpns))
  unfolding image frames_for
  word_of_level1 i h =
      let at : word_of_table c.first i ≡ c.first + 4 * i = omega (arith, run_aligned c acc) in
      let size = level1_size c.first (directories c.vpns) in
      rw at (word_back (image c.first c.vpns (list_of c)) c.memory c.first (in_map c acc) image_fits i (omega (arith, image_size c acc))
      ∙ ap Some (get_or-append (t.level1 c.first (directories c.vpns)) (tables_after 1024 (list_of c)) 0 i (omega arith) ∙ level1_at c.first (directories c.vpns) i h))

  -- word i of the level-2 table number j, which the word w names
  pub word_of_level2 : (j i w : ℕ) → j < length (directories c.vpns) → i < 1024 → w ≡ c.first + 4096 * (j + 1) + 1
      → read_at (made c) (word_spots (word_of_table w i)) ≡ Some (get_or (tables_after 1024 (list_of c)) (j * 1024 + i) 0)
  unfolding image frames_for
  word_of_level2 j i w g h e =
      let ws = t.level1 c.first (directories c.vpns) in
      let size = level1_size c.first (directories c.vpns) in
      let at : word_of_table w i ≡ c.first + 4 * (length ws + (j * 1024 + i)) = omega (arith, run_aligned c acc) in
      rw at (word_back (image c.first c.vpns (list_of c)) c.memory c.first (in_map c acc) image_fits (length ws + (j * 1024 + i)) (omega (arith, image_size c acc))
      ∙ ap Some (get_or-append-add ws (tables_after 1024 (list_of c)) (j * 1024 + i) 0))

  -- a walk leads to the page's leaf, and where there is none, to nothing
  pub walk_leads : (va : ℕ) → va < 2 ^ 32 → (walk_of (made c) c.first va).walked ≡ (walk_leaf va (Some (leaf_at (va / 4096) (list_of c)))).walked
  walk_leads va h = by_place (placed c.first 1024 (va / 4096) (list_of c) (λ e. omega arith))
    where
      directory : va / 4096 / 1024 ≡ va / 4194304
      directory = omega arith

      by_place : Placed c.first 1024 (va / 4096) (list_of c) → (walk_of (made c) c.first va).walked ≡ (walk_leaf va (Some (leaf_at (va / 4096) (list_of c)))).walked
      by_place (nowhere p q) =
          let word = word_of_level1 (va / 4194304) (omega arith) ∙ ap Some (rw (pages_of c.vpns c.ppns c.bits acc.list, directory) at p) in
          walk_one (made c) c.first va 0 word none_followed ∙ sym (rw q (no_leaf va))
      by_place (in_table j g p q) =
          let w = c.first + 4096 * (j + 1) + 1 in
          let word = word_of_level1 (va / 4194304) (omega arith) ∙ ap Some (rw (pages_of c.vpns c.ppns c.bits acc.list, directory) at p) in
          let some = rw (pages_of c.vpns c.ppns c.bits acc.list) at g in
          ap (λ (x : WalkAnswer). x.walked) (walk_two (made c) c.first va w word (Some (leaf_at (va / 4096) (list_of c)))
          (table_followed (c.first + 4096 * (j + 1)) (omega (arith, run_aligned c acc)))
          (word_of_level2 j (va / 4096 % 1024) w some (omega arith) refl ∙ ap Some q))

-- ---- what is found, and where, after an accepted call

module _ (c : Call) (acc : Accepted c) where
  pub walk_listed : (va : ℕ) → va < 2 ^ 32 → (x : Mapping) → Listed x (list_of c) → x.vpn ≡ va / 4096
      → (walk_of (made c) c.first va).walked ≡ Ok (entry_of x)
  walk_listed va h x l e = walk_leads c acc va h ∙ by_leaf (by_page (va / 4096) (list_of c))
    where
      by_leaf : ByPage (va / 4096) (list_of c) → (walk_leaf va (Some (leaf_at (va / 4096) (list_of c)))).walked ≡ Ok (entry_of x)
      by_leaf (absent f q) = absurd (f x l e)
      by_leaf (present y k g q) =
          let same : y ≡ x = listed_once 0 y x (list_of c) (ascends c acc) k l (g ∙ sym e) in
          rw (q, same) (entry_listed c acc va x l e)

  pub walk_unlisted : (va : ℕ) → va < 2 ^ 32 → ((x : Mapping) → Listed x (list_of c) → x.vpn ≡ va / 4096 → ⊥)
      → (walk_of (made c) c.first va).walked ≡ Err Missing
  walk_unlisted va h f = walk_leads c acc va h ∙ by_leaf (by_page (va / 4096) (list_of c))
    where
      by_leaf : ByPage (va / 4096) (list_of c) → (walk_leaf va (Some (leaf_at (va / 4096) (list_of c)))).walked ≡ Err Missing
      by_leaf (absent g q) = rw q (no_leaf va)
      by_leaf (present y k g q) = absurd (f y k g)

  pub walk_only : (va : ℕ) → va < 2 ^ 32 → (e : TlbEntry) → (walk_of (made c) c.first va).walked ≡ Ok e
      → FromList (list_of c) e
  walk_only va h e p = by_leaf (by_page (va / 4096) (list_of c))
    where
      by_leaf : ByPage (va / 4096) (list_of c) → FromList (list_of c) e
      by_leaf (absent g q) = let z : Ok e ≡ (Err Missing) = sym p ∙ walk_unlisted va h g in absurd_eq (cc)
      by_leaf (present y k g q) = let z : Ok e ≡ Ok (entry_of y) = sym p ∙ walk_listed va h y k g in from_list y k (cc)

  -- ---- the bytes

  pub bytes_equal : (d : Call) → Accepted d → c.vpns ≡ d.vpns → c.ppns ≡ d.ppns → c.bits ≡ d.bits → c.first ≡ d.first
      → (a : ℕ) → InFrames c.first (frames_for c.vpns) a → byte_at (made c) a ≡ byte_at (made d) a
  bytes_equal d acc' p q r s a h =
      let same : image d.first d.vpns (list_of d) ≡ image c.first c.vpns (list_of c) = rw (p, q, r, s) refl in
      let in-d = rw (same, ← s) at (in_map d acc') in
      rw (same, ← s)
      (words_same (image c.first c.vpns (list_of c)) c.memory d.memory c.first (in_map c acc) in-d
      (image_fits c acc) a h.0 (omega (arith, image_size c acc)))

  -- ---- the bytes of the tables are those of the used frames

  -- a word that the walk follows names a frame after the first
  named : (a w : ℕ) → a / 4096 ≡ w / 4096 → table_ok w ≡ true → (i : ℕ) → table_for c.first i (directories c.vpns) ≡ w → InFrames c.first (frames_for c.vpns) a
  unfolding frames_for
  named a w e t i p =
      table_range (λ (y : ℕ). y ≡ w → InFrames c.first (frames_for c.vpns) a) c.first i (directories c.vpns)
      (λ z. let f : true ≡ false = sym t ∙ rw (← z) none_followed in absurd_eq (cc))
      (λ j h q. (omega (arith, run_aligned c acc), omega (arith, run_aligned c acc)))
      p

  pub tables_inside : (a : ℕ) → TableByte (made c) c.first a → InFrames c.first (frames_for c.vpns) a
  tables_inside a (level1 e) = (omega (arith, run_aligned c acc), omega (arith, run_aligned c acc, some_frame c acc))
  tables_inside a (level2 i w h p t e) =
      let q : Some (table_for c.first i (directories c.vpns)) ≡ Some w = sym (word_of_level1 c acc i h) ∙ p in
      named a w e t i (cc)

  pub directory_word : (j : ℕ) → j < length (directories c.vpns) → table_for c.first (get_or (directories c.vpns) j 0) (directories c.vpns) ≡ c.first + 4096 * (j + 1) + 1
  directory_word j h = table_of c.first 0 (directories c.vpns) (pages_ascend c acc) j h

  -- the frame of table number j
  table_frame : (j a : ℕ) → j + 1 < frames_for c.vpns → a / 4096 ≡ c.first / 4096 + (j + 1) → TableByte (made c) c.first a
  unfolding frames_for
  table_frame j a h e =
      let d = get_or (directories c.vpns) j 0 in
      let some : j < length (directories c.vpns) = omega arith in
      let low = directory_low c acc j some in
      let word = directory_word j some in
      level2 d (c.first + 4096 * (j + 1) + 1) low (word_of_level1 c acc d low ∙ ap Some word)
      (table_followed (c.first + 4096 * (j + 1)) (omega (arith, run_aligned c acc))) (omega (arith, run_aligned c acc))

  pub frames_are_tables : (a : ℕ) → InFrames c.first (frames_for c.vpns) a → TableByte (made c) c.first a
  frames_are_tables a h = by_frame (a / 4096 - c.first / 4096) (omega (arith, run_aligned c acc)) (omega (arith, run_aligned c acc))
    where
      by_frame : (k : ℕ) → a / 4096 ≡ c.first / 4096 + k → k < frames_for c.vpns → TableByte (made c) c.first a
      by_frame zero e g = level1 (omega arith)
      by_frame (suc j) e g = table_frame j a (omega arith) (omega arith)

  -- word i of the table number j
  pub word_of_table_lem : (j i : ℕ) → j < length (directories c.vpns) → i < 1024
      → read_at (made c) (word_spots (c.first + 4096 * (j + 1) + 4 * i)) ≡ Some (leaf_at (get_or (directories c.vpns) j 0 * 1024 + i) (list_of c))
  word_of_table_lem j i h g = by_place (placed c.first 1024 v (list_of c) (λ e. omega (arith, directory_low c acc j h)))
    where
      v : ℕ
      v = get_or (directories c.vpns) j 0 * 1024 + i

      own_directory : (get_or (directories c.vpns) j 0 * 1024 + i) / 1024 ≡ get_or (directories c.vpns) j 0
      own_directory = omega arith

      low : (get_or (directories c.vpns) j 0 * 1024 + i) % 1024 ≡ i
      low = omega arith

      at : word_of_table (c.first + 4096 * (j + 1) + 1) i ≡ c.first + 4096 * (j + 1) + 4 * i
      at = omega (arith, run_aligned c acc)

      by_place : Placed c.first 1024 v (list_of c) → read_at (made c) (word_spots (c.first + 4096 * (j + 1) + 4 * i)) ≡ Some (leaf_at v (list_of c))
      by_place (nowhere p q) =
          let own = directory_word j h in
          let none = rw (pages_of c.vpns c.ppns c.bits acc.list, own_directory) at p in
          absurd (omega arith)
      by_place (in_table k l p q) =
          let own = directory_word j h in
          let named = rw (pages_of c.vpns c.ppns c.bits acc.list, own_directory) at p in
          let same : k ≡ j = omega arith in
          rw (← at) (word_of_level2 c acc j i (c.first + 4096 * (j + 1) + 1) h g refl ∙ ap Some (rw (same, low) at q))

  -- ---- what is open to users: exactly what the list opens

  -- no entry of the TLB is valid
  pub list_opens : (vm : Vm) → vm.ptbr ≡ c.first → NoEntry vm → (k : Access) (a : ℕ) → Opened (made c) vm k a → Opens (list_of c) k a
  list_opens vm e none k a (opened x (resident i h p v) low t f) = let z : true ≡ false = sym v ∙ ap (λ (y : TlbEntry). y.valid) (sym p) ∙ none i in absurd_eq (cc)
  list_opens vm e none k a (opened x (leaf va h w) low t f) = by_entry (walk_only va h x (rw e at w))
    where
      by_entry : FromList (list_of c) x → Opens (list_of c) k a
      by_entry (from_list y l q) =
          let g = frame_low y (listed_good y (list_of c) acc.leaves l) in
          let bits = sym (permits_bits (entry_of y) k g) ∙ (rw q at t) in
          let frame : page_addr y.ppn / 4096 ≡ y.ppn = omega arith in
          opens y l (and_left (bit_set y.bits 4) (bit_set y.bits (access_bit k)) bits) (and_right (bit_set y.bits 4) (bit_set y.bits (access_bit k)) bits)
          (f ∙ ap entry_frame q ∙ frame)

  pub opened_list : (vm : Vm) → vm.ptbr ≡ c.first → (k : Access) (a : ℕ) → Opens (list_of c) k a → Opened (made c) vm k a
  opened_list vm e k a (opens x l u b f) =
      let g = listed_good x (list_of c) acc.leaves l in
      let low = page_low x g in
      let here : x.vpn ≡ x.vpn * 4096 / 4096 = omega arith in
      let frame : x.ppn ≡ page_addr x.ppn / 4096 = let p = frame_low x g in omega arith in
      opened (entry_of x) (leaf (x.vpn * 4096) (omega arith) (rw e (walk_listed (x.vpn * 4096) (omega arith) x l here))) low
      (permits_bits (entry_of x) k (frame_low x g) ∙ rw (u, b)) (f ∙ frame)
