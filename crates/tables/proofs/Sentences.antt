-- W-201's sentences, proved of the definitions. Assumes nothing.
use Rattle.std.proofs.Common.{ℕ, ◌+◌, ◌-◌, ◌*◌, ◌/◌, ◌%◌, ◌≤◌, ◌<◌, ◌≡◌, refl, sym, ◌∙◌, Bool, true, false, cond, ◌&&◌, ◌||◌, not, List, [], ◌∷◌, inl, inr, ⊎_elim, arith, leb, ltb, eqb, length, get_or, ltb-true, eqb-true, lt-ltb, le-ltb, le-leb, eq-eqb, ne_eqb}
use Rattle.std.specs.Prelude.{Some, Result, Ok, Err}
use mathlib.Core.Bool.{and-false}
use native.Mathlib.Decide.{ℕ_discrete}
use Rattle.common.specs.Bits.{bit_set}
use Rattle.common.specs.Cases.{bool_is, absurd_eq, and_left, and_right, lt_or_ge}
use Rattle.memory.specs.Memory.{Memory, good_map, inside, byte_at, read_at, word_spots}
use Rattle.memory.specs.Memory.Laws.{SameMap, inside_map, inside_bounds}
use Rattle.mmu.specs.declared.walk.WalkFault.TheVariants.{Missing}
use Rattle.mmu.specs.Opened.{TableByte, Opened}
use Rattle.mmu.specs.Walk.{word_of_table, walk_of}
use Rattle.mmu.specs.Check.{page_addr}
use Rattle.mmu.specs.declared.exception.Access.{Access}
use Rattle.mmu.specs.declared.exception.Access.TheVariants.{Write}
use Rattle.mmu.specs.declared.vm.Vm.{Vm}
use Rattle.mmu.specs.Walk.Laws.{leaf_by_bits}
use Rattle.mmu.specs.Vm.Laws.{no_entries_lem}
use Rattle.tables.specs.declared.mapping.Mapping.{Mapping}
use Rattle.tables.specs.declared.refusal.Refusal.{Refusal}
use Rattle.tables.specs.declared.refusal.Refusal.TheVariants as refusal
use Rattle.tables.specs.declared.write.Tables.{Tables}
use Rattle.tables.specs.Mapping.{mapping, mappings, leaf_at, only_listed, good_page, good_mapping, all_good, ascending_from, good_list}
use Rattle.tables.specs.Mapping.Laws.{good_short, good_ppns, good_bits_lem, good_ascending, pages_of, ascending_pairs, pairs_ascending}
use Rattle.tables.specs.Words.Laws.{put_words_map}
use Rattle.tables.specs.Tables.{directories_after, directories, table_for, frames_for, good_run, image, written, answer_for, by_answer, memory_after, Call, list_of, answer_to, after}
use Rattle.tables.specs.Tables.Laws.{Accepted, accepted, run_aligned, run_covered}
use Rattle.tables.specs.Found.{made, Listed, entry_of, InFrames, NoEntry, Opens}
use Rattle.tables.specs.Found.Laws.{answer_ptbr, answer_used, written_memory, listed_good, pages_ascend, bytes_outside}
use Rattle.tables.proofs.Found.{walk_listed, walk_unlisted, word_of_level1, word_of_table_lem, directory_word, bytes_equal, tables_inside, frames_are_tables, list_opens, opened_list}
use Rattle.tables.specs.Meaning.{InOrder, Wrote, First, Applies, indexes, distinct, Meaning}
use Rattle.tables.proofs.Counted.{frames_counted}

-- ---- of a call that wrote

module _ (c : Call) (ptbr used : ℕ) (w : Wrote c ptbr used) where
  good : Accepted c
  good = accepted c ptbr used w

  memory_is : after c ≡ made c
  memory_is = written_memory c ptbr used w

  ptbr_is : ptbr ≡ c.first
  ptbr_is = answer_ptbr c ptbr used w

  used_is : used ≡ frames_for c.vpns
  used_is = answer_used c ptbr used w

  -- what the laws say with the run's start and the frames that the list needs, said with the answer
  said : (P : Memory → ℕ → ℕ → Type 0) → P (made c) c.first (frames_for c.vpns) → P (after c) ptbr used
  said P p = rw (memory_is, ptbr_is, used_is) p

  level1_words : (i : ℕ) → i < 1024 → read_at (after c) (word_spots (ptbr + 4 * i)) ≡ Some (table_for ptbr i (directories c.vpns))
  level1_words i h =
      let at : word_of_table c.first i ≡ c.first + 4 * i = omega (arith, run_aligned c good) in
      said (λ m p u. read_at m (word_spots (p + 4 * i)) ≡ Some (table_for p i (directories c.vpns)))
      (rw at at (word_of_level1 c good i h))

  table_byte : (a : ℕ) → TableByte (after c) ptbr a → InFrames ptbr used a
  table_byte a = said (λ m q n. TableByte m q a → InFrames q n a) (tables_inside c good a)

  opened_by : (vm : Vm) → vm.ptbr ≡ ptbr → NoEntry vm → (k : Access) (a : ℕ) → Opened (after c) vm k a → Opens (list_of c) k a
  opened_by vm e none k a = said (λ m q n. vm.ptbr ≡ q → Opened m vm k a → Opens (list_of c) k a) (λ e'. list_opens c good vm e' none k a) e

-- a later frame holds a table
later : (vs : List ℕ) (j used : ℕ) → used ≡ frames_for vs → j + 1 < used → j < length (directories vs)
unfolding frames_for
later vs j used e h = omega arith

-- ---- of what is refused

first_refused : (c : Call) (r : Refusal) → Applies c r → answer_to c ≡ Err r
unfolding answer_for
first_refused c refusal.Map h = rw h
first_refused c refusal.Order h = rw (h.0, h.1)
first_refused c refusal.Leaf h = rw (h.0, h.1, h.2)
first_refused c refusal.Run h = rw (h.0, h.1, h.2, h.3)
first_refused c refusal.Frames h = rw (h.0, h.1, h.2, h.3, h.4)

-- by what the five questions are answered
which : (m l v n f : Bool) (first used : ℕ) (r : Refusal)
    → cond m (cond l (cond v (cond n (cond f (Ok (written first used)) (Err refusal.Frames)) (Err refusal.Run)) (Err refusal.Leaf)) (Err refusal.Order)) (Err refusal.Map) ≡ Err r
    → First r m l v n f
which false l v n f first used r e = let z : refusal.Map ≡ r = cc in rw (← z) refl
which true false v n f first used r e = let z : refusal.Order ≡ r = cc in rw (← z) (refl, refl)
which true true false n f first used r e = let z : refusal.Leaf ≡ r = cc in rw (← z) (refl, refl, refl)
which true true true false f first used r e = let z : refusal.Run ≡ r = cc in rw (← z) (refl, refl, refl, refl)
which true true true true false first used r e = let z : refusal.Frames ≡ r = cc in rw (← z) (refl, refl, refl, refl, refl)
which true true true true true first used r e = absurd_eq (cc)

refused_first : (c : Call) (r : Refusal) → answer_to c ≡ Err r → Applies c r
unfolding answer_for
refused_first c r e =
    which (good_map c.memory.base (length c.memory.bytes)) (good_list c.vpns c.ppns c.bits) (all_good (list_of c))
    (good_run c.memory c.first c.frames) (leb (frames_for c.vpns) c.frames) c.first (frames_for c.vpns) r e

all_good_lem : (l : List Mapping) → ((x : Mapping) → Listed x l → good_mapping x ≡ true) → all_good l ≡ true
unfolding all_good
all_good_lem [] h = refl
all_good_lem (x ∷ l) h = rw (h x (inl refl), all_good_lem l (λ y p. h y (inr p)))

needed : (c : Call) → good_list c.vpns c.ppns c.bits ≡ true → all_good (list_of c) ≡ true → frames_for c.vpns ≡ 1 + distinct (indexes c.vpns)
needed c g v =
    let pages = pages_of c.vpns c.ppns c.bits g in
    rw pages at (frames_counted (list_of c) (rw pages (good_ascending c.vpns c.ppns c.bits g)) v)

refused_kept : (c : Call) (r : Refusal) → answer_to c ≡ Err r → after c ≡ c.memory
unfolding memory_after by_answer
refused_kept c r e = rw e

same_map : (m : Memory) (first : ℕ) (vs : List ℕ) (l : List Mapping) (r : Result Tables Refusal) → SameMap (by_answer m first vs l r) m
unfolding by_answer
same_map m first vs l (Ok t) = put_words_map (image first vs l) m first
same_map m first vs l (Err r) = record { base = refl; size = refl }

list_parts : (vs ps bs : List ℕ) → good_list vs ps bs ≡ true → (length vs ≤ 512) × (length ps ≡ length vs) × (length bs ≡ length vs) × InOrder vs
list_parts vs ps bs g = (good_short vs ps bs g, good_ppns vs ps bs g, good_bits_lem vs ps bs g, ascending_pairs 0 vs (good_ascending vs ps bs g))

list_whole : (vs ps bs : List ℕ) → length vs ≤ 512 → length ps ≡ length vs → length bs ≡ length vs → InOrder vs → good_list vs ps bs ≡ true
unfolding good_list
list_whole vs ps bs n p b o =
    rw (le-leb (length vs) 512 n, eq-eqb (length ps) (length vs) p, eq-eqb (length bs) (length vs) b, pairs_ascending 0 vs (λ h. omega arith) o)

-- a leaf by its bits, where they are but R, W, X and U
leaf_by : (v p b : ℕ) (t : Bool) → only_listed b ≡ t
    → good_mapping (mapping v p b) ≡ (good_page v && good_page p && t && (not (eqb (b / 2 % 8) 0) && (not (bit_set b 2) || bit_set b 1)))
unfolding good_mapping
leaf_by v p b false e = rw (e, and-false)
leaf_by v p b true e =
    let even = eqb-true (b % 2) 0 (and_left (eqb (b % 2) 0) (ltb b 32) e) in
    let small = ltb-true b 32 (and_right (eqb (b % 2) 0) (ltb b 32) e) in
    rw (e, leaf_by_bits (page_addr p) b (omega arith) even small)

leaf_good : (v p b : ℕ) → v * 4096 < 0xFFFF_0000 → p * 4096 < 0xFFFF_0000 → only_listed b ≡ true → (b / 2 % 8 ≡ 0 → ⊥) → (bit_set b 2 ≡ true → bit_set b 1 ≡ true)
    → good_mapping (mapping v p b) ≡ true
leaf_good v p b h g o n r =
    rw (leaf_by v p b true o, lt-ltb (v * 4096) 0xFFFF_0000 h, lt-ltb (p * 4096) 0xFFFF_0000 g, ne_eqb (b / 2 % 8) 0 n) (by_w (bit_set b 2) r)
  where
    by_w : (w : Bool) → (w ≡ true → bit_set b 1 ≡ true) → (not w || bit_set b 1) ≡ true
    by_w false f = refl
    by_w true f = f refl

unlisted_bits : (v p b : ℕ) → only_listed b ≡ false → good_mapping (mapping v p b) ≡ false
unlisted_bits v p b o = rw (leaf_by v p b false o, and-false)

no_bits : (v p b : ℕ) → b / 2 % 8 ≡ 0 → good_mapping (mapping v p b) ≡ false
no_bits v p b n = rw (leaf_by v p b (only_listed b) refl, eq-eqb (b / 2 % 8) 0 n) (and-false (good_page v && good_page p && only_listed b))

only_w : (v p b : ℕ) → bit_set b 2 ≡ true → bit_set b 1 ≡ false → good_mapping (mapping v p b) ≡ false
only_w v p b w r = rw (leaf_by v p b (only_listed b) refl, w, r, and-false) (and-false (good_page v && good_page p && only_listed b))

page_above : (v p b : ℕ) → 0xFFFF_0000 ≤ v * 4096 → good_mapping (mapping v p b) ≡ false
unfolding good_mapping
page_above v p b h = rw (le-ltb (v * 4096) 0xFFFF_0000 h)

frame_above : (v p b : ℕ) → 0xFFFF_0000 ≤ p * 4096 → good_mapping (mapping v p b) ≡ false
unfolding good_mapping
frame_above v p b h = rw (le-ltb (p * 4096) 0xFFFF_0000 h, and-false)

byte_outside : (m : Memory) (first n a : ℕ) → InFrames first n a → inside m a ≡ false → good_run m first n ≡ false
byte_outside m first n a h o =
    ⊎_elim
    (λ (t : good_run m first n ≡ true).
    let in_map = run_covered m first n t (omega arith) in
    let z : true ≡ false = sym (inside_map m a (omega arith) (omega arith)) ∙ o in absurd_eq (cc))
    (λ f. f)
    (bool_is (good_run m first n))

unaligned : (m : Memory) (first n : ℕ) → (first % 4096 ≡ 0 → ⊥) → good_run m first n ≡ false
unfolding good_run
unaligned m first n h = rw (ne_eqb (first % 4096) 0 h)

run_good : (m : Memory) (first n : ℕ) → first % 4096 ≡ 0 → ((a : ℕ) → InFrames first n a → inside m a ≡ true) → good_run m first n ≡ true
unfolding good_run
run_good m first n h f = by_count (ℕ_discrete n 0)
  where
    by_count : Dec (n ≡ 0) → (eqb (first % 4096) 0 && (eqb n 0 || (leb m.base first && leb (first + 4096 * n) (m.base + length m.bytes)))) ≡ true
    by_count (yes e) = rw (eq-eqb (first % 4096) 0 h, eq-eqb n 0 e)
    by_count (no k) =
        let some : 0 < n = ⊎_elim (λ (l : 0 < n). l) (λ l. absurd (k (omega arith))) (lt_or_ge 0 n) in
        let low = inside_bounds m first (f first (omega arith, omega arith)) in
        let high = inside_bounds m (first + 4096 * n - 1) (f (first + 4096 * n - 1) (omega arith, omega arith)) in
        rw (eq-eqb (first % 4096) 0 h, ne_eqb n 0 k, le-leb m.base first low.0, le-leb (first + 4096 * n) (m.base + length m.bytes) (omega arith))

empty_written : (m : Memory) (first n : ℕ) → good_map m.base (length m.bytes) ≡ true → good_run m first n ≡ true → 1 ≤ n → answer_for m [] [] [] first n ≡ Ok (written first 1)
unfolding answer_for good_list ascending_from mappings all_good frames_for directories_after
empty_written m first n g r h = rw (g, r, le-leb 1 n h)

-- ---- all together

pub meaning_holds : Meaning
unfolding memory_after
meaning_holds =
    record {
      listed = λ c p u w va h x l e.
          said c p u w (λ m q n. (walk_of m q va).walked ≡ Ok (entry_of x)) (walk_listed c (good c p u w) va h x l e);
      unlisted = λ c p u w va h f.
          said c p u w (λ m q n. (walk_of m q va).walked ≡ Err Missing) (walk_unlisted c (good c p u w) va h f);
      first_frame = λ c p u w. (ptbr_is c p u w, used_is c p u w, level1_words c p u w);
      further_frames = λ c p u w j i h g.
          said c p u w (λ m q n. read_at m (word_spots (q + 4096 * (j + 1) + 4 * i)) ≡ Some (leaf_at (get_or (directories c.vpns) j 0 * 1024 + i) (list_of c)))
          (word_of_table_lem c (good c p u w) j i (later c.vpns j u (used_is c p u w) h) g);
      ascending = λ c p u w. (
        pages_ascend c (good c p u w),
        λ j h.
            said c p u w (λ m q n. table_for q (get_or (directories c.vpns) j 0) (directories c.vpns) ≡ q + 4096 * (j + 1) + 1)
            (directory_word c (good c p u w) j (later c.vpns j u (used_is c p u w) h)),
      );
      equal_bytes = λ c d p u q n w v e₁ e₂ e₃ e₄ a.
          rw (memory_is d q n v)
          (said c p u w (λ m r l. InFrames r l a → byte_at m a ≡ byte_at (made d) a) (bytes_equal c (good c p u w) d (good d q n v) e₁ e₂ e₃ e₄ a));
      outside_stays = λ c p u w a.
          said c p u w (λ m q n. (InFrames q n a → ⊥) → byte_at m a ≡ byte_at c.memory a) (bytes_outside c (good c p u w) a);
      map_stays = λ c. same_map c.memory c.first c.vpns (list_of c) (answer_to c);
      refused_stays = refused_kept;
      refused = first_refused;
      refused_only = refused_first;
      list_accepted = list_whole;
      list_is = list_parts;
      leaf_accepted = leaf_good;
      other_bits = unlisted_bits;
      no_access = no_bits;
      write_only = only_w;
      high_page = page_above;
      high_frame = frame_above;
      leaves_accepted = all_good_lem;
      leaves_are = λ l g x p. listed_good x l g p;
      run_accepted = run_good;
      run_unaligned = unaligned;
      run_outside = byte_outside;
      frames_needed = needed;
      none_needless = λ c p u w. used_is c p u w ∙ needed c (good c p u w).list (good c p u w).leaves;
      empty_list = empty_written;
      table_bytes = table_byte;
      all_table_bytes = λ c p u w a.
          said c p u w (λ m q n. InFrames q n a → TableByte m q a) (frames_are_tables c (good c p u w) a);
      flush_empties = no_entries_lem;
      opened_listed = opened_by;
      listed_opened = λ c p u w vm e k a.
          said c p u w (λ m q n. vm.ptbr ≡ q → Opens (list_of c) k a → Opened m vm k a) (λ e'. opened_list c (good c p u w) vm e' k a) e;
      shut = λ c p u w vm e none hidden tables pages a h. (
        λ t. tables a h (table_byte c p u w a t),
        λ k o. pages a h k (opened_by c p u w vm e none k a o),
      );
      unwritable = λ c p u w vm e none unopened a t o. unopened a (table_byte c p u w a t) (opened_by c p u w vm e none Write a o);
    }
