-- The laws of the tables. Assumes nothing.
--
--   Accepted, accepted                                          == what a call is that is not refused
--   run_covered                                                 == a good run of at least one frame lies in the map
--   run_aligned, run_starts, some_frame, frames_in, frames_low  == the run of an accepted call, and its needed frames
--   level1_size, level1_at, level2_size, level2_at, tables_size == the words of the tables
--   Placed                                                      == where a page's leaf stands; proofs/Frames.antt has placed, that it stands so
--   directories_ascend, directories_small                       == the directories of ascending pages
use Rattle.std.specs.Prelude.{ℕ, ◌+◌, ◌*◌, ◌/◌, ◌%◌, ◌^◌, ◌≤◌, ◌<◌, ◌≡◌, refl, Bool, true, false, cond, ◌&&◌, ◌||◌, List, [], ◌∷◌, ◌++◌, leb, eqb, get_or, Ok, Err}
use Rattle.std.proofs.Common.{sym, ◌∙◌, ⊎_elim, length-append, arith, leb-true, eqb-true, le-leb, eq-eqb, ne_eqb}
use Rattle.std.proofs.Math.Path.{ap}
use Rattle.std.proofs.Math.ListN.{length}
use borrow.Author.Tests.{eqb-false}
use Rattle.common.specs.Cases.{absurd_eq, cond_holds, cond_case, and_left, and_right, lt_or_ge}
use Rattle.common.specs.Lists.{Each}
use Rattle.memory.specs.Memory.{Memory, good_map}
use Rattle.memory.specs.Memory.Laws.{good_map_end}
use Rattle.tables.specs.declared.mapping.Mapping.{Mapping}
use Rattle.tables.specs.declared.refusal.Refusal.TheVariants.{Map, Order, Leaf, Run, Frames}
use Rattle.tables.specs.Mapping.{leaf_at, all_good, ascending_from, good_list}
use Rattle.tables.specs.Mapping.Laws.{pages_in}
use Rattle.tables.specs.Words.Laws.{words_length, words_at}
use Rattle.tables.specs.Tables.{directories_after, directories, table_for, level1, level2, tables_after, frames_for, good_run, written, answer_for, Call, list_of, answer_to}

-- ---- what is not refused

pub record Accepted (c : Call) : Type 0 where
  pub map : good_map c.memory.base (length c.memory.bytes) ≡ true
  pub list : good_list c.vpns c.ppns c.bits ≡ true
  pub leaves : all_good (list_of c) ≡ true
  pub run : good_run c.memory c.first c.frames ≡ true
  pub enough : frames_for c.vpns ≤ c.frames

all_five : (a b c d e : Bool) (first used p u : ℕ)
    → cond a (cond b (cond c (cond d (cond e (Ok (written first used)) (Err Frames)) (Err Run)) (Err Leaf)) (Err Order)) (Err Map) ≡ Ok (written p u)
    → (a ≡ true) × (b ≡ true) × (c ≡ true) × (d ≡ true) × (e ≡ true)
all_five false b c d e first used p u q = absurd_eq (cc)
all_five true false c d e first used p u q = absurd_eq (cc)
all_five true true false d e first used p u q = absurd_eq (cc)
all_five true true true false e first used p u q = absurd_eq (cc)
all_five true true true true false first used p u q = absurd_eq (cc)
all_five true true true true true first used p u q = (refl, refl, refl, refl, refl)

-- a good run of at least one frame lies in the map
pub run_covered : (m : Memory) (first n : ℕ) → good_run m first n ≡ true → 0 < n → (m.base ≤ first) × (first + 4096 * n ≤ m.base + length m.bytes)
unfolding good_run
run_covered m first n g h =
    let t = and_right (eqb (first % 4096) 0) (eqb n 0 || (leb m.base first && leb (first + 4096 * n) (m.base + length m.bytes))) g in
    let s : (leb m.base first && leb (first + 4096 * n) (m.base + length m.bytes)) ≡ true = rw (ne_eqb n 0 (λ e. omega arith)) at t in
    (leb-true _ _ (and_left (leb m.base first) _ s), leb-true _ _ (and_right (leb m.base first) _ s))

pub accepted : (c : Call) (p u : ℕ) → answer_to c ≡ Ok (written p u) → Accepted c
unfolding answer_for
accepted c p u q =
    let t = all_five (good_map c.memory.base (length c.memory.bytes)) (good_list c.vpns c.ppns c.bits) (all_good (list_of c)) (good_run c.memory c.first c.frames) (leb (frames_for c.vpns) c.frames)
    c.first (frames_for c.vpns) p u q in
    record { map = t.0; list = t.1; leaves = t.2; run = t.3; enough = leb-true _ _ t.4 }

-- the run of an accepted call is aligned, and its needed frames lie in the map
module _ (c : Call) (a : Accepted c) where
  pub run_aligned : c.first % 4096 ≡ 0
  unfolding good_run
  run_aligned = eqb-true _ _ (and_left (eqb (c.first % 4096) 0) _ a.run)

  pub some_frame : 1 ≤ frames_for c.vpns
  unfolding frames_for
  some_frame = omega arith

  run_in : (c.memory.base ≤ c.first) × (c.first + 4096 * c.frames ≤ c.memory.base + length c.memory.bytes)
  run_in = run_covered c.memory c.first c.frames a.run (omega (arith, some_frame, a.enough))

  pub run_starts : c.memory.base ≤ c.first
  run_starts = run_in.0

  pub frames_in : c.first + 4096 * frames_for c.vpns ≤ c.memory.base + length c.memory.bytes
  frames_in = omega (arith, run_in.1, a.enough)

  pub frames_low : c.first + 4096 * frames_for c.vpns ≤ 0xFFFF_0000
  frames_low = omega (arith, frames_in, good_map_end c.memory.base (length c.memory.bytes) a.map)

-- ---- the words of the image

module _ (first : ℕ) where
  pub level1_size : (ds : List ℕ) → length (level1 first ds) ≡ 1024
  unfolding level1
  level1_size ds = words_length (λ i. table_for first i ds) 0 1024

  pub level1_at : (ds : List ℕ) (i : ℕ) → i < 1024 → get_or (level1 first ds) i 0 ≡ table_for first i ds
  unfolding level1
  level1_at ds i h = let e : 0 + i ≡ i = omega arith in words_at (λ j. table_for first j ds) 0 1024 i h ∙ rw e

pub level2_size : (d : ℕ) (l : List Mapping) → length (level2 d l) ≡ 1024
unfolding level2
level2_size d l = words_length (λ v. leaf_at v l) (d * 1024) 1024

pub level2_at : (d : ℕ) (l : List Mapping) (i : ℕ) → i < 1024 → get_or (level2 d l) i 0 ≡ leaf_at (d * 1024 + i) l
unfolding level2
level2_at d l i h = words_at (λ v. leaf_at v l) (d * 1024) 1024 i h

-- a table a directory
pub tables_size : (last : ℕ) (l : List Mapping) → length (tables_after last l) ≡ 1024 * length (directories_after last (pages_in l))
unfolding tables_after directories_after
tables_size last [] = refl
tables_size last (x ∷ l) = by_directory (eqb (x.vpn / 1024) last) (tables_size last l) (tables_size (x.vpn / 1024) l)
  where
    by_directory : (t : Bool) → length (tables_after last l) ≡ 1024 * length (directories_after last (pages_in l)) → length (tables_after (x.vpn / 1024) l) ≡ 1024 * length (directories_after (x.vpn / 1024) (pages_in l))
        → length (cond t (tables_after last l) (level2 (x.vpn / 1024) (x ∷ l) ++ tables_after (x.vpn / 1024) l))
        ≡ 1024 * length (cond t (directories_after last (pages_in l)) (x.vpn / 1024 ∷ directories_after (x.vpn / 1024) (pages_in l)))
    by_directory true p q = p
    by_directory false p q =
        length-append (level2 (x.vpn / 1024) (x ∷ l)) (tables_after (x.vpn / 1024) l) ∙ omega (arith, level2_size (x.vpn / 1024) (x ∷ l))

-- where a page's leaf stands: nowhere, or in the table that its directory's word names
pub data Placed (a last v : ℕ) (l : List Mapping) : Type 0 where
  nowhere : table_for a (v / 1024) (directories_after last (pages_in l)) ≡ 0 → leaf_at v l ≡ 0 → Placed a last v l
  in_table : (j : ℕ) → j < length (directories_after last (pages_in l)) → table_for a (v / 1024) (directories_after last (pages_in l)) ≡ a + 4096 * (j + 1) + 1
      → get_or (tables_after last l) (j * 1024 + v % 1024) 0 ≡ leaf_at v l → Placed a last v l

-- one mapping more in front of the list
module _ (a last v : ℕ) (x : Mapping) (l : List Mapping) where
  -- of the directory that went before
  pub same_table : x.vpn / 1024 ≡ last → (v / 1024 ≡ last → ⊥) → Placed a last v l → Placed a last v (x ∷ l)
  unfolding tables_after directories_after leaf_at
  same_table e n (nowhere p q) =
      nowhere (rw (eq-eqb (x.vpn / 1024) last e) p) (rw (ne_eqb x.vpn v (λ s. n (sym (ap (λ (y : ℕ). y / 1024) s) ∙ e))) q)
  same_table e n (in_table j h p q) =
      in_table j (rw (eq-eqb (x.vpn / 1024) last e) h) (rw (eq-eqb (x.vpn / 1024) last e) p)
      (rw (eq-eqb (x.vpn / 1024) last e, ne_eqb x.vpn v (λ s. n (sym (ap (λ (y : ℕ). y / 1024) s) ∙ e))) q)

-- ---- the directories of ascending pages

higher : (v last : ℕ) → last * 1024 ≤ v → (v / 1024 ≡ last → ⊥) → last + 1 ≤ v / 1024
higher v last h new = ⊎_elim (λ (k : v / 1024 < last + 1). absurd (new (omega arith))) (λ k. k) (lt_or_ge (v / 1024) (last + 1))

directories_from : (n last : ℕ) (vs : List ℕ) → ascending_from n vs ≡ true → last * 1024 ≤ n → ascending_from (last + 1) (directories_after last vs) ≡ true
unfolding ascending_from directories_after
directories_from n last [] p h = refl
directories_from n last (v ∷ vs) p h =
    let low = leb-true n v (and_left (leb n v) (ascending_from (v + 1) vs) p) in
    let rest = and_right (leb n v) (ascending_from (v + 1) vs) p in
    cond_case (λ (ds : List ℕ). ascending_from (last + 1) ds ≡ true) (eqb (v / 1024) last)
    (λ t. directories_from (v + 1) last vs rest (omega arith))
    (λ t. let new = eqb-false (v / 1024) last t in rw (le-leb (last + 1) (v / 1024) (higher v last (omega arith) new)) (directories_from (v + 1) (v / 1024) vs rest (omega arith)))

pub directories_ascend : (n : ℕ) (vs : List ℕ) → ascending_from n vs ≡ true → Each (λ v. v < 2 ^ 20) vs → ascending_from 0 (directories vs) ≡ true
unfolding ascending_from directories_after
directories_ascend n [] p s = refl
directories_ascend n (v ∷ vs) p s =
    let low = s.0 in
    rw (ne_eqb (v / 1024) 1024 (λ e. omega arith), le-leb 0 (v / 1024) (omega arith))
    (directories_from (v + 1) (v / 1024) vs (and_right (leb n v) (ascending_from (v + 1) vs) p) (omega arith))

pub directories_small : (last : ℕ) (vs : List ℕ) → Each (λ v. v < 2 ^ 20) vs → Each (λ d. d < 1024) (directories_after last vs)
unfolding directories_after
directories_small last [] s = tt
directories_small last (v ∷ vs) s =
    cond_holds (Each (λ d. d < 1024)) (eqb (v / 1024) last) (directories_small last vs s.1)
    (let low = s.0 in omega arith, directories_small (v / 1024) vs s.1)
