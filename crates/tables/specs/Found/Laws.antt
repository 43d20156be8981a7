-- The laws of what is found in the written tables. Assumes nothing. Those that rest on the words of level 1 are in proofs/Found.antt.
--
--   image_size, in_map                       == the image of an accepted call has a word for each place of the needed frames, which lie in the map
--   ByPage, by_page                          == a page is absent from a list, or present
--   listed_good, listed_once                 == what is listed is good, and its page is listed once
--   FromList                                 == an entry comes from a list
--   entry_listed                             == a walk that meets a listed page's leaf finds its entry
--   bytes_outside                            == the bytes outside the used frames
--   pages_ascend, directory_low              == the directories of the list
--   answer_ptbr, answer_used, written_memory == what a call that was not refused answered and wrote
use Rattle.std.specs.Prelude.{ℕ, ◌+◌, ◌*◌, ◌/◌, ◌^◌, ◌≤◌, ◌<◌, ◌≡◌, refl, List, [], ◌∷◌, ◌++◌, leb, eqb, Some, Ok}
use Rattle.std.proofs.Math.Path.{sym, ap}
use Rattle.std.proofs.Common.{◌∙◌, inl, inr, ⊎_elim, leb-true, eq-eqb, ne_eqb, le-leb, arith}
use Rattle.std.proofs.Math.Bool.{true}
use Rattle.std.proofs.Math.Decide.{ℕ_discrete}
use Rattle.std.proofs.Math.ListN.{length, get_or, length-append}
use Rattle.common.specs.Cases.{cond_holds, and_left, and_right, lt_or_ge}
use Rattle.common.specs.Lists.{Each, each_get_d}
use Rattle.memory.specs.Memory.{byte_at}
use Rattle.mmu.specs.Walk.{walk_leaf}
use Rattle.mmu.specs.declared.tlb.TlbEntry.{TlbEntry}
use Rattle.mmu.specs.Walk.Laws.{leaf_found, entry_of_lem}
use Rattle.tables.specs.declared.mapping.Mapping.{Mapping}
use Rattle.tables.specs.declared.write.Tables.{Tables}
use Rattle.tables.specs.Mapping.{leaf_of, leaf_at, good_mapping, all_good, ascending_from}
use Rattle.tables.specs.Mapping.Laws.{pages_in, pages_of, good_ascending, first_good, rest_good, page_low, frame_low, bits_even, bits_small, leaf_accepted}
use Rattle.tables.specs.Words.Laws.{InMap, words_fit, words_other}
use Rattle.tables.specs.Tables as t
use Rattle.tables.specs.Tables.{directories, table_for, tables_after, image, frames_for, written, answer_for, by_answer, memory_after, Call, list_of, answer_to, after}
use Rattle.tables.specs.Tables.Laws.{Accepted, accepted, run_starts, frames_in, directories_ascend, directories_small, level1_size, tables_size}
use Rattle.tables.specs.Found.{made, Listed, entry_of, InFrames}

-- ---- every word fits

pub each_append : (P : ℕ → Type 0) (l t : List ℕ) → Each P l → Each P t → Each P (l ++ t)
each_append P [] t h g = g
each_append P (a ∷ l) t h g = (h.0, each_append P l t h.1 g)

leaf_fits : (v : ℕ) (l : List Mapping) → all_good l ≡ true → leaf_at v l < 2 ^ 32
unfolding leaf_at
leaf_fits v [] g = omega arith
leaf_fits v (x ∷ l) g =
    let small = bits_small x (first_good x l g) in
    cond_holds (λ (w : ℕ). w < 2 ^ 32) (eqb x.vpn v) (omega arith) (leaf_fits v l (rest_good x l g))

level2_fits : (d : ℕ) (l : List Mapping) → all_good l ≡ true → Each (λ w. w < 2 ^ 32) (t.level2 d l)
unfolding t.level2
level2_fits d l g = words_fit (λ v. leaf_at v l) (λ v. leaf_fits v l g) (d * 1024) 1024

pub tables_fit : (last : ℕ) (l : List Mapping) → all_good l ≡ true → Each (λ w. w < 2 ^ 32) (tables_after last l)
unfolding tables_after
tables_fit last [] g = tt
tables_fit last (x ∷ l) g =
    let rest = rest_good x l g in
    cond_holds (Each (λ w. w < 2 ^ 32)) (eqb (x.vpn / 1024) last) (tables_fit last l rest)
    (each_append (λ w. w < 2 ^ 32) (t.level2 (x.vpn / 1024) (x ∷ l)) (tables_after (x.vpn / 1024) l) (level2_fits (x.vpn / 1024) (x ∷ l) g) (tables_fit (x.vpn / 1024) l rest))

-- ---- the words of an accepted call, read back

module _ (c : Call) (acc : Accepted c) where
  pub image_size : length (image c.first c.vpns (list_of c)) ≡ 1024 * frames_for c.vpns
  unfolding image frames_for
  image_size =
      let a = length-append (t.level1 c.first (directories c.vpns)) (tables_after 1024 (list_of c)) in
      let b = level1_size c.first (directories c.vpns) in
      let e = rw (pages_of c.vpns c.ppns c.bits acc.list) at (tables_size 1024 (list_of c)) in
      omega arith

  pub in_map : InMap c.memory c.first (length (image c.first c.vpns (list_of c)))
  in_map = (run_starts c acc, omega (arith, frames_in c acc, image_size))

-- ---- a page in a list

-- a page is not in the list and has no leaf, or is in it and has its mapping's leaf
pub data ByPage (v : ℕ) (l : List Mapping) : Type 0 where
  absent : ((x : Mapping) → Listed x l → x.vpn ≡ v → ⊥) → leaf_at v l ≡ 0 → ByPage v l
  present : (x : Mapping) → Listed x l → x.vpn ≡ v → leaf_at v l ≡ leaf_of x → ByPage v l

pub by_page : (v : ℕ) (l : List Mapping) → ByPage v l
unfolding leaf_at
by_page v [] = absent (λ x h e. h) refl
by_page v (y ∷ l) = by_first (ℕ_discrete y.vpn v) (by_page v l)
  where
    by_first : Dec (y.vpn ≡ v) → ByPage v l → ByPage v (y ∷ l)
    by_first (yes e) r = present y (inl refl) e (rw (eq-eqb y.vpn v e))
    by_first (no n) (absent f p) = absent (λ x h e. ⊎_elim (λ s. n (sym (ap (λ (z : Mapping). z.vpn) s) ∙ e)) (λ t. f x t e) h) (rw (ne_eqb y.vpn v n) p)
    by_first (no n) (present x h e p) = present x (inr h) e (rw (ne_eqb y.vpn v n) p)

-- what is listed is good, and not below the list's first page
pub listed_good : (x : Mapping) (l : List Mapping) → all_good l ≡ true → Listed x l → good_mapping x ≡ true
listed_good x [] g h = absurd h
listed_good x (y ∷ l) g h = ⊎_elim (λ e. rw e (first_good y l g)) (λ t. listed_good x l (rest_good y l g) t) h

listed_from : (n : ℕ) (x : Mapping) (l : List Mapping) → ascending_from n (pages_in l) ≡ true → Listed x l → n ≤ x.vpn
unfolding ascending_from
listed_from n x [] p h = absurd h
listed_from n x (y ∷ l) p h =
    let low = leb-true n y.vpn (and_left (leb n y.vpn) _ p) in
    ⊎_elim (λ e. rw e low) (λ t. let more = listed_from (y.vpn + 1) x l (and_right (leb n y.vpn) _ p) t in omega arith) h

-- a page is listed once
pub listed_once : (n : ℕ) (x y : Mapping) (l : List Mapping) → ascending_from n (pages_in l) ≡ true → Listed x l → Listed y l → x.vpn ≡ y.vpn → x ≡ y
unfolding ascending_from
listed_once n x y [] p h g e = absurd h
listed_once n x y (z ∷ l) p h g e =
    let rest = and_right (leb n z.vpn) _ p in
    ⊎_elim
    (λ s. ⊎_elim (λ t. s ∙ sym t) (λ t. absurd (let more = listed_from (z.vpn + 1) y l rest t in let a = ap (λ (w : Mapping). w.vpn) s in omega arith)) g)
    (λ s. ⊎_elim (λ t. absurd (let more = listed_from (z.vpn + 1) x l rest s in let a = ap (λ (w : Mapping). w.vpn) t in omega arith)) (λ t. listed_once (z.vpn + 1) x y l rest s t e) g)
    h

-- the entry comes from a listed mapping
pub data FromList (l : List Mapping) (e : TlbEntry) : Type 0 where
  from_list : (x : Mapping) → Listed x l → e ≡ entry_of x → FromList l e

-- ---- what is found, and where, after an accepted call

module _ (c : Call) (acc : Accepted c) where
  pub ascends : ascending_from 0 (pages_in (list_of c)) ≡ true
  ascends = rw (pages_of c.vpns c.ppns c.bits acc.list) (good_ascending c.vpns c.ppns c.bits acc.list)

  pub entry_listed : (va : ℕ) (x : Mapping) → Listed x (list_of c) → x.vpn ≡ va / 4096 → (walk_leaf va (Some (leaf_of x))).walked ≡ Ok (entry_of x)
  entry_listed va x h e =
      let g = listed_good x (list_of c) acc.leaves h in
      leaf_found va (leaf_of x) (leaf_accepted x g)
      ∙ ap Ok (entry_of_lem va x.ppn x.bits (frame_low x g) (bits_even x g) (bits_small x g) ∙ rw (← e))

  -- ---- the bytes

  pub bytes_outside : (a : ℕ) → (InFrames c.first (frames_for c.vpns) a → ⊥) → byte_at (made c) a ≡ byte_at c.memory a
  bytes_outside a out =
      words_other (image c.first c.vpns (list_of c)) c.memory c.first a
      (⊎_elim (λ (h : a < c.first). inl h)
      (λ h. ⊎_elim (λ (k : a < c.first + 4096 * frames_for c.vpns). absurd (out (h, k))) (λ k. inr (omega (arith, image_size c acc))) (lt_or_ge a (c.first + 4096 * frames_for c.vpns)))
      (lt_or_ge a c.first))

  -- ---- the bytes of the tables are those of the used frames

  pages_small : (l : List Mapping) → all_good l ≡ true → Each (λ v. v < 2 ^ 20) (pages_in l)
  pages_small [] g = tt
  pages_small (x ∷ l) g = (let low = page_low x (first_good x l g) in omega arith, pages_small l (rest_good x l g))

  small_pages : Each (λ v. v < 2 ^ 20) c.vpns
  small_pages = rw (pages_of c.vpns c.ppns c.bits acc.list) at (pages_small (list_of c) acc.leaves)

  pub pages_ascend : ascending_from 0 (directories c.vpns) ≡ true
  pages_ascend = directories_ascend 0 c.vpns (good_ascending c.vpns c.ppns c.bits acc.list) small_pages

  -- the directory of table number j
  pub directory_low : (j : ℕ) → j < length (directories c.vpns) → get_or (directories c.vpns) j 0 < 1024
  directory_low j h = each_get_d (λ y. y < 1024) (directories c.vpns) (directories_small 1024 c.vpns small_pages) j h

-- ---- the same of a call that wrote

accepted_answer : (c : Call) → Accepted c → answer_to c ≡ Ok (written c.first (frames_for c.vpns))
unfolding answer_for
accepted_answer c a = rw (a.map, a.list, a.leaves, a.run, le-leb (frames_for c.vpns) c.frames a.enough)

module _ (c : Call) (ptbr used : ℕ) (w : answer_to c ≡ Ok (written ptbr used)) where
  answer_is : written ptbr used ≡ written c.first (frames_for c.vpns)
  answer_is = let z = accepted_answer c (accepted c ptbr used w) in cc

  pub answer_ptbr : ptbr ≡ c.first
  answer_ptbr = ap (λ (t : Tables). t.ptbr) answer_is

  pub answer_used : used ≡ frames_for c.vpns
  answer_used = ap (λ (t : Tables). t.used) answer_is

  pub written_memory : after c ≡ made c
  unfolding memory_after by_answer
  written_memory = rw w
