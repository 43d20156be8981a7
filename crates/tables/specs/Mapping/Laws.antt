-- The laws of mappings and of their list. Assumes nothing.
--
--   good_short, good_ppns, good_bits_lem, good_ascending      == what a good list is
--   mapping_next                                              == the list from place k on starts with the mapping at k
--   pages_of                                                  == the pages of the mappings are the list of pages
--   page_low, frame_low, bits_even, bits_small, leaf_accepted == what a good mapping is
--   ascending_at, ascending_pairs, pairs_ascending            == ascending, by the places in the list
--   leaf_above                                                == a list of higher pages has no leaf for a page
use Rattle.std.specs.Prelude.{ℕ, zero, suc, ◌+◌, ◌*◌, ◌%◌, ◌≤◌, ◌<◌, ◌≡◌, refl, Bool, true, false, ◌&&◌, List, [], ◌∷◌, map, leb, ltb, eqb, length, get_or, drop}
use Rattle.std.proofs.Common.{sym, ap, ◌∙◌, add-one, arith, drop_of_length-le, leb-true, ltb-true, eqb-true, le-leb, ne_eqb}
use Rattle.std.proofs.lemmas.List.{length-map}
use Rattle.common.specs.Cases.{absurd_eq, and_left, and_right}
use Rattle.mmu.specs.Walk.{leaf_ok}
use Rattle.tables.specs.declared.mapping.Mapping.{Mapping}
use Rattle.tables.specs.Mapping.{mapping, mappings, leaf_of, only_listed, good_page, good_mapping, all_good, ascending_from, good_list, leaf_at}

all_four : (a b c d : Bool) → (a && b && c && d) ≡ true → (a ≡ true) × (b ≡ true) × (c ≡ true) × (d ≡ true)
all_four false b c d p = absurd_eq (cc)
all_four true false c d p = absurd_eq (cc)
all_four true true false d p = absurd_eq (cc)
all_four true true true d p = (refl, refl, refl, p)

-- ---- a good list

module _ (vs ps bs : List ℕ) (g : good_list vs ps bs ≡ true) where
  parts : (leb (length vs) 512 ≡ true) × (eqb (length ps) (length vs) ≡ true) × (eqb (length bs) (length vs) ≡ true) × (ascending_from 0 vs ≡ true)
  unfolding good_list
  parts = all_four (leb (length vs) 512) (eqb (length ps) (length vs)) (eqb (length bs) (length vs)) (ascending_from 0 vs) g

  pub good_short : length vs ≤ 512
  good_short = leb-true _ _ parts.0

  pub good_ppns : length ps ≡ length vs
  good_ppns = eqb-true _ _ parts.1

  pub good_bits_lem : length bs ≡ length vs
  good_bits_lem = eqb-true _ _ parts.2

  pub good_ascending : ascending_from 0 vs ≡ true
  good_ascending = parts.3

-- ---- the mappings of three lists of one length

next : (vs ps bs : List ℕ) → length ps ≡ length vs → length bs ≡ length vs → (k : ℕ) → k < length vs
    → drop k (mappings vs ps bs) ≡ mapping (get_or vs k 0) (get_or ps k 0) (get_or bs k 0) ∷ drop (suc k) (mappings vs ps bs)
unfolding mappings
next [] ps bs p q k h = absurd (omega arith)
next (v ∷ vs) [] bs p q k h = absurd (omega arith)
next (v ∷ vs) (x ∷ ps) [] p q k h = absurd (omega arith)
next (v ∷ vs) (x ∷ ps) (b ∷ bs) p q zero h = refl
next (v ∷ vs) (x ∷ ps) (b ∷ bs) p q (suc k) h = next vs ps bs (omega arith) (omega arith) k (omega arith)

pages : (vs ps bs : List ℕ) → length ps ≡ length vs → length bs ≡ length vs → map (λ (x : Mapping). x.vpn) (mappings vs ps bs) ≡ vs
unfolding mappings
pages [] ps bs p q = refl
pages (v ∷ vs) [] bs p q = absurd (omega arith)
pages (v ∷ vs) (x ∷ ps) [] p q = absurd (omega arith)
pages (v ∷ vs) (x ∷ ps) (b ∷ bs) p q = ap (λ (t : List ℕ). v ∷ t) (pages vs ps bs (omega arith) (omega arith))

-- the pages of a list of mappings
abbrev pub pages_in : List Mapping → List ℕ
pages_in l = map (λ (x : Mapping). x.vpn) l

map_drop : (k : ℕ) (l : List Mapping) → pages_in (drop k l) ≡ drop k (pages_in l)
map_drop zero l = refl
map_drop (suc k) [] = refl
map_drop (suc k) (x ∷ l) = map_drop k l

module _ (vs ps bs : List ℕ) (g : good_list vs ps bs ≡ true) where
  pub mapping_next : (k : ℕ) → k < length vs
      → drop k (mappings vs ps bs) ≡ mapping (get_or vs k 0) (get_or ps k 0) (get_or bs k 0) ∷ drop (k + 1) (mappings vs ps bs)
  mapping_next k h = rw add-one (next vs ps bs (good_ppns vs ps bs g) (good_bits_lem vs ps bs g) k h)

  pub pages_of : pages_in (mappings vs ps bs) ≡ vs
  pages_of = pages vs ps bs (good_ppns vs ps bs g) (good_bits_lem vs ps bs g)

  pub pages_from : (k : ℕ) → pages_in (drop k (mappings vs ps bs)) ≡ drop k vs
  pages_from k = map_drop k (mappings vs ps bs) ∙ ap (drop k) pages_of

  pub mappings_length : length (mappings vs ps bs) ≡ length vs
  mappings_length = sym (length-map (mappings vs ps bs) (λ (x : Mapping). x.vpn)) ∙ ap length pages_of

  pub none_left : (k : ℕ) → length vs ≤ k → drop k (mappings vs ps bs) ≡ []
  none_left k h = drop_of_length-le (mappings vs ps bs) {i = k} (rw mappings_length h)

-- ---- ascending pages

-- from place k on
pub ascending_drop : (n : ℕ) (l : List ℕ) → ascending_from n l ≡ true → (k : ℕ) → k < length l → ascending_from (get_or l k 0) (drop k l) ≡ true
unfolding ascending_from
ascending_drop n [] p k h = absurd (omega arith)
ascending_drop n (v ∷ l) p zero h = rw (le-leb v v (omega arith), and_right (leb n v) _ p)
ascending_drop n (v ∷ l) p (suc k) h = ascending_drop (v + 1) l (and_right (leb n v) _ p) k (omega arith)

pub ascending_at : (n : ℕ) (l : List ℕ) → ascending_from n l ≡ true → (j : ℕ) → j < length l → n ≤ get_or l j 0
unfolding ascending_from
ascending_at n [] p j h = absurd (omega arith)
ascending_at n (v ∷ l) p zero h = leb-true n v (and_left (leb n v) (ascending_from (v + 1) l) p)
ascending_at n (v ∷ l) p (suc j) h =
    let low = leb-true n v (and_left (leb n v) (ascending_from (v + 1) l) p) in
    let more = ascending_at (v + 1) l (and_right (leb n v) (ascending_from (v + 1) l) p) j (omega arith) in
    omega arith

-- ascending is that each is above those before it
pub ascending_pairs : (n : ℕ) (l : List ℕ) → ascending_from n l ≡ true → (j k : ℕ) → j < k → k < length l → get_or l j 0 < get_or l k 0
unfolding ascending_from
ascending_pairs n [] p j k h g = absurd (omega arith)
ascending_pairs n (v ∷ l) p j zero h g = absurd (omega arith)
ascending_pairs n (v ∷ l) p zero (suc k) h g =
    let more = ascending_at (v + 1) l (and_right (leb n v) (ascending_from (v + 1) l) p) k (omega arith) in omega arith
ascending_pairs n (v ∷ l) p (suc j) (suc k) h g =
    ascending_pairs (v + 1) l (and_right (leb n v) (ascending_from (v + 1) l) p) j k (omega arith) (omega arith)

pub pairs_ascending : (n : ℕ) (l : List ℕ) → (0 < length l → n ≤ get_or l 0 0) → ((j k : ℕ) → j < k → k < length l → get_or l j 0 < get_or l k 0) → ascending_from n l ≡ true
unfolding ascending_from
pairs_ascending n [] h f = refl
pairs_ascending n (v ∷ l) h f =
    rw (le-leb n v (h (omega arith)))
    (pairs_ascending (v + 1) l (λ g. let a = f 0 1 (omega arith) (omega arith) in omega arith) (λ j k a b. f (suc j) (suc k) (omega arith) (omega arith)))

pub leaf_above : (n page : ℕ) (l : List Mapping) → ascending_from n (pages_in l) ≡ true → page < n → leaf_at page l ≡ 0
unfolding ascending_from leaf_at
leaf_above n page [] p h = refl
leaf_above n page (x ∷ l) p h =
    let a = leb-true n x.vpn (and_left _ _ p) in
    rw (ne_eqb x.vpn page (λ e. omega arith)) (leaf_above (x.vpn + 1) page l (and_right (leb n x.vpn) _ p) (omega arith))

-- ---- a good mapping

module _ (x : Mapping) (g : good_mapping x ≡ true) where
  tests : (good_page x.vpn ≡ true) × (good_page x.ppn ≡ true) × (only_listed x.bits ≡ true) × (leaf_ok (leaf_of x) ≡ true)
  unfolding good_mapping
  tests = all_four (good_page x.vpn) (good_page x.ppn) (only_listed x.bits) (leaf_ok (leaf_of x)) g

  pub page_low : x.vpn < 0xFFFF0
  page_low = let a = ltb-true (x.vpn * 4096) 0xFFFF_0000 tests.0 in omega arith

  pub frame_low : x.ppn < 0xFFFF0
  frame_low = let a = ltb-true (x.ppn * 4096) 0xFFFF_0000 tests.1 in omega arith

  pub bits_even : x.bits % 2 ≡ 0
  bits_even = eqb-true _ _ (and_left (eqb (x.bits % 2) 0) (ltb x.bits 32) tests.2)

  pub bits_small : x.bits < 32
  bits_small = ltb-true _ _ (and_right (eqb (x.bits % 2) 0) (ltb x.bits 32) tests.2)

  pub leaf_accepted : leaf_ok (leaf_of x) ≡ true
  leaf_accepted = tests.3

pub first_good : (x : Mapping) (l : List Mapping) → all_good (x ∷ l) ≡ true → good_mapping x ≡ true
unfolding all_good
first_good x l g = and_left (good_mapping x) (all_good l) g

pub rest_good : (x : Mapping) (l : List Mapping) → all_good (x ∷ l) ≡ true → all_good l ≡ true
unfolding all_good
rest_good x l g = and_right (good_mapping x) (all_good l) g
