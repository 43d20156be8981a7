-- A page looked for in the list from one place on. Assumes nothing.
use Rattle.std.proofs.Common.{◌≡◌, ℕ, suc, zero, ◌+◌, ◌-◌, ◌≤◌, ◌<◌, true, List, [], ◌∷◌, length, get_or, take, drop, inl, inr, ⊎_elim, ap, sym, ◌∙◌, arith, length-drop, get_or-drop, drop-drop, ◌⊎◌, Result, Ok, Err, nat_cmp}
use Rattle.std.specs.Result.{MatchResult}
use Rattle.std.specs.List.Sorted.{IsBinarySearchResult}
use Rattle.std.proofs.lemmas.List.Sorted.{searched}
use Rattle.std.proofs.lemmas.List.{length-map, length-take-le, get_or-take}
use Rattle.common.specs.Cases.{lt_or_ge}
use Rattle.tables.specs.declared.mapping.Mapping.{Mapping}
use Rattle.tables.specs.Mapping.{mapping, mappings, leaf_of, ascending_from, good_list, leaf_at}
use Rattle.tables.specs.Mapping.Laws.{good_ascending, pages_in, pages_from, mapping_next, ascending_pairs, ascending_drop}
use Rattle.tables.specs.Found.{Listed}
use Rattle.tables.specs.Found.Laws.{ByPage, absent, present, by_page, listed_once}

-- what stands at a place is listed, and what is listed stands at a place
listed_drop : (k : ℕ) (l t : List Mapping) (x : Mapping) → drop k l ≡ x ∷ t → Listed x l
listed_drop zero [] t x e = cc
listed_drop zero (y ∷ l) t x e = inl (cc)
listed_drop (suc k) [] t x e = cc
listed_drop (suc k) (y ∷ l) t x e = inr (listed_drop k l t x e)

listed_place : (l : List Mapping) (x : Mapping) → Listed x l → (k : ℕ) × (k < length l) × (get_or (pages_in l) k 0 ≡ x.vpn)
listed_place [] x h = absurd h
listed_place (y ∷ l) x h =
    ⊎_elim (λ e. (0, omega arith, sym (ap (λ (z : Mapping). z.vpn) e)))
    (λ t. let r = listed_place l x t in (suc r.0, omega (arith, r.1), r.2)) h

found_at : (l : List Mapping) (page n : ℕ) (x : Mapping) → ascending_from n (pages_in l) ≡ true → Listed x l → x.vpn ≡ page → leaf_of x ≡ leaf_at page l
found_at l page n x up h e = by (by_page page l)
  where
    by : ByPage page l → leaf_of x ≡ leaf_at page l
    by (absent f p) = absurd (f x h e)
    by (present y g q p) = ap leaf_of (listed_once n x y l up h g (e ∙ sym q)) ∙ sym p

none_at : (l : List Mapping) (page : ℕ) → ((k : ℕ) → k < length l → get_or (pages_in l) k 0 ≡ page → ⊥) → 0 ≡ leaf_at page l
none_at l page f = by (by_page page l)
  where
    by : ByPage page l → 0 ≡ leaf_at page l
    by (absent a p) = sym p
    by (present y g q p) = let r = listed_place l y g in absurd (f r.0 r.1 (r.2 ∙ q))

module _ (vs ps bs : List ℕ) (good : good_list vs ps bs ≡ true) (from end page : ℕ) (h : (from ≤ end) × (end ≤ length vs)) where
  pub leaf_place : (k w : ℕ) (x : Mapping) → from + k < length vs → get_or vs (from + k) 0 ≡ page → x ≡ mapping (get_or vs (from + k) 0) (get_or ps (from + k) 0) (get_or bs (from + k) 0)
      → w ≡ leaf_of x → w ≡ leaf_at page (drop from (mappings vs ps bs))
  leaf_place k w x g e q r =
      let l = drop from (mappings vs ps bs) in
      let up : ascending_from (get_or vs from 0) (pages_in l) ≡ true = rw (pages_from vs ps bs good from) (ascending_drop 0 vs (good_ascending vs ps bs good) from (omega (arith, h.0, h.1))) in
      let next = drop-drop k from (mappings vs ps bs) ∙ mapping_next vs ps bs good (from + k) g in
      let at = listed_drop k l _ _ next in
      r ∙ found_at l page (get_or vs from 0) x up (rw q at) (ap (λ (z : Mapping). z.vpn) q ∙ e)

  xs : List ℕ
  xs = take (end - from) (drop from vs)

  xs_size : length xs ≡ end - from
  unfolding xs
  xs_size = length-take-le (end - from) (drop from vs) (omega (arith, h.0, h.1, length-drop from vs))

  xs_at : (k : ℕ) → k < end - from → get_or xs k 0 ≡ get_or vs (from + k) 0
  unfolding xs
  xs_at k l = get_or-take (end - from) (drop from vs) k 0 l ∙ get_or-drop from vs k 0

  -- pages ascend
  above : (i j : ℕ) → i ≤ j → j < length vs → get_or vs i 0 ≤ get_or vs j 0
  above i j l u = by (lt_or_ge i j)
    where
      by : (i < j) ⊎ (j ≤ i) → get_or vs i 0 ≤ get_or vs j 0
      by (inr e) = let q : i ≡ j = omega arith in rw q (omega arith)
      by (inl m) = let b = ascending_pairs 0 vs (good_ascending vs ps bs good) i j m u in omega arith

  rises : (i j : ℕ) → i ≤ j → j < length xs → get_or xs i 0 ≤ get_or xs j 0
  rises i j l u = rw (xs_at i (omega (arith, xs_size)), xs_at j (omega (arith, xs_size))) (above (from + i) (from + j) (omega arith) (omega (arith, xs_size, h.0, h.1)))

  pub leaf_looked : (end < length vs → page < get_or vs end 0) → (r : Result ℕ ℕ) → IsBinarySearchResult (λ y. nat_cmp y page) (take (end - from) (drop from vs)) r
      → MatchResult r (λ k. (from + k < length vs) × (get_or vs (from + k) 0 ≡ page)) (λ _. 0 ≡ leaf_at page (drop from (mappings vs ps bs)))
  unfolding xs
  leaf_looked past r p = by r (searched xs page r p rises)
    where
      by : (r : Result ℕ ℕ)
          → MatchResult r (λ i. (i < length xs) × (get_or xs i 0 ≡ page)) (λ i. (i ≤ length xs) × ((k : ℕ) → k < i → get_or xs k 0 < page) × ((k : ℕ) → i ≤ k → k < length xs → page < get_or xs k 0))
          → MatchResult r (λ k. (from + k < length vs) × (get_or vs (from + k) 0 ≡ page)) (λ _. 0 ≡ leaf_at page (drop from (mappings vs ps bs)))
      by (Ok k) m = (omega (arith, m.0, xs_size, h.0, h.1), sym (xs_at k (omega (arith, m.0, xs_size))) ∙ m.1)
      by (Err i) m =
          none_at (drop from (mappings vs ps bs)) page
          (λ k b e.
          let size : length (drop from (mappings vs ps bs)) ≡ length (drop from vs) = sym (length-map (drop from (mappings vs ps bs)) (λ (x : Mapping). x.vpn)) ∙ ap length (pages_from vs ps bs good from) in
          let here : get_or vs (from + k) 0 ≡ page = sym (get_or-drop from vs k 0) ∙ (rw (pages_from vs ps bs good from) at e) in
          let inside : from + k < length vs = omega (arith, size, length-drop from vs, h.0, h.1) in
          ⊎_elim (λ low.
          let there : get_or xs k 0 ≡ page = xs_at k low ∙ here in
          ⊎_elim (λ before. let a = m.1 k before in omega arith) (λ behind. let a = m.2 k behind (omega (arith, xs_size)) in omega arith) (lt_or_ge k i))
          (λ high.
          let a = above end (from + k) (omega arith) inside in
          let b = past (omega arith) in
          omega arith)
          (lt_or_ge k (end - from)))
