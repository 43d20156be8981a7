-- The frames that a list needs: one for level 1 and one for each level-1 word that its pages use. Pages ascend, so a word's pages stand
-- together, and a page that starts a table is the first of its word's. Assumes nothing.
use Rattle.std.proofs.Common.{ℕ, suc, ◌+◌, ◌/◌, ◌<◌, ◌≡◌, refl, sym, ap, ◌∙◌, true, false, List, [], ◌∷◌, ⊎_elim, arith, leb, eqb, length, leb-true, eqb-true, eq-eqb, ne_eqb}
use borrow.Author.Tests.{eqb-false}
use Rattle.common.specs.Cases.{bool_is, and_left, and_right}
use Rattle.tables.specs.declared.mapping.Mapping.{Mapping}
use Rattle.tables.specs.Mapping.{all_good, ascending_from}
use Rattle.tables.specs.Mapping.Laws.{pages_in, first_good, page_low}
use Rattle.tables.specs.Tables.{directories_after, frames_for}
use Rattle.tables.specs.Meaning.{indexes, occurs, distinct}

-- pages from n on do not use a word below n's
absent : (i n : ℕ) (vs : List ℕ) → ascending_from n vs ≡ true → i < n / 1024 → occurs i (indexes vs) ≡ false
unfolding occurs ascending_from
absent i n [] a h = refl
absent i n (v ∷ vs) a h =
    let low = leb-true n v (and_left (leb n v) (ascending_from (v + 1) vs) a) in
    let rest = and_right (leb n v) (ascending_from (v + 1) vs) a in
    rw (ne_eqb i (v / 1024) (λ e. omega arith)) (absent i (v + 1) vs rest (omega arith))

-- the words of a page and of those after it
counted : (v : ℕ) (vs : List ℕ) → ascending_from (v + 1) vs ≡ true → distinct (v / 1024 ∷ indexes vs) ≡ suc (length (directories_after (v / 1024) vs))
unfolding distinct occurs directories_after ascending_from
counted v [] a = refl
counted v (w ∷ vs) a =
    let low = leb-true (v + 1) w (and_left (leb (v + 1) w) (ascending_from (w + 1) vs) a) in
    let rest = and_right (leb (v + 1) w) (ascending_from (w + 1) vs) a in
    let next = counted w vs rest in
    ⊎_elim
    (λ (t : eqb (w / 1024) (v / 1024) ≡ true).
    let e = eqb-true (w / 1024) (v / 1024) t in
    rw (t, eq-eqb (v / 1024) (w / 1024) (sym e)) (next ∙ ap (λ (i : ℕ). suc (length (directories_after i vs))) e))
    (λ (t : eqb (w / 1024) (v / 1024) ≡ false).
    let other = eqb-false (w / 1024) (v / 1024) t in
    let none = absent (v / 1024) (w + 1) vs rest (omega (arith, other)) in
    rw (t, ne_eqb (v / 1024) (w / 1024) (λ e. other (sym e)), none) (ap suc next))
    (bool_is (eqb (w / 1024) (v / 1024)))

pub frames_counted : (l : List Mapping) → ascending_from 0 (pages_in l) ≡ true → all_good l ≡ true → frames_for (pages_in l) ≡ 1 + distinct (indexes (pages_in l))
unfolding frames_for directories_after distinct ascending_from
frames_counted [] a g = refl
frames_counted (x ∷ l) a g =
    let low = page_low x (first_good x l g) in
    let rest = and_right (leb 0 x.vpn) (ascending_from (x.vpn + 1) (pages_in l)) a in
    rw (ne_eqb (x.vpn / 1024) 1024 (λ e. omega arith)) (ap (λ (n : ℕ). 1 + n) (sym (counted x.vpn (pages_in l) rest)))
