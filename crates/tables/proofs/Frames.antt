-- Where the tables stand: the frame that a word of level 1 names. These laws rest on `table_for`. Assumes nothing.
--
--   placed                  == where a page's leaf stands
--   table_of, table_range   == each table has its own frame, and a word of level 1 is 0 or names one
use Rattle.std.specs.Prelude.{ℕ, zero, suc, ◌+◌, ◌*◌, ◌/◌, ◌%◌, ◌<◌, ◌≡◌, refl, true, List, [], ◌∷◌, leb, eqb, get_or}
use Rattle.std.proofs.Common.{sym, ◌∙◌, get_or-append-add, arith, eq-eqb, ne_eqb}
use Rattle.std.proofs.Math.Path.{ap}
use Rattle.std.proofs.Math.Decide.{ℕ_discrete}
use Rattle.std.proofs.Math.ListN.{length, get_or-append}
use Rattle.common.specs.Cases.{cond_holds, and_right}
use Rattle.tables.specs.declared.mapping.Mapping.{Mapping}
use Rattle.tables.specs.Mapping.{leaf_at, ascending_from}
use Rattle.tables.specs.Mapping.Laws.{ascending_at}
use Rattle.tables.specs.Tables.{directories_after, table_for, level2, tables_after}
use Rattle.tables.specs.Tables.Laws.{level2_size, level2_at, Placed, nowhere, in_table, same_table}

-- one mapping more in front of the list
module _ (a last v : ℕ) (x : Mapping) (l : List Mapping) where
  module _ (new : x.vpn / 1024 ≡ last → ⊥) where
    -- the first of the page's directory
    own_table : x.vpn / 1024 ≡ v / 1024 → Placed a last v (x ∷ l)
    unfolding tables_after directories_after table_for
    own_table e =
        let t = level2 (x.vpn / 1024) (x ∷ l) in
        let size = level2_size (x.vpn / 1024) (x ∷ l) in
        let at : 0 * 1024 + v % 1024 ≡ v % 1024 = omega arith in
        let page : x.vpn / 1024 * 1024 + v % 1024 ≡ v = omega arith in
        let frame : a + 4096 + 1 ≡ a + 4096 * (0 + 1) + 1 = omega arith in
        in_table 0 (rw (ne_eqb (x.vpn / 1024) last new) (omega arith))
        (rw (ne_eqb (x.vpn / 1024) last new, eq-eqb (x.vpn / 1024) (v / 1024) e) frame)
        (rw (ne_eqb (x.vpn / 1024) last new, at)
        (get_or-append t (tables_after (x.vpn / 1024) l) 0 (v % 1024) (omega arith) ∙ level2_at (x.vpn / 1024) (x ∷ l) (v % 1024) (omega arith) ∙ ap (λ (y : ℕ). leaf_at y (x ∷ l)) page))

    -- of a directory before the page's
    later_table : (x.vpn / 1024 ≡ v / 1024 → ⊥) → Placed (a + 4096) (x.vpn / 1024) v l → Placed a last v (x ∷ l)
    unfolding tables_after directories_after table_for leaf_at
    later_table n (nowhere p q) =
        nowhere (rw (ne_eqb (x.vpn / 1024) last new, ne_eqb (x.vpn / 1024) (v / 1024) n) p)
        (rw (ne_eqb x.vpn v (λ s. n (ap (λ (y : ℕ). y / 1024) s))) q)
    later_table n (in_table j h p q) =
        let t = level2 (x.vpn / 1024) (x ∷ l) in
        let size = level2_size (x.vpn / 1024) (x ∷ l) in
        let at : (j + 1) * 1024 + v % 1024 ≡ length t + (j * 1024 + v % 1024) = omega arith in
        let frame : a + 4096 + 4096 * (j + 1) + 1 ≡ a + 4096 * (j + 1 + 1) + 1 = omega arith in
        in_table (j + 1) (rw (ne_eqb (x.vpn / 1024) last new) (omega arith))
        (rw (ne_eqb (x.vpn / 1024) last new, ne_eqb (x.vpn / 1024) (v / 1024) n) (p ∙ frame))
        (rw (ne_eqb (x.vpn / 1024) last new, ne_eqb x.vpn v (λ s. n (ap (λ (y : ℕ). y / 1024) s)), at)
        (get_or-append-add t (tables_after (x.vpn / 1024) l) (j * 1024 + v % 1024) 0 ∙ q))

pub placed : (a last v : ℕ) (l : List Mapping) → (v / 1024 ≡ last → ⊥) → Placed a last v l
unfolding tables_after directories_after table_for leaf_at
placed a last v [] n = nowhere refl refl
placed a last v (x ∷ l) n =
    by_directory (ℕ_discrete (x.vpn / 1024) last) (ℕ_discrete (x.vpn / 1024) (v / 1024)) (placed a last v l n) (λ k. placed (a + 4096) (x.vpn / 1024) v l k)
  where
    by_directory : Dec (x.vpn / 1024 ≡ last) → Dec (x.vpn / 1024 ≡ v / 1024) → Placed a last v l → ((v / 1024 ≡ x.vpn / 1024 → ⊥) → Placed (a + 4096) (x.vpn / 1024) v l) → Placed a last v (x ∷ l)
    by_directory (yes e) o p q = same_table a last v x l e n p
    by_directory (no k) (yes e) p q = own_table a last v x l k e
    by_directory (no k) (no o) p q = later_table a last v x l k o (q (λ e. o (sym e)))

-- the table of each directory stands in its own frame
pub table_of : (a n : ℕ) (ds : List ℕ) → ascending_from n ds ≡ true → (j : ℕ) → j < length ds → table_for a (get_or ds j 0) ds ≡ a + 4096 * (j + 1) + 1
unfolding ascending_from table_for
table_of a n [] p j h = absurd (omega arith)
table_of a n (d ∷ ds) p zero h = let e : a + 4096 + 1 ≡ a + 4096 * (0 + 1) + 1 = omega arith in rw (eq-eqb d d refl) e
table_of a n (d ∷ ds) p (suc j) h =
    let rest = and_right (leb n d) (ascending_from (d + 1) ds) p in
    let more = ascending_at (d + 1) ds rest j (omega arith) in
    let e : a + 4096 + 4096 * (j + 1) + 1 ≡ a + 4096 * (suc j + 1) + 1 = omega arith in
    rw (ne_eqb d (get_or ds j 0) (λ s. omega arith)) (table_of (a + 4096) (d + 1) ds rest j (omega arith) ∙ e)

-- a word of level 1 is 0 or names the frame of a table
pub table_range : (P : ℕ → Type 0) (a i : ℕ) (ds : List ℕ) → P 0 → ((j : ℕ) → j < length ds → P (a + 4096 * (j + 1) + 1)) → P (table_for a i ds)
unfolding table_for
table_range P a i [] z f = z
table_range P a i (d ∷ ds) z f =
    let e : a + 4096 * (0 + 1) + 1 ≡ a + 4096 + 1 = omega arith in
    cond_holds P (eqb d i) (rw e at (f 0 (omega arith)))
    (table_range P (a + 4096) i ds z
    (λ j h. let g : a + 4096 * (j + 1 + 1) + 1 ≡ a + 4096 + 4096 * (j + 1) + 1 = omega arith in rw g at (f (j + 1) (omega arith))))
