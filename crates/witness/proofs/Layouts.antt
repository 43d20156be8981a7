-- Where the tables of a laid memory lie and which page is open, by a test of its words. Assumes nothing.
--
--   fits q t f l                                             == of the words l, those of page q that the walk follows name page t, and the good leaves of page t frame f
--   Layout m vm q t f                                        == the tables lie in pages q and t, and page f alone is open to users
--   layout                                                   == a memory whose words fit, under a TLB with no other valid entry than such of frame f, has that layout
--   unhidden_tables_lem, unhidden_pages_lem, shut_tables_lem == what a layout says of the three parts of Sealed, where page h is hidden
--   alike                                                    == two memories that differ in a word of page h
use Rattle.std.proofs.Common.{◌≡◌, ℕ, zero, suc, ◌+◌, ◌*◌, ◌/◌, ◌%◌, ◌^◌, ◌<◌, Bool, true, false, not, ◌&&◌, ◌||◌, eqb, ◌⊎◌, List, [], ◌∷◌, get_or, replicate, Some, Ok, sym, refl, ◌∙◌, inl, inr, ⊎_elim, arith, eq-eqb, eqb-true}
use borrow.Author.Tests.{eqb-false}
use Rattle.common.specs.Cases.{absurd_eq, and_left, and_right}
use Rattle.memory.specs.Memory.{Memory, read_at, word_spots}
use Rattle.mmu.specs.Check.{page_addr}
use Rattle.mmu.specs.Opened.{TableByte, level1, level2, Usable, resident, leaf, entry_frame, Opened, opened}
use Rattle.mmu.specs.Tlb.{no_entry}
use Rattle.mmu.specs.Walk.{table_ok, leaf_ok, word_of_table, walk_of}
use Rattle.mmu.specs.declared.exception.Access.{Access}
use Rattle.mmu.specs.declared.exception.Access.TheVariants.{Write}
use Rattle.mmu.specs.declared.tlb.TlbEntry.{TlbEntry}
use Rattle.mmu.specs.declared.vm.Vm.{Vm}
use Rattle.isolation.specs.Premises.{Alike}
use Rattle.isolation.specs.Demand3.{TablesShut}
use Rattle.witness.specs.Laid.{Word, laid}
use Rattle.witness.specs.Laid.Laws.{as_read, word_in, EachWord, each_word, laid_map, laid_other, laid_word}
use Rattle.witness.specs.Found.{walk_found, zero_table, zero_leaf, leaf_frame}
use Rattle.witness.specs.Scene.{on_page, tlb_of}

-- ---- the test

abbrev implies : Bool → Bool → Bool
implies a b = not a || b

-- word i, if it stands in page q and names a table, names page t
abbrev names_table : ℕ → ℕ → ℕ → ℕ → Bool
names_table q t i w = implies (eqb (i / 1024) q && table_ok w) (eqb (w / 4096) t)

-- word i, if it stands in page t and is a good leaf, has frame f
abbrev names_frame : ℕ → ℕ → ℕ → ℕ → Bool
names_frame t f i w = implies (eqb (i / 1024) t && leaf_ok w) (eqb (page_addr (w / 4096) / 4096) f)

unfoldable pub fits : ℕ → ℕ → ℕ → List Word → Bool
fits q t f [] = true
fits q t f (w ∷ l) = names_table q t w.0 (as_read w.1) && (names_frame t f w.0 (as_read w.1) && fits q t f l)

implied : (a b c : Bool) → implies (a && b) c ≡ true → a ≡ true → b ≡ true → c ≡ true
implied true true c h p r = h
implied true false c h p r = absurd_eq (cc)
implied false b c h p r = absurd_eq (cc)

not_asked : (a b : Bool) → implies (a && false) b ≡ true
not_asked true b = refl
not_asked false b = refl

-- ---- what the walk reads

module _ (p q t f : ℕ) (l : List Word) (ok : fits q t f l ≡ true) where
  Fits : ℕ → ℕ → Type 0
  Fits i w = (names_table q t i w ≡ true) × (names_frame t f i w ≡ true)

  listed : (s : List Word) → fits q t f s ≡ true → EachWord Fits s
  unfolding fits Fits
  listed [] h = tt
  listed (w ∷ s) h =
      let table = names_table q t w.0 (as_read w.1) in
      let frame = names_frame t f w.0 (as_read w.1) in
      let rest = and_right table (frame && fits q t f s) h in
      ((and_left table (frame && fits q t f s) h, and_left frame (fits q t f s) rest), listed s (and_right frame (fits q t f s) rest))

  word_fits : (i : ℕ) → Fits i (word_in l i)
  unfolding Fits
  word_fits = each_word Fits (λ i. (rw zero_table (not_asked (eqb (i / 1024) q) (eqb 0 t)), rw zero_leaf (not_asked (eqb (i / 1024) t) (eqb 0 f)))) l (listed l ok)

  -- a word of level 1 that the walk follows
  first_word : (i w : ℕ) → i < 1024 → read_at (laid p l) (word_spots (word_of_table (q * 4096) i)) ≡ Some w → table_ok w ≡ true → w / 4096 ≡ t
  unfolding Fits
  first_word i w h r g =
      let n = q * 1024 + i in
      let place : q * 4096 / 4096 * 4096 + i * 4 ≡ n * 4 = omega arith in
      let names : names_table q t n w ≡ true = rw (laid_word p l n w (rw place at r)) (word_fits n).0 in
      eqb-true (w / 4096) t (implied (eqb (n / 1024) q) (table_ok w) (eqb (w / 4096) t) names (eq-eqb (n / 1024) q (omega arith)) g)

  -- a good leaf of the table that w names
  second_word : (w j u : ℕ) → w / 4096 ≡ t → j < 1024 → read_at (laid p l) (word_spots (word_of_table w j)) ≡ Some u → leaf_ok u ≡ true
      → page_addr (u / 4096) / 4096 ≡ f
  unfolding Fits
  second_word w j u e h r g =
      let n = t * 1024 + j in
      let place : w / 4096 * 4096 + j * 4 ≡ n * 4 = omega arith in
      let names : names_frame t f n u ≡ true = rw (laid_word p l n u (rw place at r)) (word_fits n).1 in
      let frame = page_addr (u / 4096) / 4096 in
      eqb-true frame f (implied (eqb (n / 1024) t) (leaf_ok u) (eqb frame f) names (eq-eqb (n / 1024) t (omega arith)) g)

  table_page : (a : ℕ) → TableByte (laid p l) (q * 4096) a → (a / 4096 ≡ q) ⊎ (a / 4096 ≡ t)
  table_page a (level1 e) = inl (omega arith)
  table_page a (level2 i w h r g e) = inr (e ∙ first_word i w h r g)

  walk_frame : (va : ℕ) → va < 2 ^ 32 → (e : TlbEntry) → (walk_of (laid p l) (q * 4096) va).walked ≡ Ok e → entry_frame e ≡ f
  walk_frame va small e h =
      let k = walk_found (laid p l) (q * 4096) va e h in
      let page = first_word (va / 4194304) k.table (omega arith) k.first k.follows in
      rw k.entry (leaf_frame va k.word ∙ second_word k.table (va / 4096 % 1024) k.word page (omega arith) k.second k.good)

-- ---- what is open

-- every valid entry of the TLB has frame f
abbrev pub Resident : ℕ → List TlbEntry → Type 0
Resident f s = (i : ℕ) → (get_or s i no_entry).valid ≡ true → entry_frame (get_or s i no_entry) ≡ f

empty_slot : (n i : ℕ) → get_or (replicate n no_entry) i no_entry ≡ no_entry
empty_slot zero i = refl
empty_slot (suc n) zero = refl
empty_slot (suc n) (suc i) = empty_slot n i

pub one_resident : (f : ℕ) (e : TlbEntry) → (e.valid ≡ true → entry_frame e ≡ f) → Resident f (tlb_of e)
one_resident f e h zero = h
one_resident f e h (suc i) = rw (empty_slot 15 i) (λ v. absurd_eq (cc))

pub none_resident : (f : ℕ) → Resident f (tlb_of no_entry)
none_resident f = one_resident f no_entry (λ v. absurd_eq (cc))

pub record Layout (m : Memory) (vm : Vm) (q t f : ℕ) : Type 0 where
  pub tables : (a : ℕ) → TableByte m vm.ptbr a → (a / 4096 ≡ q) ⊎ (a / 4096 ≡ t)
  pub opens : (k : Access) (a : ℕ) → Opened m vm k a → a / 4096 ≡ f

pub layout : (p q t f : ℕ) (l : List Word) (vm : Vm) → fits q t f l ≡ true → vm.ptbr ≡ q * 4096 → Resident f vm.tlb → Layout (laid p l) vm q t f
layout p q t f l vm ok root held = record { tables = λ a b. table_page p q t f l ok a (rw root at b); opens = open_page }
  where
    usable_frame : (e : TlbEntry) → Usable (laid p l) vm e → entry_frame e ≡ f
    usable_frame e (resident i h g v) = rw (← g) (held i (rw g v))
    usable_frame e (leaf va h w) = walk_frame p q t f l ok va h e (rw root at w)

    open_page : (k : Access) (a : ℕ) → Opened (laid p l) vm k a → a / 4096 ≡ f
    open_page k a (opened e u v g n) = n ∙ usable_frame e u

-- ---- the parts of Sealed, page h hidden

module _ {m : Memory} {vm : Vm} {q t f : ℕ} (here : Layout m vm q t f) where
  pub unhidden_tables_lem : (h : ℕ) → eqb h q ≡ false → eqb h t ≡ false → (a : ℕ) → on_page h a ≡ true → ¬ TableByte m vm.ptbr a
  unhidden_tables_lem h n₁ n₂ a p b =
      let on = eqb-true (a / 4096) h p in
      ⊎_elim (λ e. eqb-false h q n₁ (sym on ∙ e)) (λ e. eqb-false h t n₂ (sym on ∙ e)) (here.tables a b)

  pub unhidden_pages_lem : (h : ℕ) → eqb h f ≡ false → (a : ℕ) → on_page h a ≡ true → (k : Access) → ¬ Opened m vm k a
  unhidden_pages_lem h n a p k o = eqb-false h f n (sym (eqb-true (a / 4096) h p) ∙ here.opens k a o)

  pub shut_tables_lem : eqb f q ≡ false → eqb f t ≡ false → TablesShut m vm
  shut_tables_lem n₁ n₂ a i b o =
      let on = here.opens Write a o in
      ⊎_elim (λ e. eqb-false f q n₁ (sym on ∙ e)) (λ e. eqb-false f t n₂ (sym on ∙ e)) (here.tables a b)

pub alike : (p i x y h : ℕ) (l : List Word) → i / 1024 ≡ h → Alike (on_page h) (laid p ((i, x) ∷ l)) (laid p ((i, y) ∷ l))
alike p i x y h l e =
    record {
      map = laid_map p ((i, x) ∷ l) ((i, y) ∷ l);
      bytes = λ a g. laid_other p i x l a (off a g) ∙ sym (laid_other p i y l a (off a g));
    }
  where
    off : (a : ℕ) → on_page h a ≡ false → a / 4 ≡ i → ⊥
    off a g z = eqb-false (a / 4096) h g (omega arith)
