-- Demand 3 needs each of its premises. Assumes nothing.
--
-- In a counterexample the premises on hidden bytes and on tables follow from the memory's layout, the others compute, and so do the runs.
use Rattle.std.proofs.Common.{◌≡◌, ℕ, ◌/◌, Bool, true, false, eqb, ◌≢◌, List, [], ◌∷◌, map, length, Result, sym, refl, ap, ◌∙◌, lit<}
use Rattle.common.specs.Cases.{absurd_eq}
use Rattle.memory.specs.Memory.{Memory}
use Rattle.mmu.specs.Tlb.{no_entry}
use Rattle.machine.specs.declared.access.Fault.{Fault}
use Rattle.machine.specs.declared.state.Machine.{Machine}
use Rattle.privilege.specs.declared.state.SystemState.{SystemState}
use Rattle.isolation.specs.Premises.{Op, AllAligned}
use Rattle.isolation.specs.Demand3.{Answer, ran_ops, Isolated, Demand3}
use Rattle.isolation.proofs.Runs.{demand3}
use Rattle.witness.specs.Laid.{Word, laid}
use Rattle.witness.specs.Scene.{on_page, tlb_of, user_vm, user_state, machine_with, load}
use Rattle.witness.proofs.Layouts.{fits, one_resident, none_resident, Layout, layout, unhidden_tables_lem, unhidden_pages_lem, shut_tables_lem, alike}
use Rattle.witness.proofs.Computed.{answer_to, ran_one, ran_two, computed}
use Rattle.witness.specs.Counterexamples.{Premise, alignment, user_mode, translation, slots, likeness, unhidden_tables, unhidden_pages, shut_tables, Holds, Counterexample, readable, supervisor, untranslated, one_page, two_leaves, four_pages, root_leaf, root_page, own_leaf, writable_table, Needed}

-- the demand, its premises by name
together : (hidden : ℕ → Bool) (os : List Op) (M : Machine) (m m' : Memory) → ((v : Premise) → Holds v hidden os M m m') → Isolated hidden m m' (ran_ops os M m) (ran_ops os M m')
unfolding Demand3
together hidden os M m m' all =
    demand3 hidden os M m m' (all alignment) (record { user = all user_mode; enabled = all translation }) (all slots) (all likeness)
    (record { tables = all unhidden_tables; pages = all unhidden_pages; unwritable = all shut_tables })

-- a counterexample refutes the demand's conclusion
pub refuted : {w : Premise} {hidden : ℕ → Bool} {os : List Op} {M : Machine} {m m' : Memory} {x x' : List Answer}
    → Counterexample w hidden os M m m' x x' → ¬ Isolated hidden m m' (ran_ops os M m) (ran_ops os M m')
refuted c i = c.differ (sym c.answers ∙ i.answers ∙ c.answers')

-- ---- how a counterexample is made

outcomes : List Answer → List (Result ℕ Fault)
outcomes l = map (λ (x : Answer). x.outcome) l

-- two runs of one access
one_each : (o : Op) (M : Machine) (m m' : Memory) (x x' : Answer) → (answer_to o M m ≡ x) × (answer_to o M m' ≡ x')
    → ((ran_ops (o ∷ []) M m).answers ≡ x ∷ []) × ((ran_ops (o ∷ []) M m').answers ≡ x' ∷ [])
one_each o M m m' x x' e = (ran_one o M m x e.0, ran_one o M m' x' e.1)

-- the premise that is left out
left_out : {A : Type 0} {w : Premise} → w ≢ w → A
left_out n = absurd (n refl)

-- word i of page h is 0 in one memory and 1 in the other, whose tables lie in pages q and t and open page f alone
module _ (w : Premise) (p q t f h i : ℕ) (l : List Word) (s : SystemState) (here : Layout (laid p ((i, 0) ∷ l)) s.vm q t f)
    (there : Layout (laid p ((i, 1) ∷ l)) s.vm q t f) (os : List Op) where
  -- what each premise comes to
  abbrev Shown : Premise → Type 0
  Shown alignment = AllAligned os
  Shown user_mode = s.user ≡ true
  Shown translation = s.vm.enabled ≡ true
  Shown slots = length s.vm.tlb ≡ 16
  Shown likeness = i / 1024 ≡ h
  Shown unhidden_tables = (eqb h q ≡ false) × (eqb h t ≡ false)
  Shown unhidden_pages = eqb h f ≡ false
  Shown shut_tables = (eqb f q ≡ false) × (eqb f t ≡ false)

  holds : (x y : ℕ) → Layout (laid p ((i, x) ∷ l)) s.vm q t f → (v : Premise) → Shown v
      → Holds v (on_page h) os (machine_with p s) (laid p ((i, x) ∷ l)) (laid p ((i, y) ∷ l))
  holds x y at alignment g = g
  holds x y at user_mode g = g
  holds x y at translation g = g
  holds x y at slots g = g
  holds x y at likeness g = alike p i x y h l g
  holds x y at unhidden_tables g = unhidden_tables_lem at h g.0 g.1
  holds x y at unhidden_pages g = unhidden_pages_lem at h g
  holds x y at shut_tables g = shut_tables_lem at g.0 g.1

  abbrev Unless : Premise → Type 0
  Unless v = v ≢ w → Shown v

  counter : Unless alignment → Unless user_mode → Unless translation → Unless slots → Unless likeness → Unless unhidden_tables → Unless unhidden_pages → Unless shut_tables
      → (x x' : List Answer) → ((ran_ops os (machine_with p s) (laid p ((i, 0) ∷ l))).answers ≡ x) × ((ran_ops os (machine_with p s) (laid p ((i, 1) ∷ l))).answers ≡ x') → outcomes x ≢ outcomes x'
      → Counterexample w (on_page h) os (machine_with p s) (laid p ((i, 0) ∷ l)) (laid p ((i, 1) ∷ l)) x x'
  counter aligned user enabled sixteen like tables pages shut x x' runs apart =
      record { others = λ v n. (holds 0 1 here v (by_name v n), holds 1 0 there v (by_name v n)); answers = runs.0; answers' = runs.1; differ = λ e. apart (ap outcomes e) }
    where
      by_name : (v : Premise) → Unless v
      by_name alignment = aligned
      by_name user_mode = user
      by_name translation = enabled
      by_name slots = sixteen
      by_name likeness = like
      by_name unhidden_tables = tables
      by_name unhidden_pages = pages
      by_name shut_tables = shut

-- ---- the counterexamples

aligned_load : AllAligned (load 4 0 ∷ [])
aligned_load = ((lit< tt, refl), tt)

-- page 0 is open to no one, and PTBR's page is outside the map
one_page_shut : (x : ℕ) (s : SystemState) → s.vm.ptbr ≡ 4096 → s.vm.tlb ≡ tlb_of no_entry → Layout (one_page x) s.vm 1 1 2
one_page_shut x s root empty = layout 1 1 1 2 ((0, x) ∷ []) s.vm (computed.one_page_lem 2 x) root (rw empty (none_resident 2))

-- page 0 is open
one_page_open : (x : ℕ) → Layout (one_page x) (user_vm 1 (tlb_of (readable 0))) 1 1 0
one_page_open x = layout 1 1 1 0 ((0, x) ∷ []) (user_vm 1 (tlb_of (readable 0))) (computed.one_page_lem 0 x) refl (one_resident 0 (readable 0) (λ v. refl))

-- page 3 is open, by its leaves and by a TLB entry, or by its leaves alone
two_leaves_open : (x : ℕ) → Layout (four_pages 1023 x) (user_vm 1 (tlb_of (readable 3))) 1 2 3
two_leaves_open x =
    layout 4 1 2 3 ((1023, x) ∷ two_leaves) (user_vm 1 (tlb_of (readable 3))) (computed.four_pages_lem x).1 refl (one_resident 3 (readable 3) (λ v. refl))

two_leaves_empty : (x : ℕ) → Layout (four_pages 0 x) (user_vm 1 []) 1 2 3
two_leaves_empty x = layout 4 1 2 3 ((0, x) ∷ two_leaves) (user_vm 1 []) (computed.four_pages_lem x).0 refl (λ i v. absurd_eq (cc))

-- page 1 is open, if the root's word leads anywhere
root_page_lem : (x : ℕ) → fits 0 0 1 ((0, x) ∷ root_leaf) ≡ true → Layout (root_page x) (user_vm 0 (tlb_of no_entry)) 0 0 1
root_page_lem x ok = layout 2 0 0 1 ((0, x) ∷ root_leaf) (user_vm 0 (tlb_of no_entry)) ok refl (none_resident 1)

own_leaf_open : (x : ℕ) → Layout (writable_table x) (user_vm 0 (tlb_of no_entry)) 0 1 1
own_leaf_open x = layout 3 0 1 1 ((2048, x) ∷ own_leaf) (user_vm 0 (tlb_of no_entry)) (computed.own_leaf_lem x) refl (none_resident 1)

pub needed : Needed
unfolding outcomes
needed =
    record {
      together = together;
      unaligned =
          counter alignment 4 1 2 3 0 1023 two_leaves (user_state 1 (tlb_of (readable 3)))
          (two_leaves_open 0) (two_leaves_open 1) _
          left_out (λ n. refl) (λ n. refl) (λ n. refl) (λ n. refl) (λ n. (refl, refl)) (λ n. refl) (λ n. (refl, refl))
          _ _ (one_each _ _ _ _ _ _ computed.unaligned) (λ e. absurd_eq (cc));
      privileged =
          counter user_mode 1 1 1 2 0 0 [] supervisor (one_page_shut 0 supervisor refl refl) (one_page_shut 1 supervisor refl refl) _
          (λ n. aligned_load) left_out (λ n. refl) (λ n. refl) (λ n. refl) (λ n. (refl, refl)) (λ n. refl) (λ n. (refl, refl))
          _ _ (one_each _ _ _ _ _ _ computed.privileged) (λ e. absurd_eq (cc));
      untabled =
          counter translation 1 1 1 2 0 0 [] untranslated (one_page_shut 0 untranslated refl refl) (one_page_shut 1 untranslated refl refl) _
          (λ n. aligned_load) (λ n. refl) left_out (λ n. refl) (λ n. refl) (λ n. (refl, refl)) (λ n. refl) (λ n. (refl, refl))
          _ _ (one_each _ _ _ _ _ _ computed.untabled) (λ e. absurd_eq (cc));
      slotless =
          counter slots 4 1 2 3 0 0 two_leaves (user_state 1 [])
          (two_leaves_empty 0) (two_leaves_empty 1) _
          (λ n. aligned_load) (λ n. refl) (λ n. refl) left_out (λ n. refl) (λ n. (refl, refl)) (λ n. refl) (λ n. (refl, refl))
          _ _ (one_each _ _ _ _ _ _ computed.slotless) (λ e. absurd_eq (cc));
      unlike =
          counter likeness 1 1 1 0 2 0 [] (user_state 1 (tlb_of (readable 0))) (one_page_open 0) (one_page_open 1) _
          (λ n. aligned_load) (λ n. refl) (λ n. refl) (λ n. refl) left_out (λ n. (refl, refl)) (λ n. refl) (λ n. (refl, refl))
          _ _ (one_each _ _ _ _ _ _ computed.open_page) (λ e. absurd_eq (cc));
      hidden_table =
          counter unhidden_tables 2 0 0 1 0 0 root_leaf (user_state 0 (tlb_of no_entry))
          (root_page_lem 0 computed.root_page_lem.0) (root_page_lem 1 computed.root_page_lem.1) _
          (λ n. ((lit< tt, refl), tt)) (λ n. refl) (λ n. refl) (λ n. refl) (λ n. refl) left_out (λ n. refl) (λ n. (refl, refl))
          _ _ (one_each _ _ _ _ _ _ computed.hidden_table) (λ e. absurd_eq (cc));
      hidden_open =
          counter unhidden_pages 1 1 1 0 0 0 [] (user_state 1 (tlb_of (readable 0))) (one_page_open 0) (one_page_open 1) _
          (λ n. aligned_load) (λ n. refl) (λ n. refl) (λ n. refl) (λ n. refl) (λ n. (refl, refl)) left_out (λ n. (refl, refl))
          _ _ (one_each _ _ _ _ _ _ computed.open_page) (λ e. absurd_eq (cc));
      writable_table =
          counter shut_tables 3 0 1 1 2 2048 own_leaf (user_state 0 (tlb_of no_entry))
          (own_leaf_open 0) (own_leaf_open 1) _
          (λ n. ((lit< tt, refl), ((lit< tt, refl), tt))) (λ n. refl) (λ n. refl) (λ n. refl) (λ n. refl) (λ n. (refl, refl)) (λ n. refl) left_out
          _ _ (ran_two _ _ _ _ _ _ _ _ (computed.table_stored 0) computed.leaf_used.0, ran_two _ _ _ _ _ _ _ _ (computed.table_stored 1) computed.leaf_used.1)
          (λ e. absurd_eq (cc));
    }
