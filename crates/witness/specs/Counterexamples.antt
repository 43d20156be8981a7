-- Each premise of demand 3 is needed: all of them give isolation, and for each there is a run in which the others hold and the answers differ.
--
--   Premise            == the premises, by name
--   Holds v            == premise v of two runs of os by machine M, on memories m and m' with some bytes hidden
--   Counterexample w   == all premises but w hold, and the runs answer x and x', which differ
--   Needed             == the demand with its premises by name, and a counterexample without each
--
-- In each counterexample one word of physical memory is 0 in the first run and 1 in the second. What is hidden is a whole page.
use Rattle.std.specs.Prelude.{ℕ, ◌≡◌, Bool, true, false, List, [], ◌∷◌, ◌≢◌, replicate, Ok, Err}
use Rattle.memory.specs.Memory.{Memory}
use Rattle.mmu.specs.Opened.{TableByte, Opened}
use Rattle.mmu.specs.Tlb.{no_entry}
use Rattle.mmu.specs.declared.exception.Access.{Access}
use Rattle.mmu.specs.declared.exception.Access.TheVariants.{Read}
use Rattle.mmu.specs.declared.exception.Exception.TheVariants.{PageFault}
use Rattle.mmu.specs.declared.tlb.TlbEntry.{TlbEntry}
use Rattle.privilege.specs.State.{no_region, with_user, with_regions, with_vm}
use Rattle.privilege.specs.declared.region.Region.{Region}
use Rattle.privilege.specs.declared.state.SystemState.{SystemState}
use Rattle.machine.specs.declared.access.Fault.TheVariants.{Exception}
use Rattle.machine.specs.declared.state.Machine.{Machine}
use Rattle.isolation.specs.Premises.{Op, AllAligned, Sixteen, Alike}
use Rattle.isolation.specs.Demand3.{Answer, ran_ops, Isolated, TablesShut}
use Rattle.witness.specs.Laid.{Word, laid}
use Rattle.witness.specs.Scene.{on_page, tlb_of, user_state, machine_with, load, store, answer}

pub data Premise : Type 0 where
  alignment : Premise
  user_mode : Premise
  translation : Premise
  slots : Premise
  likeness : Premise
  unhidden_tables : Premise
  unhidden_pages : Premise
  shut_tables : Premise

abbrev pub Holds : Premise → (ℕ → Bool) → List Op → Machine → Memory → Memory → Type 0
Holds alignment hidden os M m m' = AllAligned os
Holds user_mode hidden os M m m' = M.sys.user ≡ true
Holds translation hidden os M m m' = M.sys.vm.enabled ≡ true
Holds slots hidden os M m m' = Sixteen M
Holds likeness hidden os M m m' = Alike hidden m m'
Holds unhidden_tables hidden os M m m' = (a : ℕ) → hidden a ≡ true → ¬ TableByte m M.sys.vm.ptbr a
Holds unhidden_pages hidden os M m m' = (a : ℕ) → hidden a ≡ true → (k : Access) → ¬ Opened m M.sys.vm k a
Holds shut_tables hidden os M m m' = TablesShut m M.sys.vm

pub record Counterexample (w : Premise) (hidden : ℕ → Bool) (os : List Op) (M : Machine) (m m' : Memory) (x x' : List Answer) : Type 0 where
  -- every other premise, of either memory beside the other
  pub others : (v : Premise) → v ≢ w → Holds v hidden os M m m' × Holds v hidden os M m' m
  pub answers : (ran_ops os M m).answers ≡ x
  pub answers' : (ran_ops os M m').answers ≡ x'
  pub differ : x ≢ x'

-- ---- TLB entries and privilege states

-- virtual page 0 in frame f, open to users for reading
abbrev pub readable : ℕ → TlbEntry
readable f = record { valid = true; vpn = 0; ppn = f; flags = 0x12 }

-- a supervisor over an empty TLB, PTBR at page 1
abbrev pub supervisor : SystemState
supervisor = with_user (user_state 1 (tlb_of no_entry)) false

-- a user without translation, with a region over page 0 for reading
abbrev pub whole_page : Region
whole_page = record { start = 0; end = 4096; flags = 1 }

abbrev pub untranslated : SystemState
untranslated =
    with_regions (with_vm (user_state 1 (tlb_of no_entry)) (record { enabled = false; ptbr = 4096; vfault = 0; tlb = tlb_of no_entry; next_victim = 0 }))
    (whole_page ∷ replicate 7 no_region)

-- ---- memories

-- a page of which word 0 is x
abbrev pub one_page : ℕ → Memory
one_page x = laid 1 ((0, x) ∷ [])

-- level 1 in page 1, level 2 in page 2; virtual pages 0 and 1 are page 3, for reading; of page 0 word i is x
abbrev pub two_leaves : List Word
two_leaves = (1024, 0x2001) ∷ (2048, 0x3013) ∷ (2049, 0x3013) ∷ []

abbrev pub four_pages : ℕ → ℕ → Memory
four_pages i x = laid 4 ((i, x) ∷ two_leaves)

-- level 1 in page 0, whose word 0 is x; where that names page 0 as a level-2 table, word 1 there is a leaf of page 1, for reading
abbrev pub root_leaf : List Word
root_leaf = (1, 0x1013) ∷ []

abbrev pub root_page : ℕ → Memory
root_page x = laid 2 ((0, x) ∷ root_leaf)

-- level 1 in page 0, level 2 in page 1; virtual page 0 is that page 1, for writing too; of page 2 word 0 is x
abbrev pub own_leaf : List Word
own_leaf = (0, 0x1001) ∷ (1024, 0x1017) ∷ []

abbrev pub writable_table : ℕ → Memory
writable_table x = laid 3 ((2048, x) ∷ own_leaf)

-- ---- every premise

pub record Needed : Type 0 where
  -- all of them are the demand's
  pub together : (hidden : ℕ → Bool) (os : List Op) (M : Machine) (m m' : Memory) → ((v : Premise) → Holds v hidden os M m m')
      → Isolated hidden m m' (ran_ops os M m) (ran_ops os M m')
  -- a load over two pages: the fill of the second takes the slot of the first, whose byte is then looked for in page 0
  pub unaligned :
      Counterexample alignment (on_page 0) (load 2 0xFFF ∷ []) (machine_with 4 (user_state 1 (tlb_of (readable 3)))) (four_pages 1023 0) (four_pages 1023 1)
      (answer (Ok 0x000) 8 2 ∷ []) (answer (Ok 0x100) 8 2 ∷ [])
  -- a supervisor reads what it likes
  pub privileged :
      Counterexample user_mode (on_page 0) (load 4 0 ∷ []) (machine_with 1 supervisor) (one_page 0) (one_page 1)
      (answer (Ok 0) 8 0 ∷ []) (answer (Ok 1) 8 0 ∷ [])
  -- without translation a user reads what the regions grant, whatever the tables say
  pub untabled :
      Counterexample translation (on_page 0) (load 4 0 ∷ []) (machine_with 1 untranslated) (one_page 0) (one_page 1)
      (answer (Ok 0) 8 0 ∷ []) (answer (Ok 1) 8 0 ∷ [])
  -- a TLB without slots keeps no fill, so that every byte is looked for in page 0
  pub slotless :
      Counterexample slots (on_page 0) (load 4 0 ∷ []) (machine_with 4 (user_state 1 [])) (four_pages 0 0) (four_pages 0 1)
      (answer (Ok 0) 8 2 ∷ []) (answer (Ok 1) 8 2 ∷ [])
  -- a byte that differs and is not hidden may be read: here page 2 alone is hidden
  pub unlike :
      Counterexample likeness (on_page 2) (load 4 0 ∷ []) (machine_with 1 (user_state 1 (tlb_of (readable 0)))) (one_page 0) (one_page 1)
      (answer (Ok 0) 8 0 ∷ []) (answer (Ok 1) 8 0 ∷ [])
  -- a hidden table: where its word 0 names no table there is a page fault, where it names one a value
  pub hidden_table :
      Counterexample unhidden_tables (on_page 0) (load 4 0x1000 ∷ []) (machine_with 2 (user_state 0 (tlb_of no_entry))) (root_page 0) (root_page 1)
      (answer (Err (Exception (PageFault Read false 0x1000))) 0 1 ∷ []) (answer (Ok 0) 8 2 ∷ [])
  -- a hidden byte in an open page is read; PTBR's page is outside the map
  pub hidden_open :
      Counterexample unhidden_pages (on_page 0) (load 4 0 ∷ []) (machine_with 1 (user_state 1 (tlb_of (readable 0)))) (one_page 0) (one_page 1)
      (answer (Ok 0) 8 0 ∷ []) (answer (Ok 1) 8 0 ∷ [])
  -- a user who can write the level-2 table puts a leaf of the hidden page into it, and reads that page
  pub writable_table :
      Counterexample shut_tables (on_page 2) (store 4 4 0x2013 ∷ load 4 0x1000 ∷ []) (machine_with 3 (user_state 0 (tlb_of no_entry))) (writable_table 0) (writable_table 1)
      (answer (Ok 0) 0 2 ∷ answer (Ok 0) 8 2 ∷ []) (answer (Ok 0) 0 2 ∷ answer (Ok 1) 8 2 ∷ [])
