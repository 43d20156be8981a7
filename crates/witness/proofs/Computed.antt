-- The accesses of the witness and of the counterexamples, and the layouts of their memories, computed. Assumes nothing.
--
--   answer_to o M m  == what access o answers
--   ran_one, ran_two == a run of one or two accesses, by its accesses
--   left M m x       == an access that answered x and left the machine M and the memory m
--   Computed         == the figures, one field each
--
-- What is read of a laid memory is taken from its list of words; all else computes from the definitions. This is the one file that opens those
-- of other crates: an example is no law.
use Rattle.std.proofs.Common.{◌≡◌, ℕ, ◌/◌, ◌%◌, true, false, [], ◌∷◌, Some, Ok, Err, refl, ap, ◌∙◌}
use Rattle.common.specs.Bits.{bit_set}
use Rattle.common.specs.Bytes.{bytes_of}
use Rattle.cache.specs.Bank.{no_tags, accessed, line_dropped}
use Rattle.cache.specs.Cache.{cacheable_at, loaded, stored}
use Rattle.memory.specs.Gate.{access_gate}
use Rattle.memory.specs.Memory.{Memory, byte_at, gathered, all_writable}
use Rattle.machine.specs.declared.access.Fault.TheVariants.{Exception}
use Rattle.mmu.specs.Check.{permits, judged, by_walk, by_slot, check_with, check_page, after_page, check_each, pages_after, pages_of}
use Rattle.mmu.specs.Tlb.{no_entry, matches, first_match}
use Rattle.mmu.specs.Vm.{with_tlb, filled, frame_of}
use Rattle.mmu.specs.Walk.{table_ok, leaf_ok, leaf_entry, walk_leaf, walk_table, walk_of}
use Rattle.mmu.specs.declared.exception.Access.TheVariants.{Read}
use Rattle.mmu.specs.declared.exception.Exception.TheVariants.{PageFault}
use Rattle.privilege.specs.Access.{fetch_size, data_size, legal_size, translating_of, allows_of, check_legal, check_access}
use Rattle.privilege.specs.Addresses.{addresses}
use Rattle.privilege.specs.Region.{grants_of, some_grants, all_allowed}
use Rattle.privilege.specs.State.{with_vm}
use Rattle.privilege.specs.Transfer.{physical_of, spots, load_at, store_at, memory_at}
use Rattle.machine.specs.Access.{Effect, access_answer, lines_of, presented, presented_each, read_outcome, write_outcome, data_outcome, data_memory, permitted, access_of}
use Rattle.machine.specs.State.{new_machine}
use Rattle.machine.specs.declared.state.Machine.{Machine}
use Rattle.isolation.specs.Premises.{Op}
use Rattle.isolation.specs.Demand3.{Answer, result_of, answer_of, ran_ops}
use Rattle.witness.specs.Laid.{laid}
use Rattle.witness.specs.Laid.Laws.{byte_in, content_in, laid_good, laid_inside, laid_byte, laid_read, laid_write}
use Rattle.witness.specs.Scene.{tlb_of, user_vm, user_state, machine_with, load, store, answer}
use Rattle.witness.proofs.Layouts.{fits}
use Rattle.witness.specs.Witness.{visible, memory, machine}
use Rattle.witness.specs.Counterexamples.{readable, supervisor, untranslated, one_page, two_leaves, four_pages, root_leaf, root_page, own_leaf, writable_table}

-- ---- runs, by their accesses

unfoldable pub answer_to : Op → Machine → Memory → Answer
answer_to o M m = answer_of (result_of o M m)

abbrev pub left : Machine → Memory → Answer → Effect
left M m x = record { accessed = access_answer M x.outcome x.stall x.reads; memory = m }

pub ran_one : (o : Op) (M : Machine) (m : Memory) (x : Answer) → answer_to o M m ≡ x → (ran_ops (o ∷ []) M m).answers ≡ x ∷ []
unfolding ran_ops answer_to
ran_one o M m x e = ap (λ (y : Answer). y ∷ []) e

pub ran_two : (o o' : Op) (M M' : Machine) (m m' : Memory) (x x' : Answer) → result_of o M m ≡ left M' m' x → answer_to o' M' m' ≡ x'
    → (ran_ops (o ∷ o' ∷ []) M m).answers ≡ x ∷ x' ∷ []
unfolding ran_ops answer_to
ran_two o o' M M' m m' x x' e e' =
    ap (λ (r : Effect). answer_of r ∷ answer_of (result_of o' r.accessed.machine r.memory) ∷ []) e ∙ ap (λ (y : Answer). x ∷ y ∷ []) e'

-- ---- after a store

-- a machine that has filled virtual page 0, in frame f, for reading and writing
abbrev pub walked : ℕ → ℕ → Machine
walked p f =
    machine_with p (with_vm (user_state 0 (tlb_of no_entry)) (with_tlb (user_vm 0 (tlb_of no_entry)) (tlb_of (record { valid = true; vpn = 0; ppn = f; flags = 0x16 })) 1))

-- the witness's memory with a word written, and the table with the leaf that its user writes
abbrev pub written : ℕ → Memory
written x = laid 4 ((2049, 0xCAFE) ∷ (3072, x) ∷ visible)

abbrev pub opened_table : ℕ → Memory
opened_table x = laid 3 ((1025, 0x2013) ∷ (2048, x) ∷ own_leaf)

-- ---- the figures

-- what o answers where the memory's word is 0, and where it is 1
abbrev pub Both : Op → Machine → (ℕ → Memory) → Answer → Answer → Type 0
Both o M m x x' = (answer_to o M (m 0) ≡ x) × (answer_to o M (m 1) ≡ x')

pub record Computed : Type 0 where
  -- the witness
  pub laid_out : (x : ℕ) → fits 0 1 2 ((3072, x) ∷ visible) ≡ true
  pub secret : (x : ℕ) → byte_at (memory x) 0x3003 ≡ Some (x / 1 % 256)
  pub loads : (x : ℕ) → answer_to (load 4 0) machine (memory x) ≡ answer (Ok 0x1234_5678) 8 2
  pub stores : (x : ℕ) → result_of (store 4 4 0xCAFE) machine (memory x) ≡ left (walked 4 2) (written x) (answer (Ok 0) 0 2)
  pub loads_back : (x : ℕ) → answer_to (load 4 4) (walked 4 2) (written x) ≡ answer (Ok 0xCAFE) 8 0
  -- the counterexamples' memories
  pub one_page_lem : (f x : ℕ) → fits 1 1 f ((0, x) ∷ []) ≡ true
  pub four_pages_lem : (x : ℕ) → (fits 1 2 3 ((0, x) ∷ two_leaves) ≡ true) × (fits 1 2 3 ((1023, x) ∷ two_leaves) ≡ true)
  pub root_page_lem : (fits 0 0 1 ((0, 0) ∷ root_leaf) ≡ true) × (fits 0 0 1 ((0, 1) ∷ root_leaf) ≡ true)
  pub own_leaf_lem : (x : ℕ) → fits 0 1 1 ((2048, x) ∷ own_leaf) ≡ true
  -- and their accesses
  pub unaligned : Both (load 2 0xFFF) (machine_with 4 (user_state 1 (tlb_of (readable 3)))) (four_pages 1023) (answer (Ok 0x000) 8 2) (answer (Ok 0x100) 8 2)
  pub privileged : Both (load 4 0) (machine_with 1 supervisor) one_page (answer (Ok 0) 8 0) (answer (Ok 1) 8 0)
  pub untabled : Both (load 4 0) (machine_with 1 untranslated) one_page (answer (Ok 0) 8 0) (answer (Ok 1) 8 0)
  pub slotless : Both (load 4 0) (machine_with 4 (user_state 1 [])) (four_pages 0) (answer (Ok 0) 8 2) (answer (Ok 1) 8 2)
  pub open_page : Both (load 4 0) (machine_with 1 (user_state 1 (tlb_of (readable 0)))) one_page (answer (Ok 0) 8 0) (answer (Ok 1) 8 0)
  pub hidden_table : Both (load 4 0x1000) (machine_with 2 (user_state 0 (tlb_of no_entry))) root_page (answer (Err (Exception (PageFault Read false 0x1000))) 0 1) (answer (Ok 0) 8 2)
  pub table_stored : (x : ℕ) → result_of (store 4 4 0x2013) (machine_with 3 (user_state 0 (tlb_of no_entry))) (writable_table x) ≡ left (walked 3 1) (opened_table x) (answer (Ok 0) 0 2)
  pub leaf_used : Both (load 4 0x1000) (walked 3 1) opened_table (answer (Ok 0) 8 2) (answer (Ok 1) 8 2)

ruleset reads = (laid_good, laid_read)

pub computed : Computed
unfolding answer_to access_of permitted data_outcome data_memory lines_of presented_each access_gate check_access check_legal fetch_size data_size legal_size translating_of allows_of all_allowed some_grants grants_of check_each pages_of pages_after check_page check_with first_match matches by_slot walk_of walk_table table_ok walk_leaf leaf_ok leaf_entry bit_set by_walk filled judged permits after_page physical_of frame_of presented loaded stored line_dropped cacheable_at accessed new_machine no_tags read_outcome write_outcome load_at store_at memory_at all_writable spots addresses gathered content_in byte_in bytes_of fits
computed =
    record {
      laid_out = λ x. refl;
      secret = λ x. laid_byte 4 ((3072, x) ∷ visible) 0x3003;
      loads = λ x. simp reads;
      stores = λ x. simp (reads, laid_inside, laid_write 4 2049 0xCAFE ((3072, x) ∷ visible));
      loads_back = λ x. simp reads;
      one_page_lem = λ f x. refl;
      four_pages_lem = λ x. (refl, refl);
      root_page_lem = (refl, refl);
      own_leaf_lem = λ x. refl;
      unaligned = (simp reads, simp reads);
      privileged = (simp reads, simp reads);
      untabled = (simp reads, simp reads);
      slotless = (simp reads, simp reads);
      open_page = (simp reads, simp reads);
      hidden_table = (simp reads, simp reads);
      table_stored = λ x. simp (reads, laid_inside, laid_write 3 1025 0x2013 ((2048, x) ∷ own_leaf));
      leaf_used = (simp reads, simp reads);
    }
