-- The premises of demand 3 can be met: page tables in memory, a user's page, and a page that is hidden.
--
--   memory x     == four pages: level 1; level 2; the user's, open for reading and writing; and the hidden one, whose byte at 0x3003 is x
--   machine      == a user's machine over them, its TLB empty
--   hidden       == every byte of the fourth page
--   Witness      == the premises are met whatever the hidden byte is; the memories differ in it; the user's accesses are allowed
use Rattle.std.specs.Prelude.{ℕ, ◌<◌, ◌≡◌, Bool, List, [], ◌∷◌, ◌≢◌, Ok}
use Rattle.memory.specs.Memory.{Memory, byte_at}
use Rattle.mmu.specs.Tlb.{no_entry}
use Rattle.machine.specs.declared.state.Machine.{Machine}
use Rattle.isolation.specs.Premises.{Op, AllAligned, InUserMode, Sixteen, Alike, Sealed}
use Rattle.isolation.specs.Demand3.{ran_ops, Isolated}
use Rattle.witness.specs.Laid.{Word, laid}
use Rattle.witness.specs.Scene.{on_page, tlb_of, user_state, machine_with, load, store, answer}

-- level-1 word 0 names page 1; level-2 word 0 is page 2 with V, R, W and U; the user's first word
abbrev pub visible : List Word
visible = (0, 0x1001) ∷ (1024, 0x2017) ∷ (2048, 0x1234_5678) ∷ []

abbrev pub memory : ℕ → Memory
memory x = laid 4 ((3072, x) ∷ visible)

abbrev pub machine : Machine
machine = machine_with 4 (user_state 0 (tlb_of no_entry))

abbrev pub hidden : ℕ → Bool
hidden = on_page 3

pub record Witness : Type 0 where
  pub user : InUserMode machine
  pub slots : Sixteen machine
  pub alike : (x y : ℕ) → Alike hidden (memory x) (memory y)
  pub closed : (x : ℕ) → Sealed hidden (memory x) machine.sys.vm
  -- the memories are two
  pub differ : (x y : ℕ) → x < 256 → y < 256 → x ≢ y → byte_at (memory x) 0x3003 ≢ byte_at (memory y) 0x3003
  -- a load walks, misses and has its value; a store writes, and what it wrote is read
  pub loads : (x : ℕ) → (ran_ops (load 4 0 ∷ []) machine (memory x)).answers ≡ answer (Ok 0x1234_5678) 8 2 ∷ []
  pub stores : (x : ℕ) → (ran_ops (store 4 4 0xCAFE ∷ load 4 4 ∷ []) machine (memory x)).answers ≡ answer (Ok 0) 0 2 ∷ answer (Ok 0xCAFE) 8 0 ∷ []
  -- so the demand speaks of these machines, whatever the accesses
  pub isolated : (os : List Op) (x y : ℕ) → AllAligned os → Isolated hidden (memory x) (memory y) (ran_ops os machine (memory x)) (ran_ops os machine (memory y))
