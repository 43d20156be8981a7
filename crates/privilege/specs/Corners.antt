-- Figures of the kind of document 01's corner table, computed from the definitions. The table itself is the crate `cases`.
--
--   a_region start end flags == a user's state, translation off, whose region 0 is this and whose others are 0
--   in_user                  == a new state in user mode
--   below n                  == the numbers below n, largest first
use Rattle.std.specs.Prelude.{◌≡◌, ℕ, zero, suc, true, false, cond, List, [], ◌∷◌, replicate, slice_set, Result, Ok, Err}
use Rattle.common.specs.declared.Refusal.TheVariants.{Register}
use Rattle.mmu.specs.declared.exception.Access.TheVariants.{Read, Write, Fetch}
use Rattle.privilege.specs.Access.{legal_size, allows_of}
use Rattle.privilege.specs.Meaning.{known}
use Rattle.privilege.specs.Registers.{sr_read, sr_written}
use Rattle.privilege.specs.State.{new_state, no_regions, status_of, status_set, with_user, with_regions}
use Rattle.privilege.specs.Transfer.{joined_to}
use Rattle.privilege.specs.Trap.{trapped, returned}
use Rattle.privilege.specs.declared.state.InstructionMode.TheVariants.{Short}
use Rattle.privilege.specs.declared.state.SystemState.{SystemState}
use Rattle.common.specs.declared.Refusal.{Refusal}

abbrev pub in_user : SystemState
in_user = with_user new_state true

abbrev pub a_region : ℕ → ℕ → ℕ → SystemState
a_region start end flags = with_regions in_user (slice_set no_regions 0 (record { start = start; end = end; flags = flags }))

-- what a register reads after a write
abbrev pub read_back : SystemState → List ℕ → ℕ → ℕ → Result ℕ Refusal
read_back s reg sr v = sr_read (sr_written s sr v reg).sys sr (sr_written s sr v reg).reg

abbrev pub below : ℕ → List ℕ
below zero = []
below (suc n) = n ∷ below n

abbrev pub known_of : List ℕ → List ℕ
known_of [] = []
known_of (sr ∷ l) = cond (known sr) (sr ∷ known_of l) (known_of l)

-- R0 to R31 with 1, 2 and 3 in R28 to R30
abbrev pub some_registers : List ℕ
some_registers = slice_set (slice_set (slice_set (replicate 32 0) 28 1) 29 2) 30 3

pub record Corners : Type 0 where
  -- beside P6: the other bytes of an access, a wrong kind of access, and a word over the end
  pub before_region : allows_of (a_region 0x1000 0x2000 1) 0x0FFF 1 Read ≡ false
  pub other_access : allows_of (a_region 0x1000 0x2000 1) 0x1FFF 1 Write ≡ false
  pub word_in : allows_of (a_region 0x1000 0x2000 1) 0x1FFC 4 Read ≡ true
  pub word_over : allows_of (a_region 0x1000 0x2000 1) 0x1FFD 4 Read ≡ false
  -- around 2^32 a user's access is refused at its first byte
  pub around : allows_of (a_region 0 0xFFFF_FFFF 7) 0xFFFF_FFFE 4 Read ≡ false
  -- every register number below 0x60, the largest first
  pub numbers :
      known_of (below 0x60)
      ≡ 0x44 ∷ 0x43 ∷ 0x42 ∷ 0x41 ∷ 0x40 ∷ 0x2E ∷ 0x2D ∷ 0x2C ∷ 0x2A ∷ 0x29 ∷ 0x28 ∷ 0x26 ∷ 0x25 ∷ 0x24 ∷ 0x22 ∷ 0x21 ∷ 0x20 ∷ 0x1E
      ∷ 0x1D ∷ 0x1C ∷ 0x1A ∷ 0x19 ∷ 0x18 ∷ 0x16 ∷ 0x15 ∷ 0x14 ∷ 0x12 ∷ 0x11 ∷ 0x10 ∷ 0x0A ∷ 0x09 ∷ 0x08 ∷ 0x02 ∷ 0x01 ∷ 0x00 ∷ []
  -- all 16 bits count: 0x0141 is not PTBR
  pub whole_number : (s : SystemState) (reg : List ℕ) → sr_read s 0x0141 reg ≡ Err Register
  -- STATUS written 0xFFFFFFFF in supervisor mode reads 0x1B, in user mode 0x1F
  pub status_all : (status_of (status_set new_state 0xFFFF_FFFF) ≡ 0x1B) × (status_of (status_set in_user 0xFFFF_FFFF) ≡ 0x1F)
  -- a trap out of user mode and IRET: STATUS on the way, and R28 to R30 as they were
  pub there_and_back :
      (status_of (trapped in_user some_registers 0x100 5 Short).sys ≡ 0x1A)
      × ((returned (trapped in_user some_registers 0x100 5 Short).sys (trapped in_user some_registers 0x100 5 Short).reg).reg ≡ some_registers)
      × (status_of (returned (trapped in_user some_registers 0x100 5 Short).sys (trapped in_user some_registers 0x100 5 Short).reg).sys ≡ 0x1F)
  -- VCTL keeps bit 0
  pub vctl : (s : SystemState) (reg : List ℕ) → (read_back s reg 0x40 0xFFFF_FFFE ≡ Ok 0) × (read_back s reg 0x40 3 ≡ Ok 1)
  -- a page number's bits past 32 are dropped
  pub wide_frame : joined_to 0x10_0021 0x5FFE ≡ 0x21FFE
  -- the sizes
  pub sizes :
      (legal_size Read 1 ≡ true) × (legal_size Write 2 ≡ true) × (legal_size Read 4 ≡ true) × (legal_size Read 3 ≡ false) × (legal_size Write 0 ≡ false)
      × (legal_size Fetch 2 ≡ true) × (legal_size Fetch 4 ≡ true) × (legal_size Fetch 1 ≡ false)
