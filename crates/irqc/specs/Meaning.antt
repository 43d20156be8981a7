-- What the controller's definitions mean, source by source: document 01's sentences as laws of single bits.
--
--   Word         == a word of sixteen bits
--   Controller   == a controller whose three words are such
--   has_register == the address is that of one of the four register bytes
--   Meaning      == the laws, one field a sentence
use Rattle.std.specs.Prelude.{ℕ, ◌+◌, ◌*◌, ◌<◌, ◌≤◌, ◌^◌, ◌≡◌, Bool, true, false, ◌&&◌, ◌||◌, not, eqb}
use Rattle.common.specs.Bits.{bit_set, with_bit}
use Rattle.irqc.specs.Irqc.{new_controller, source_set, levels_set, pending_cleared, active, output, output_of, byte_read, byte_written}
use Rattle.irqc.specs.declared.IrqController.{IrqController}

abbrev pub Word : ℕ → Type 0
Word x = x < 2 ^ 16

-- as every controller of the code is: its fields are `u16`
abbrev pub Controller : IrqController → Type 0
Controller c = Word c.pending × Word c.enable × Word c.source_level

abbrev pub has_register : ℕ → Bool
has_register addr = eqb addr 0 || eqb addr 1 || eqb addr 4 || eqb addr 5

pub record Meaning : Type 0 where
  -- "The output is the lowest numbered source both pending and enabled"
  pub lowest : (c : IrqController) (n : ℕ) → output_of c ≡ output true n → (active c n ≡ true) × ((j : ℕ) → j < n → active c j ≡ false)
  -- "else not valid with number 0": where no source is active the output is exactly that, and only there
  pub none : (c : IrqController) → ((j : ℕ) → j < 16 → active c j ≡ false) → output_of c ≡ output false 0
  pub only_none : (c : IrqController) → (output_of c).valid ≡ false → ((output_of c).number ≡ 0) × ((j : ℕ) → j < 16 → active c j ≡ false)
  -- "Only a rise from low to high latches pending"
  pub rise : (c : IrqController) (n i : ℕ) (level : Bool) → n < 16 → i < 16
      → bit_set (source_set c n level).pending i ≡ (bit_set c.pending i || (eqb n i && level && not (bit_set c.source_level n)))
  -- "the level is always remembered", and no other source's moves
  pub level : (c : IrqController) (n : ℕ) (level : Bool) → n < 16 → bit_set (source_set c n level).source_level n ≡ level
  pub others : (c : IrqController) (n i : ℕ) (level : Bool) → n < 16 → i < 16 → (n ≡ i → ⊥)
      → bit_set (source_set c n level).source_level i ≡ bit_set c.source_level i
  -- "Number 16 or more does nothing"
  pub past : (c : IrqController) (n : ℕ) (level : Bool) → 16 ≤ n → source_set c n level ≡ c
  -- "Setting several at once equals setting each": with no source in the mask nothing is set, and a source more in the mask is that
  -- source set after the others. Any source can be the last, so the order in which they are set makes no difference
  pub several_none : (c : IrqController) (levels : ℕ) → levels_set c 0 levels ≡ c
  pub several_more : (c : IrqController) (mask levels n : ℕ) → Controller c → n < 16
      → levels_set c (with_bit mask n) levels ≡ source_set (levels_set c mask levels) n (bit_set levels n)
  -- "Clearing drops the mask's pending bits and no levels"
  pub cleared : (c : IrqController) (mask i : ℕ) → Word mask → i < 16
      → bit_set (pending_cleared c mask).pending i ≡ (bit_set c.pending i && not (bit_set mask i))
  pub levels_kept : (c : IrqController) (mask : ℕ) → (pending_cleared c mask).source_level ≡ c.source_level
  -- neither setting nor clearing moves the enable word
  pub set_enable : (c : IrqController) (n : ℕ) (level : Bool) → (source_set c n level).enable ≡ c.enable
  pub cleared_enable : (c : IrqController) (mask : ℕ) → (pending_cleared c mask).enable ≡ c.enable
  -- "Register bytes: 0 and 1 are pending, high byte first"
  pub pending_bytes : (c : IrqController) → Word c.pending
      → (byte_read c 0 < 256) × (byte_read c 1 < 256) × (byte_read c 0 * 256 + byte_read c 1 ≡ c.pending)
  -- "4 and 5 enable"
  pub enable_bytes : (c : IrqController) → Word c.enable
      → (byte_read c 4 < 256) × (byte_read c 5 < 256) × (byte_read c 4 * 256 + byte_read c 5 ≡ c.enable)
  -- "others read 0"
  pub others_read : (c : IrqController) (addr : ℕ) → has_register addr ≡ false → byte_read c addr ≡ 0
  -- "Writing 0 or 1 clears the written ones"
  pub ones_cleared : (c : IrqController) (addr value i : ℕ) → addr < 2 → value < 256 → i < 8
      → bit_set (byte_read (byte_written c addr value) addr) i ≡ (bit_set (byte_read c addr) i && not (bit_set value i))
  -- a byte of enable is replaced, as the Rust does it
  pub enable_written : (c : IrqController) (value : ℕ) → value < 256
      → (byte_read (byte_written c 4 value) 4 ≡ value) × (byte_read (byte_written c 5 value) 5 ≡ value)
  -- a write moves no other byte and no level, and at an address without a register nothing
  pub other_bytes : (c : IrqController) (addr other value : ℕ) → Word c.pending → value < 256 → (addr ≡ other → ⊥)
      → byte_read (byte_written c addr value) other ≡ byte_read c other
  pub written_kept : (c : IrqController) (addr value : ℕ) → (byte_written c addr value).source_level ≡ c.source_level
  pub others_written : (c : IrqController) (addr value : ℕ) → has_register addr ≡ false → byte_written c addr value ≡ c
  -- "Reset clears all three words"
  pub reset : (new_controller.pending ≡ 0) × (new_controller.enable ≡ 0) × (new_controller.source_level ≡ 0)
