-- The interrupt controller, document 01 'Interrupt controller', from src/devices/irqc/irqc.rs.
--
--   new_controller     == all three words clear: `new`, and what `reset` leaves
--   source_set         == one source goes to a level: `set_source`
--   levels_set         == several at once are each set, in order: `set_source_levels`
--   pending_cleared    == the mask's pending bits are dropped: `clear_pending`
--   mask_set           == another enable word: `set_enable_mask`
--   output_of          == the lowest numbered source both pending and enabled: `irq_output`
--   byte_read          == one register byte: `read`
--   byte_written       == one register byte is written: `write`
--
-- Choices that a reader may question. A source's number is any number: the Rust takes a byte, document 01 says that 16 or
-- more does nothing. `levels_set` is what the Rust's comment promises, each selected source set by itself; that the Rust
-- skips the sources which keep their level is the code's business, and is proved to make no difference.
use Rattle.std.specs.Prelude.{ℕ, zero, suc, ◌+◌, ◌*◌, ◌/◌, ◌%◌, Bool, true, false, cond, ◌&&◌, ltb, eqb}
use Rattle.common.specs.Bits.{bit_set, with_bit, without_bit, without_bits}
use Rattle.irqc.specs.declared.IrqController.{IrqController}
use Rattle.irqc.specs.declared.IrqOutput.{IrqOutput}

abbrev pub new_controller : IrqController
new_controller = record { pending = 0; enable = 0; source_level = 0 }

-- a source goes high: it is latched only if its level was low
abbrev pub raised : IrqController → ℕ → IrqController
raised c n =
    record {
      pending = cond (bit_set c.source_level n) c.pending (with_bit c.pending n);
      enable = c.enable;
      source_level = with_bit c.source_level n;
    }

-- a source goes low: nothing is latched
abbrev pub lowered : IrqController → ℕ → IrqController
lowered c n =
    record {
      pending = c.pending;
      enable = c.enable;
      source_level = without_bit 16 c.source_level n;
    }

unfoldable pub source_set : IrqController → ℕ → Bool → IrqController
source_set c n level = cond (ltb n 16) (cond level (raised c n) (lowered c n)) c

-- of sources 0 to k - 1 those that the mask has, each set to its bit of `levels`, lowest first
unfoldable pub each_set : IrqController → ℕ → ℕ → ℕ → IrqController
each_set c mask levels zero = c
each_set c mask levels (suc k) =
    cond (bit_set mask k) (source_set (each_set c mask levels k) k (bit_set levels k)) (each_set c mask levels k)

abbrev pub levels_set : IrqController → ℕ → ℕ → IrqController
levels_set c mask levels = each_set c mask levels 16

abbrev pub pending_cleared : IrqController → ℕ → IrqController
pending_cleared c mask =
    record { pending = without_bits 16 c.pending mask; enable = c.enable; source_level = c.source_level }

abbrev pub mask_set : IrqController → ℕ → IrqController
mask_set c mask = record { pending = c.pending; enable = mask; source_level = c.source_level }

-- a source both pending and enabled
abbrev pub active : IrqController → ℕ → Bool
active c i = bit_set c.pending i && bit_set c.enable i

abbrev pub output : Bool → ℕ → IrqOutput
output valid n = record { valid = valid; number = n }

-- of the n sources from i on the first that is active; else not valid with number 0
unfoldable pub lowest_from : IrqController → ℕ → ℕ → IrqOutput
lowest_from c i zero = output false 0
lowest_from c i (suc n) = cond (active c i) (output true i) (lowest_from c (suc i) n)

abbrev pub output_of : IrqController → IrqOutput
output_of c = lowest_from c 0 16

-- the register bytes, high byte first: 0 and 1 are pending, 4 and 5 enable, others read 0
unfoldable pub byte_read : IrqController → ℕ → ℕ
byte_read c addr =
    cond (eqb addr 0) (c.pending / 256)
    (cond (eqb addr 1) (c.pending % 256)
    (cond (eqb addr 4) (c.enable / 256)
    (cond (eqb addr 5) (c.enable % 256) 0)))

-- a written one at 0 or 1 clears its pending bit; 4 and 5 replace that byte of enable; no other byte can be written
unfoldable pub byte_written : IrqController → ℕ → ℕ → IrqController
byte_written c addr value =
    cond (eqb addr 0) (pending_cleared c (value * 256))
    (cond (eqb addr 1) (pending_cleared c value)
    (cond (eqb addr 4) (mask_set c (value * 256 + c.enable % 256))
    (cond (eqb addr 5) (mask_set c (c.enable / 256 * 256 + value)) c)))
