-- The figures of document 01 'L1 tag cache', each computed from the definitions. Corner P11 is in the crate `cases`.
--
--   a_bank, a_cache == a bank with counts, and a cache of two such over [start, start + size) with a penalty
--   Corners         == the figures, one field each
use Rattle.std.specs.Prelude.{◌≡◌, ℕ, ◌+◌, Bool, true, false, slice_set}
use Rattle.cache.specs.Bank.{no_tag, no_tags, new_bank, with_tags, hit_counted, miss_counted, emptied}
use Rattle.cache.specs.Cache.{with_banks, new_cache, cacheable_at, reset_of, loaded, external_written, reg_read, reg_written, merged, byte_read, byte_written}
use Rattle.cache.specs.declared.Bank.{Bank}
use Rattle.cache.specs.declared.L1Cache.{L1Cache}

abbrev pub a_bank : Bool → ℕ → ℕ → Bank
a_bank on hits misses = record { tags = slice_set no_tags 1 7; enabled = on; hits = hits; misses = misses }

abbrev pub a_cache : ℕ → ℕ → ℕ → L1Cache
a_cache start size penalty =
    record { i = a_bank true 1 2; d = a_bank true 3 4; ram_start = start; ram_end = start + size; miss_penalty = penalty }

-- indexes dropped in both banks
abbrev pub drops : L1Cache → ℕ → L1Cache
drops c j = with_banks c (with_tags c.i (slice_set c.i.tags j no_tag)) (with_tags c.d (slice_set c.d.tags j no_tag))

pub record Corners : Type 0 where
  -- a line is dropped when its first byte is written; the index of line 256 is 0; the sweep stops after the topmost line
  pub two_lines : (c : L1Cache) → external_written c 0x1F 2 ≡ drops (drops c 0) 1
  pub one_line : (c : L1Cache) → external_written c 0x1F 1 ≡ drops c 0
  pub around : (c : L1Cache) → external_written c 0x2000 32 ≡ drops c 0
  pub topmost : (c : L1Cache) → external_written c 0xFFFF_FFE0 0xFFFF_FFFF ≡ drops c 255
  -- "0x00 is 0x000D0D05", "others 0"
  pub info : (c : L1Cache) → reg_read c 0x00 ≡ 0x000D_0D05
  pub others : (c : L1Cache) → (reg_read c 0x05 ≡ 0) × (reg_read c 0x08 ≡ 0) × (reg_read c 0x20 ≡ 0) × (reg_read c 0x104 ≡ 0)
  -- "0x04 has enable bits 0 (I) and 1 (D)"
  pub ctrl : (start size : ℕ) →
      (reg_read (new_cache start size) 0x04 ≡ 3)
      × (reg_read (reg_written (new_cache start size) 0x04 1) 0x04 ≡ 1)
      × (reg_read (reg_written (new_cache start size) 0x04 2) 0x04 ≡ 2)
      × (reg_read (reg_written (new_cache start size) 0x04 0) 0x04 ≡ 0)
  -- "0x10, 0x14, 0x18, 0x1C are I hits, I misses, D hits, D misses"
  pub counters : (start size penalty : ℕ) →
      (reg_read (a_cache start size penalty) 0x10 ≡ 1)
      × (reg_read (a_cache start size penalty) 0x14 ≡ 2)
      × (reg_read (a_cache start size penalty) 0x18 ≡ 3)
      × (reg_read (a_cache start size penalty) 0x1C ≡ 4)
  -- "Only 0x04 is writable"
  pub read_only : (c : L1Cache) (v : ℕ) → (reg_written c 0x00 v ≡ c) × (reg_written c 0x10 v ≡ c) × (reg_written c 0x1C v ≡ c)
  -- "bits 8 and 9 empty I and D, 10 clears the counts"
  pub strobes : (start size p : ℕ) →
      (reg_written (a_cache start size p) 0x04 0x103 ≡ with_banks (a_cache start size p) (emptied (a_bank true 1 2)) (a_bank true 3 4))
      × (reg_written (a_cache start size p) 0x04 0x203 ≡ with_banks (a_cache start size p) (a_bank true 1 2) (emptied (a_bank true 3 4)))
      × (reg_written (a_cache start size p) 0x04 0x403 ≡ with_banks (a_cache start size p) (a_bank true 0 0) (a_bank true 0 0))
  -- "Any change of an enable bit empties its bank"
  pub disabled : (start size p : ℕ) →
      reg_written (a_cache start size p) 0x04 1
      ≡ with_banks (a_cache start size p) (a_bank true 1 2) (record { tags = no_tags; enabled = false; hits = 3; misses = 4 })
  -- "Reset empties and enables both, clears counts, keeps the penalty"
  pub at_reset : (start size p : ℕ) → reset_of (a_cache start size p) ≡ with_banks (a_cache start size p) new_bank new_bank
  -- "Hit and miss counts wrap past 0xFFFFFFFF to zero"
  pub wrap : (hit_counted (a_bank true 0xFFFF_FFFF 5) ≡ a_bank true 0 5) × (miss_counted (a_bank true 5 0xFFFF_FFFF) ≡ a_bank true 5 0)
  -- "Cacheable is [start, end), the end saturating"
  pub range :
      (cacheable_at (new_cache 0x1000 0x1000) 0x0FFF ≡ false)
      × (cacheable_at (new_cache 0x1000 0x1000) 0x1000 ≡ true)
      × (cacheable_at (new_cache 0x1000 0x1000) 0x1FFF ≡ true)
      × (cacheable_at (new_cache 0x1000 0x1000) 0x2000 ≡ false)
  pub saturation :
      ((new_cache 0xFFFF_0000 0x20000).ram_end ≡ 0xFFFF_FFFF)
      × (cacheable_at (new_cache 0xFFFF_0000 0x20000) 0xFFFF_FFFE ≡ true)
      × (cacheable_at (new_cache 0xFFFF_0000 0x20000) 0xFFFF_FFFF ≡ false)
  -- "a hit costs 0, a miss the penalty": the whole case's two loads
  pub whole_case :
      ((loaded (a_cache 0 0x1000 8) 0).stall ≡ 8) × ((loaded (loaded (a_cache 0 0x1000 8) 0).cache 0x1C).stall ≡ 0)
  -- the byte lanes, the high byte first
  pub lanes : (c : L1Cache) → (byte_read c 0 ≡ 0x00) × (byte_read c 1 ≡ 0x0D) × (byte_read c 2 ≡ 0x0D) × (byte_read c 3 ≡ 0x05)
  pub merges : (merged 0x1122_3344 0 0xAA ≡ 0xAA22_3344) × (merged 0x1122_3344 5 0xAA ≡ 0x11AA_3344) × (merged 0x1122_3344 7 0xAA ≡ 0x1122_33AA)
  -- the byte at 6 with value 4 clears the counts and keeps the enables
  pub byte_strobe : (start size p : ℕ) →
      byte_written (a_cache start size p) 6 4 ≡ with_banks (a_cache start size p) (a_bank true 0 0) (a_bank true 0 0)
