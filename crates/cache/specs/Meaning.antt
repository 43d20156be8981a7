-- What the cache's definitions mean, line by line: document 01's sentences on the L1 tag cache as laws.
--
--   Lines b                            == a bank of 256 lines, as every bank is
--   tag_at b j                         == the tag at an index
--   is_register offset, enable_bit s v == the offset has a register; a bank's enable bit in the control register's value
--   Meaning                            == the laws, one field a sentence
--
-- What holds of both banks is said of a bank b, or of either side s. A load or fetch is the same law of its bank.
use Rattle.std.specs.Prelude.{◌≡◌, ℕ, ◌+◌, ◌*◌, ◌/◌, ◌%◌, ◌^◌, ◌<◌, ◌≤◌, Bool, true, false, cond, ◌&&◌, ◌||◌, length, ◌==◌, ◌≢◌, slice_index}
use Rattle.common.specs.Bits.{bit_set}
use Rattle.cache.specs.Bank.{index_of, no_tag, no_tags, with_tags, holds, accessed, drop_lines, enabled_to}
use Rattle.cache.specs.Cache.{Side, i_bank, d_bank, bank_of, with_banks, reset_of, saturated, cacheable_at, counts, stall_after, loaded, fetched, stored, external_written, lines_visited, reg_read, reg_written, lane_of, merged}
use Rattle.cache.specs.declared.Bank.{Bank}
use Rattle.cache.specs.declared.L1Cache.{L1Cache}

abbrev pub Lines : Bank → Type 0
Lines b = length b.tags ≡ 256

abbrev pub tag_at : Bank → ℕ → ℕ
tag_at b j = slice_index b.tags j

-- the offsets that have a register
abbrev pub is_register : ℕ → Bool
is_register offset = offset == 0x00 || offset == 0x04 || offset == 0x10 || offset == 0x14 || offset == 0x18 || offset == 0x1C

-- "0x04 has enable bits 0 (I) and 1 (D)"
abbrev pub enable_bit : Side → ℕ → Bool
enable_bit i_bank v = bit_set v 0
enable_bit d_bank v = bit_set v 1

pub record Meaning : Type 0 where
  -- "empty is 0xFFFFFFFF, which no tag can equal": an empty line holds no address
  pub empty : (b : Bank) (pa : ℕ) → pa < 2 ^ 32 → tag_at b (index_of pa) ≡ no_tag → holds b pa ≡ false
  -- "hits or allocates": after an access its line is held, and every other index is as it was
  pub held : (b : Bank) (pa : ℕ) → Lines b → holds (accessed b pa).bank pa ≡ true
  pub others : (b : Bank) (pa j : ℕ) → (j ≢ index_of pa) → tag_at (accessed b pa).bank j ≡ tag_at b j
  -- "a hit costs 0, a miss the penalty"
  pub hit : (c : L1Cache) (b : Bank) (pa : ℕ) → holds b pa ≡ true → stall_after c b pa ≡ 0
  pub miss : (c : L1Cache) (b : Bank) (pa : ℕ) → counts c b pa ≡ true → holds b pa ≡ false → stall_after c b pa ≡ c.miss_penalty
  -- "Otherwise it costs 0 and changes nothing"
  pub load_nothing : (c : L1Cache) (pa : ℕ) → counts c c.d pa ≡ false → loaded c pa ≡ record { cache = c; stall = 0 }
  pub fetch_nothing : (c : L1Cache) (pa : ℕ) → counts c c.i pa ≡ false → fetched c pa ≡ record { cache = c; stall = 0 }
  -- "A cacheable store drops only the matching instruction line, bank enabled or not": what each index holds after it
  pub store_drops : (c : L1Cache) (pa j : ℕ) → Lines c.i →
      tag_at (stored c pa).i j ≡ cond (cacheable_at c pa && holds c.i pa && index_of pa == j) no_tag (tag_at c.i j)
  -- and nothing else: a store counts nothing, in either bank
  pub store_else : (c : L1Cache) (pa : ℕ) → stored c pa ≡ with_banks c (with_tags c.i (stored c pa).i.tags) c.d
  -- an external write "drops the index of each line from the one holding its first address while that line starts below the
  -- saturated end, in both banks, cacheable or not"
  pub external_drops : (s : Side) (c : L1Cache) (pa len k : ℕ) → Lines (bank_of s c) → pa / 32 ≤ k → k * 32 < saturated pa len →
      tag_at (bank_of s (external_written c pa len)) (k % 256) ≡ no_tag
  -- and no other index
  pub external_keeps : (s : Side) (c : L1Cache) (pa len j : ℕ) → ((k : ℕ) → pa / 32 ≤ k → k * 32 < saturated pa len → k % 256 ≢ j) →
      tag_at (bank_of s (external_written c pa len)) j ≡ tag_at (bank_of s c) j
  -- and nothing else
  pub external_else : (c : L1Cache) (pa len : ℕ) →
      external_written c pa len
      ≡ with_banks c (with_tags c.i (external_written c pa len).i.tags) (with_tags c.d (external_written c pa len).d.tags)
  -- W-204: an external write of any length visits at most 256 lines of a bank
  pub visits_at_most : (pa len : ℕ) → lines_visited pa len ≤ 256
  -- they are those that it drops, each of the first 256 and no others
  pub visits_each : (pa len k : ℕ) → pa / 32 ≤ k → k < pa / 32 + 256 → k * 32 < saturated pa len → k < pa / 32 + lines_visited pa len
  pub visits_only : (pa len k : ℕ) → pa / 32 ≤ k → k < pa / 32 + lines_visited pa len → k * 32 < saturated pa len
  -- "Once 256 lines have been dropped every index is empty": dropping these leaves the tags that dropping all leaves
  pub visits_enough : (s : Side) (c : L1Cache) (pa len : ℕ) → Lines (bank_of s c) →
      drop_lines (lines_visited pa len) (pa / 32) (bank_of s c).tags ≡ (bank_of s (external_written c pa len)).tags
  -- "others 0"
  pub others_read : (c : L1Cache) (offset : ℕ) → is_register offset ≡ false → reg_read c offset ≡ 0
  -- "Only 0x04 is writable"
  pub only_control : (c : L1Cache) (offset v : ℕ) → (offset ≢ 0x04) → reg_written c offset v ≡ c
  -- "Any change of an enable bit empties its bank": by a write of the register, whatever its other bits are
  pub control_changes : (s : Side) (c : L1Cache) (v : ℕ) → ((bank_of s c).enabled ≢ enable_bit s v) → (bank_of s (reg_written c 0x04 v)).tags ≡ no_tags
  -- of a bank; and where the bit does not change the bank stays
  pub enable_change : (b : Bank) (on : Bool) → (b.enabled ≢ on) → (enabled_to b on).tags ≡ no_tags
  pub enable_same : (b : Bank) → enabled_to b b.enabled ≡ b
  -- "A byte lane write is merged with the register as read": that byte is the written one, the other three stay
  pub lane_written : (w addr v : ℕ) → v < 256 → lane_of (merged w addr v) addr ≡ v
  pub lane_kept : (w addr other v : ℕ) → v < 256 → (addr % 4 ≢ other % 4) → lane_of (merged w addr v) other ≡ lane_of w other
  -- "Reset empties and enables both, clears counts, keeps the penalty", and the range, whatever the banks were
  pub reset_banks : (s : Side) (c : L1Cache) →
      ((bank_of s (reset_of c)).tags ≡ no_tags) × ((bank_of s (reset_of c)).enabled ≡ true) × ((bank_of s (reset_of c)).hits ≡ 0) × ((bank_of s (reset_of c)).misses ≡ 0)
  pub reset_keeps : (c : L1Cache) →
      ((reset_of c).miss_penalty ≡ c.miss_penalty) × ((reset_of c).ram_start ≡ c.ram_start) × ((reset_of c).ram_end ≡ c.ram_end)
