-- The L1 tag cache, document 01 'L1 tag cache', from src/cpu_cache.rs, `L1Cache` and its byte lanes.
--
--   Side, bank_of s c                  == the instruction bank or the data bank, and it in a cache
--   with_banks c i d                   == the same range and penalty with other banks
--   saturated a b                      == a + b, at most 0xFFFFFFFF: `saturating_add`
--   new_cache start size               == two new banks over a range: `new`
--   range_has, cacheable_at c pa       == an address in [start, end): `cacheable`
--   reset_of c, both_cleared c         == two new banks; no counts in either bank: `reset`, `clear_stats`
--   counts c b pa                      == an access to bank b reaches it: enabled, and the address cacheable
--   bank_after c b pa                  == bank b after an access
--   stall_after, cost_of               == what the access costs
--   fetched c pa, loaded c pa          == the instruction bank's access, the data bank's: `fetch`, `load`
--   stored c pa                        == the matching instruction line goes: `store`
--   external_written c pa len          == another master wrote [pa, pa + len): `external_write`
--   lines_visited pa len               == how many lines of each bank that visits (W-204)
--   enable_bits, ctrl_word c           == the two enable bits: `ctrl`
--   register_at, reg_read, reg_written == a register: `read_reg`, `write_reg`
--   word_of, lane_shift addr           == the register of a byte, and how far up the byte stands in it: `lane`
--   lane_of, merged, with_byte         == that byte of a word, and the word with it replaced
--   byte_read, byte_written            == one byte of a register, high byte first: `read`, `write` of `CacheRegisterDevice`
--
-- Choices that a reader may question. What a load and a fetch have in common is said once, of a bank (`counts`,
-- `bank_after`, `stall_after`). The byte lanes are written by `/` and `%`, so that they compute; the code has the Rust's masks.
use Rattle.std.specs.Prelude.{ℕ, ◌+◌, ◌-◌, ◌*◌, ◌/◌, ◌%◌, ◌^◌, min, Bool, cond, ◌&&◌, ◌==◌, nat_le, nat_lt}
use Rattle.common.specs.Bits.{bit_set}
use Rattle.cache.specs.Bank.{new_bank, accessed, line_dropped, stats_cleared, controlled, line_of, line_stop, visited, swept}
use Rattle.cache.specs.declared.Bank.{Bank}
use Rattle.cache.specs.declared.L1Cache.{L1Cache}
use Rattle.cache.specs.declared.CacheAccess.{CacheAccess}

pub data Side : Type 0 where
  i_bank : Side
  d_bank : Side

abbrev pub bank_of : Side → L1Cache → Bank
bank_of i_bank c = c.i
bank_of d_bank c = c.d

abbrev pub saturated : ℕ → ℕ → ℕ
saturated a b = min (a + b) 0xFFFF_FFFF

-- the same cache with other banks
abbrev pub with_banks : L1Cache → Bank → Bank → L1Cache
with_banks c i d = record { i = i; d = d; ram_start = c.ram_start; ram_end = c.ram_end; miss_penalty = c.miss_penalty }

abbrev pub new_cache : ℕ → ℕ → L1Cache
new_cache start size =
    record { i = new_bank; d = new_bank; ram_start = start; ram_end = saturated start size; miss_penalty = 0 }

-- "Cacheable is [start, end)"
abbrev pub range_has : ℕ → ℕ → ℕ → Bool
range_has start end pa = nat_le start pa && nat_lt pa end

unfoldable pub cacheable_at : L1Cache → ℕ → Bool
cacheable_at c pa = range_has c.ram_start c.ram_end pa

-- "Reset empties and enables both, clears counts, keeps the penalty"
abbrev pub reset_of : L1Cache → L1Cache
reset_of c = with_banks c new_bank new_bank

abbrev pub both_cleared : L1Cache → L1Cache
both_cleared c = with_banks c (stats_cleared c.i) (stats_cleared c.d)

-- ---- a load or fetch, of its bank b

-- "with its bank enabled and a cacheable address"
abbrev pub counts : L1Cache → Bank → ℕ → Bool
counts c b pa = b.enabled && cacheable_at c pa

-- it "hits or allocates"; "otherwise it .. changes nothing"
abbrev pub bank_after : L1Cache → Bank → ℕ → Bank
bank_after c b pa = cond (counts c b pa) (accessed b pa).bank b

-- "a hit costs 0, a miss the penalty"; "otherwise it costs 0"
abbrev pub cost_of : Bool → ℕ → ℕ
cost_of hit penalty = cond hit 0 penalty

abbrev pub stall_after : L1Cache → Bank → ℕ → ℕ
stall_after c b pa = cond (counts c b pa) (cost_of (accessed b pa).hit c.miss_penalty) 0

unfoldable pub fetched : L1Cache → ℕ → CacheAccess
fetched c pa = record { cache = with_banks c (bank_after c c.i pa) c.d; stall = stall_after c c.i pa }

unfoldable pub loaded : L1Cache → ℕ → CacheAccess
loaded c pa = record { cache = with_banks c c.i (bank_after c c.d pa); stall = stall_after c c.d pa }

-- ---- stores and external writes

-- "A cacheable store drops only the matching instruction line, bank enabled or not"
unfoldable pub stored : L1Cache → ℕ → L1Cache
stored c pa = with_banks c (cond (cacheable_at c pa) (line_dropped c.i pa) c.i) c.d

-- "drops the index of each line from the one holding its first address while that line starts below the saturated end, in
-- both banks, cacheable or not"
unfoldable pub external_written : L1Cache → ℕ → ℕ → L1Cache
external_written c pa len =
    let stop = line_stop (saturated pa len) in
    with_banks c (swept c.i (line_of pa) stop) (swept c.d (line_of pa) stop)

abbrev pub lines_visited : ℕ → ℕ → ℕ
lines_visited pa len = visited (line_of pa) (line_stop (saturated pa len))

-- ---- the registers

abbrev pub enable_bits : Bool → Bool → ℕ
enable_bits i d = cond i 1 0 + cond d 2 0

unfoldable pub ctrl_word : L1Cache → ℕ
ctrl_word c = enable_bits c.i.enabled c.d.enabled

abbrev pub register_at : ℕ → ℕ → ℕ → ℕ → ℕ → ℕ → ℕ
register_at offset ctrl i-hits i-misses d-hits d-misses =
    cond (offset == 0x00) 0x000D_0D05
    (cond (offset == 0x04) ctrl
    (cond (offset == 0x10) i-hits
    (cond (offset == 0x14) i-misses
    (cond (offset == 0x18) d-hits
    (cond (offset == 0x1C) d-misses 0)))))

unfoldable pub reg_read : L1Cache → ℕ → ℕ
reg_read c offset = register_at offset (ctrl_word c) c.i.hits c.i.misses c.d.hits c.d.misses

-- "Only 0x04 is writable: bits 8 and 9 empty I and D, 10 clears the counts"
unfoldable pub reg_written : L1Cache → ℕ → ℕ → L1Cache
reg_written c offset v =
    cond (offset == 0x04)
    (with_banks c
    (controlled c.i (bit_set v 0) (bit_set v 8) (bit_set v 10))
    (controlled c.d (bit_set v 1) (bit_set v 9) (bit_set v 10)))
    c

-- ---- the byte lanes

-- the register that a byte belongs to, and how far up the byte stands in it
abbrev pub word_of : ℕ → ℕ
word_of addr = addr / 4 * 4

abbrev pub lane_shift : ℕ → ℕ
lane_shift addr = 8 * (3 - addr % 4)

unfoldable pub lane_of : ℕ → ℕ → ℕ
lane_of w addr = w / 2 ^ lane_shift addr % 256

-- a word with the byte at bit s replaced: what is above it, the byte, what is below it
abbrev pub with_byte : ℕ → ℕ → ℕ → ℕ
with_byte w s v = (w / 2 ^ s / 256 * 256 + v) * 2 ^ s + w % 2 ^ s

unfoldable pub merged : ℕ → ℕ → ℕ → ℕ
merged w addr v = with_byte w (lane_shift addr) v

abbrev pub byte_read : L1Cache → ℕ → ℕ
byte_read c addr = lane_of (reg_read c (word_of addr)) addr

-- "A byte lane write is merged with the register as read"
abbrev pub byte_written : L1Cache → ℕ → ℕ → L1Cache
byte_written c addr v = reg_written c (word_of addr) (merged (reg_read c (word_of addr)) addr v)
