-- What a bank's counts say of the history: document 01 'L1 tag cache', the last sentence of its first paragraph.
--
--   Op              == an operation of the cache; those that hand back no cache change nothing and are left out
--   stepped, ran    == the cache after an operation, and after several, oldest first
--   total b         == a bank's hits plus misses, modulo 2^32
--   counted s c o   == o is a load (data bank) or fetch (instruction bank) with that bank enabled at a cacheable address
--   clearing c o    == o is a reset, a clear of the counts, or a write of control with bit 10 set, by word or by byte lane
--   made s c os     == how many of os count
--   since s c n os  == the same, from n on, and from 0 again at each operation that clears
--   History         == the sentence, for every sequence and both banks
use Rattle.std.specs.Prelude.{◌≡◌, ℕ, ◌+◌, ◌%◌, ◌^◌, ◌<◌, Bool, true, false, cond, not, ◌&&◌, List, [], ◌∷◌, ◌++◌, ◌==◌}
use Rattle.common.specs.Bits.{bit_set}
use Rattle.cache.specs.Cache.{Side, i_bank, d_bank, bank_of, new_cache, reset_of, both_cleared, counts, fetched, loaded, stored, external_written, reg_read, reg_written, word_of, merged, byte_written}
use Rattle.cache.specs.declared.Bank.{Bank}
use Rattle.cache.specs.declared.L1Cache.{L1Cache}

pub data Op : Type 0 where
  fetch : ℕ → Op
  load : ℕ → Op
  store : ℕ → Op
  external : ℕ → ℕ → Op
  write_reg : ℕ → ℕ → Op
  write_byte : ℕ → ℕ → Op
  clear_stats : Op
  reset : Op

abbrev pub stepped : L1Cache → Op → L1Cache
stepped c (fetch pa) = (fetched c pa).cache
stepped c (load pa) = (loaded c pa).cache
stepped c (store pa) = stored c pa
stepped c (external pa len) = external_written c pa len
stepped c (write_reg offset v) = reg_written c offset v
stepped c (write_byte addr v) = byte_written c addr v
stepped c clear_stats = both_cleared c
stepped c reset = reset_of c

abbrev pub ran : L1Cache → List Op → L1Cache
ran c [] = c
ran c (o ∷ os) = ran (stepped c o) os

abbrev pub total : Bank → ℕ
total b = (b.hits + b.misses) % 2 ^ 32

abbrev pub is_i : Side → Bool
is_i i_bank = true
is_i d_bank = false

abbrev pub counted : Side → L1Cache → Op → Bool
counted s c (fetch pa) = is_i s && counts c c.i pa
counted s c (load pa) = not (is_i s) && counts c c.d pa
counted s c (store pa) = false
counted s c (external pa len) = false
counted s c (write_reg offset v) = false
counted s c (write_byte addr v) = false
counted s c clear_stats = false
counted s c reset = false

abbrev pub clearing : L1Cache → Op → Bool
clearing c (fetch pa) = false
clearing c (load pa) = false
clearing c (store pa) = false
clearing c (external pa len) = false
clearing c (write_reg offset v) = offset == 0x04 && bit_set v 10
clearing c (write_byte addr v) = word_of addr == 0x04 && bit_set (merged (reg_read c (word_of addr)) addr v) 10
clearing c clear_stats = true
clearing c reset = true

abbrev pub none_clears : L1Cache → List Op → Bool
none_clears c [] = true
none_clears c (o ∷ os) = not (clearing c o) && none_clears (stepped c o) os

abbrev pub made : Side → L1Cache → List Op → ℕ
made s c [] = 0
made s c (o ∷ os) = cond (counted s c o) 1 0 + made s (stepped c o) os

abbrev pub since : Side → L1Cache → ℕ → List Op → ℕ
since s c n [] = n
since s c n (o ∷ os) = since s (stepped c o) (cond (clearing c o) 0 (n + cond (counted s c o) 1 0)) os

pub record History : Type 0 where
  -- every sequence of operations on a new cache
  pub from_new : (s : Side) (start size : ℕ) (os : List Op) →
      total (bank_of s (ran (new_cache start size) os)) ≡ since s (new_cache start size) 0 os % 2 ^ 32
  -- and on any cache, with what its bank has counted before
  pub from_any : (s : Side) (c : L1Cache) (os : List Op) → total (bank_of s (ran c os)) ≡ since s c (total (bank_of s c)) os % 2 ^ 32
  -- "since the last clear or reset": o, after which none clears
  pub since_clear : (s : Side) (c : L1Cache) (before : List Op) (o : Op) (after : List Op) →
      clearing (ran c before) o ≡ true → none_clears (stepped (ran c before) o) after ≡ true →
      total (bank_of s (ran c (before ++ o ∷ after))) ≡ made s (stepped (ran c before) o) after % 2 ^ 32
  -- "or since new", where none clears
  pub since_new : (s : Side) (start size : ℕ) (os : List Op) → none_clears (new_cache start size) os ≡ true →
      total (bank_of s (ran (new_cache start size) os)) ≡ made s (new_cache start size) os % 2 ^ 32
  -- of any cache whose bank has counted nothing, whatever its penalty is: as a new one's has not
  pub since_none : (s : Side) (c : L1Cache) (os : List Op) → total (bank_of s c) ≡ 0 → none_clears c os ≡ true →
      total (bank_of s (ran c os)) ≡ made s c os % 2 ^ 32
  -- of the byte lanes only the byte at 6 clears, by its bit 2
  pub byte_clears : (c : L1Cache) (addr v : ℕ) → v < 256 → clearing c (write_byte addr v) ≡ (addr == 6 && bit_set v 2)
