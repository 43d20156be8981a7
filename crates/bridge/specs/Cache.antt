-- What the bridge adds to the cache.
--
--   with_penalty c p == the same cache with another penalty: the field `miss_penalty` set
use Rattle.std.specs.Prelude.{ℕ}
use Rattle.cache.specs.declared.L1Cache.{L1Cache}

abbrev pub with_penalty : L1Cache → ℕ → L1Cache
with_penalty c penalty =
    record { i = c.i; d = c.d; ram_start = c.ram_start; ram_end = c.ram_end; miss_penalty = penalty }
