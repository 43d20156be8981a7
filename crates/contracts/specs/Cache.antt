-- The L1 tag cache: two outcomes that a contract of `cache` admits coincide (`Settled.antt`).
use borrow.Fn.Read.{r_last}
use Rattle.contracts.specs.Settled.{Settled, SettledAs, Claim, 𝓛, mem, run}
use Rattle.contracts.specs.Words.{SameWords}
use Rattle.cache.specs.contracts as cache
use Rattle.cache.specs.Flat.{cache_words, cache_at}

pub record Cache : Type 0 where
  pub bank_new : Settled cache.Bank.new.ended (λ κs a r e. Claim ((cache.Bank.new.clauses 𝓛 mem run κs a).ensures tt r e) (r_last _))
  pub invalidate_all : Settled cache.Bank.invalidate_all.ended (λ κs a r e. Claim ((cache.Bank.invalidate_all.clauses 𝓛 mem run κs a).ensures tt r e) (r_last _))
  pub access : Settled cache.Bank.access.ended (λ κs a r e. Claim ((cache.Bank.access.clauses 𝓛 mem run κs a).ensures tt r e) (r_last _))
  pub invalidate_line : Settled cache.Bank.invalidate_line.ended (λ κs a r e. Claim ((cache.Bank.invalidate_line.clauses 𝓛 mem run κs a).ensures tt r e) (r_last _))
  pub set_enabled : Settled cache.Bank.set_enabled.ended (λ κs a r e. Claim ((cache.Bank.set_enabled.clauses 𝓛 mem run κs a).ensures tt r e) (r_last _))
  pub bank_clear_stats : Settled cache.Bank.clear_stats.ended (λ κs a r e. Claim ((cache.Bank.clear_stats.clauses 𝓛 mem run κs a).ensures tt r e) (r_last _))
  pub cache_new : Settled cache.L1Cache.new.ended (λ κs a r e. Claim ((cache.L1Cache.new.clauses 𝓛 mem run κs a).ensures tt r e) (r_last _))
  pub cacheable : Settled cache.L1Cache.cacheable.ended (λ κs a r e. Claim ((cache.L1Cache.cacheable.clauses 𝓛 mem run κs a).ensures tt r e) (r_last _))
  pub reset : Settled cache.L1Cache.reset.ended (λ κs a r e. Claim ((cache.L1Cache.reset.clauses 𝓛 mem run κs a).ensures tt r e) (r_last _))
  pub cache_clear_stats : Settled cache.L1Cache.clear_stats.ended (λ κs a r e. Claim ((cache.L1Cache.clear_stats.clauses 𝓛 mem run κs a).ensures tt r e) (r_last _))
  pub fetch : Settled cache.L1Cache.fetch.ended (λ κs a r e. Claim ((cache.L1Cache.fetch.clauses 𝓛 mem run κs a).ensures tt r e) (r_last _))
  pub load : Settled cache.L1Cache.load.ended (λ κs a r e. Claim ((cache.L1Cache.load.clauses 𝓛 mem run κs a).ensures tt r e) (r_last _))
  pub store : Settled cache.L1Cache.store.ended (λ κs a r e. Claim ((cache.L1Cache.store.clauses 𝓛 mem run κs a).ensures tt r e) (r_last _))
  pub external_write : Settled cache.L1Cache.external_write.ended (λ κs a r e. Claim ((cache.L1Cache.external_write.clauses 𝓛 mem run κs a).ensures tt r e) (r_last _))
  pub lines_visited : Settled cache.lines_visited.ended (λ κs a r e. Claim ((cache.lines_visited.clauses 𝓛 mem run κs a).ensures tt r e) (r_last _))
  pub ctrl : Settled cache.L1Cache.ctrl.ended (λ κs a r e. Claim ((cache.L1Cache.ctrl.clauses 𝓛 mem run κs a).ensures tt r e) (r_last _))
  pub read_reg : Settled cache.L1Cache.read_reg.ended (λ κs a r e. Claim ((cache.L1Cache.read_reg.clauses 𝓛 mem run κs a).ensures tt r e) (r_last _))
  pub write_reg : Settled cache.L1Cache.write_reg.ended (λ κs a r e. Claim ((cache.L1Cache.write_reg.clauses 𝓛 mem run κs a).ensures tt r e) (r_last _))
  pub read_byte : Settled cache.L1Cache.read_byte.ended (λ κs a r e. Claim ((cache.L1Cache.read_byte.clauses 𝓛 mem run κs a).ensures tt r e) (r_last _))
  pub write_byte : Settled cache.L1Cache.write_byte.ended (λ κs a r e. Claim ((cache.L1Cache.write_byte.clauses 𝓛 mem run κs a).ensures tt r e) (r_last _))

-- where the cache's words stand
pub record CacheFlat : Type 0 where
  pub load : SettledAs cache.flat.load.ended (λ κs a r e. Claim ((cache.flat.load.clauses 𝓛 mem run κs a).ensures tt r e) (r_last _)) (λ κs a. SameWords cache_words cache_at a.0.now)
  pub fetch : SettledAs cache.flat.fetch.ended (λ κs a r e. Claim ((cache.flat.fetch.clauses 𝓛 mem run κs a).ensures tt r e) (r_last _)) (λ κs a. SameWords cache_words cache_at a.0.now)
  pub store : SettledAs cache.flat.store.ended (λ κs a r e. Claim ((cache.flat.store.clauses 𝓛 mem run κs a).ensures tt r e) (r_last _)) (λ κs a. SameWords cache_words cache_at a.0.now)
  pub external_write : SettledAs cache.flat.external_write.ended (λ κs a r e. Claim ((cache.flat.external_write.clauses 𝓛 mem run κs a).ensures tt r e) (r_last _)) (λ κs a. SameWords cache_words cache_at a.0.now)
  pub read_reg : Settled cache.flat.read_reg.ended (λ κs a r e. Claim ((cache.flat.read_reg.clauses 𝓛 mem run κs a).ensures tt r e) (r_last _))
  pub write_reg : SettledAs cache.flat.write_reg.ended (λ κs a r e. Claim ((cache.flat.write_reg.clauses 𝓛 mem run κs a).ensures tt r e) (r_last _)) (λ κs a. SameWords cache_words cache_at a.0.now)
  pub reset : SettledAs cache.flat.reset.ended (λ κs a r e. Claim ((cache.flat.reset.clauses 𝓛 mem run κs a).ensures tt r e) (r_last _)) (λ κs a. SameWords cache_words cache_at a.0.now)
  pub pack : SettledAs cache.flat.pack.ended (λ κs a r e. Claim ((cache.flat.pack.clauses 𝓛 mem run κs a).ensures tt r e) (r_last _)) (λ κs a. SameWords cache_words cache_at a.0.now)
  pub unpack : Settled cache.flat.unpack.ended (λ κs a r e. Claim ((cache.flat.unpack.clauses 𝓛 mem run κs a).ensures tt r e) (r_last _))
