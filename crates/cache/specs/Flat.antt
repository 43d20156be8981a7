-- The cache as words that an owner lends. What each function does is the by-value definition over what the words stand for.
--
--   tag_word, bank_words        == where in a bank its tags start, and how many words it has
--   i_word, d_word, cache_words == where in a cache its banks start, and how many words it has
--   bank_at l                   == the bank of words: enable bit, hits, misses, tags
--   cache_at l                  == the cache of words: range, penalty, instruction bank, data bank
--   Touches b p pa after n      == an access to bank b at a cacheable address takes it to `after` and costs n, where a miss costs p
--   Costs l l' n a              == a load or fetch takes the words l to l' and costs n, as the access a does
--   Accesses at l l' n pa       == a load or fetch of pa in the bank that starts at word `at` takes the words l to l' and costs n
--   Changes l l' c              == the words l' stand for c
use Rattle.std.specs.Prelude.{◌≡◌, ℕ, ◌+◌, cond, List}
use Rattle.layout.specs.Words.{part, word_at, on_at, Over}
use Rattle.cache.specs.Bank.{accessed}
use Rattle.cache.specs.Cache.{cost_of, fetched, loaded}
use Rattle.cache.specs.declared.Bank.{Bank}
use Rattle.cache.specs.declared.L1Cache.{L1Cache}
use Rattle.cache.specs.declared.CacheAccess.{CacheAccess}

-- ---- where they stand

abbrev pub tag_word : ℕ
tag_word = 3

abbrev pub bank_words : ℕ
bank_words = tag_word + 256

abbrev pub i_word : ℕ
i_word = 3

abbrev pub d_word : ℕ
d_word = i_word + bank_words

abbrev pub cache_words : ℕ
cache_words = d_word + bank_words

-- ---- what they stand for

unfoldable pub bank_at : List ℕ → Bank
bank_at l = record { tags = part tag_word 256 l; enabled = on_at l 0; hits = word_at l 1; misses = word_at l 2 }

unfoldable pub cache_at : List ℕ → L1Cache
cache_at l =
    record {
      i = bank_at (part i_word bank_words l);
      d = bank_at (part d_word bank_words l);
      ram_start = word_at l 0;
      ram_end = word_at l 1;
      miss_penalty = word_at l 2;
    }

-- ---- what the functions do

abbrev pub Touches : Bank → ℕ → ℕ → Bank → ℕ → Type 0
Touches b penalty pa after n =
    (after ≡ cond b.enabled (accessed b pa).bank b) × (n ≡ cond b.enabled (cost_of (accessed b pa).hit penalty) 0)

-- a load or fetch takes the cache there, at that cost
abbrev pub Costs : List ℕ → List ℕ → ℕ → CacheAccess → Type 0
Costs l l' n a = Over cache_words l l' n 0 (record { cache = cache_at l'; stall = n } ≡ a)

-- in the instruction bank it is a fetch, in the data bank a load
abbrev pub Accesses : ℕ → List ℕ → List ℕ → ℕ → ℕ → Type 0
Accesses at l l' n pa =
    (at ≡ i_word → Costs l l' n (fetched (cache_at l) pa)) × (at ≡ d_word → Costs l l' n (loaded (cache_at l) pa))

-- a function without an answer takes the cache there
abbrev pub Changes : List ℕ → List ℕ → L1Cache → Type 0
Changes l l' c = Over {R = Unit {0}} cache_words l l' tt tt (cache_at l' ≡ c)
