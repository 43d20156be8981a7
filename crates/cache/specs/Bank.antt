-- One bank of the L1 tag cache, document 01 'L1 tag cache', from src/cpu_cache.rs, `Bank`.
--
--   line_of pa, line_stop end                                   == the line that holds an address; the first line that does not start below `end`
--   index_of pa, tag_of pa                                      == where in a bank an address belongs, and its tag there: `index_tag`
--   no_tag, no_tags                                             == the mark of an empty line, and an empty bank's tags: `INVALID`
--   new_bank                                                    == empty and enabled, no counts: `new`
--   holds b pa                                                  == the bank holds the line of an address
--   accessed b pa                                               == a hit is counted; a miss is counted and allocates: `access`
--   line_dropped b pa                                           == the line of an address is dropped if it is held: `invalidate_line`
--   emptied b                                                   == every line is dropped: `invalidate_all`
--   enabled_to b on                                             == the enable bit is set; its change empties the bank: `set_enabled`
--   stats_cleared b                                             == no counts: `clear_stats`
--   controlled b on drop clr                                    == the enable bit, then the two strobes: a bank's part of `write_reg`
--   swept b k stop, swept_tags                                  == the indexes of lines k to stop - 1 are dropped: a bank's part of `external_write`
--   visited k stop                                              == how many of those lines a sweep visits (W-204)
--   with_tags, hit_counted, miss_counted, allocated, drop_lines == the single changes that these are made of
--
-- Choices that a reader may question. The two banks have the same size, so the Rust's `size_shift` is left out. A sweep
-- is over line numbers, address / 32, and not addresses: a line starts below `end` exactly if its number is below
-- `line_stop end`, and so the sweep past the topmost line, which the Rust ends by a test of its own, needs no case.
use Rattle.std.specs.Prelude.{ℕ, zero, suc, ◌+◌, ◌-◌, ◌/◌, ◌%◌, ◌^◌, min, Bool, true, false, cond, List, replicate, ◌==◌, slice_index, slice_set}
use Rattle.std.specs.Bool.{beq}
use Rattle.cache.specs.declared.Bank.{Bank}
use Rattle.cache.specs.declared.BankAccess.{BankAccess}

-- lines have 32 bytes
abbrev pub line_of : ℕ → ℕ
line_of pa = pa / 32

abbrev pub line_stop : ℕ → ℕ
line_stop end = (end + 31) / 32

-- "Index is (address / 32) mod 256, tag is address / 8,192, empty is 0xFFFFFFFF"
abbrev pub index_of : ℕ → ℕ
index_of pa = line_of pa % 256

abbrev pub tag_of : ℕ → ℕ
tag_of pa = pa / 8192

abbrev pub no_tag : ℕ
no_tag = 0xFFFF_FFFF

unfoldable pub no_tags : List ℕ
no_tags = replicate 256 no_tag

abbrev pub new_bank : Bank
new_bank = record { tags = no_tags; enabled = true; hits = 0; misses = 0 }

-- the same bank with other tags
abbrev pub with_tags : Bank → List ℕ → Bank
with_tags b ts = record { tags = ts; enabled = b.enabled; hits = b.hits; misses = b.misses }

abbrev pub holds : Bank → ℕ → Bool
holds b pa = slice_index b.tags (index_of pa) == tag_of pa

-- "Hit and miss counts wrap past 0xFFFFFFFF to zero"
abbrev pub hit_counted : Bank → Bank
hit_counted b = record { tags = b.tags; enabled = b.enabled; hits = (b.hits + 1) % 2 ^ 32; misses = b.misses }

abbrev pub miss_counted : Bank → Bank
miss_counted b = record { tags = b.tags; enabled = b.enabled; hits = b.hits; misses = (b.misses + 1) % 2 ^ 32 }

abbrev pub allocated : Bank → ℕ → Bank
allocated b pa = with_tags b (slice_set b.tags (index_of pa) (tag_of pa))

unfoldable pub accessed : Bank → ℕ → BankAccess
accessed b pa =
    cond (holds b pa) (record { bank = hit_counted b; hit = true }) (record { bank = miss_counted (allocated b pa); hit = false })

unfoldable pub line_dropped : Bank → ℕ → Bank
line_dropped b pa = cond (holds b pa) (with_tags b (slice_set b.tags (index_of pa) no_tag)) b

abbrev pub emptied : Bank → Bank
emptied b = with_tags b no_tags

-- "Any change of an enable bit empties its bank"
unfoldable pub enabled_to : Bank → Bool → Bank
enabled_to b on =
    record { tags = cond (beq b.enabled on) b.tags no_tags; enabled = on; hits = b.hits; misses = b.misses }

abbrev pub stats_cleared : Bank → Bank
stats_cleared b = record { tags = b.tags; enabled = b.enabled; hits = 0; misses = 0 }

-- b, or b after f
abbrev pub only : Bool → (Bank → Bank) → Bank → Bank
only t f b = cond t (f b) b

unfoldable pub controlled : Bank → Bool → Bool → Bool → Bank
controlled b on drop clear = only clear stats_cleared (only drop emptied (enabled_to b on))

-- the indexes of n lines are emptied, from line k on
unfoldable pub drop_lines : ℕ → ℕ → List ℕ → List ℕ
drop_lines zero k ts = ts
drop_lines (suc n) k ts = drop_lines n (k + 1) (slice_set ts (k % 256) no_tag)

abbrev pub swept_tags : List ℕ → ℕ → ℕ → List ℕ
swept_tags ts k stop = drop_lines (stop - k) k ts

unfoldable pub swept : Bank → ℕ → ℕ → Bank
swept b k stop = with_tags b (swept_tags b.tags k stop)

-- W-204: "Once 256 lines have been dropped every index is empty, so the work can stop there"
abbrev pub visited : ℕ → ℕ → ℕ
visited k stop = min (stop - k) 256
