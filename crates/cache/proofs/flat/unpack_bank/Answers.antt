-- `cache::flat::unpack_bank` meets its contract: each field is its word's, and the tags are copied. Assumes nothing.
use Rattle.std.proofs.Common.{rules}
use Rattle.cache.proofs.FlatBanks.{bank_unpacked}
use Rattle.cache.proofs.flat.unpack_bank.Goals as goal

pub returns : goal.returns
returns c = search (bank_unpacked, rules)
