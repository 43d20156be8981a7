-- `cache::flat::pack_bank` meets its contract: each word is its field's, and the tags are the bank's. Assumes nothing.
use Rattle.std.proofs.Common.{rules}
use Rattle.cache.proofs.FlatBanks.{set_after, bank_packed}
use Rattle.cache.proofs.flat.pack_bank.Goals as goal

pub bounds-bank-2 : goal.bounds-bank-2
bounds-bank-2 c = search (set_after, rules)

pub returns : goal.returns
returns c = search (bank_packed, rules)
