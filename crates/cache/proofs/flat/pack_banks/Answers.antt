-- `cache::flat::pack_banks` meets its contract: one bank after the other. Assumes nothing.
use Rattle.cache.proofs.FlatCaches.{both_packed}
use Rattle.cache.proofs.flat.pack_banks.Goals as goal

pub returns : goal.returns
returns c = search both_packed
