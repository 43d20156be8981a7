-- `cache::flat::read_reg` meets its contract: the register is that of the words that have the banks' bits and counts. Assumes nothing.
use Rattle.std.proofs.Common.{rules}
use Rattle.cache.proofs.FlatCaches.{register_read}
use Rattle.cache.proofs.flat.read_reg.Goals as goal

pub returns : goal.returns
returns c = search (register_read, rules)
