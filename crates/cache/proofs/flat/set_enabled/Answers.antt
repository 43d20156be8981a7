-- `cache::flat::set_enabled` meets its contract: a change of the bit empties the bank. Assumes nothing.
use Rattle.cache.proofs.FlatBanks.{switches}
use Rattle.cache.proofs.flat.set_enabled.Goals as goal

pub returns-then-bank-enabled : goal.returns-then-bank-enabled
returns-then-bank-enabled c = search switches

pub returns-else-bank-enabled : goal.returns-else-bank-enabled
returns-else-bank-enabled c = search switches
