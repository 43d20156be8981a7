-- `cache::flat::touch` meets its contract: the bank is off, a hit, or a miss. Assumes nothing.
use Rattle.cache.proofs.FlatBanks.{touches}
use Rattle.cache.proofs.flat.touch.Goals as goal

pub returns-then-bank-ne1 : goal.returns-then-bank-ne1
returns-then-bank-ne1 c = search touches

pub returns-then-bank-at : goal.returns-then-bank-at
returns-then-bank-at c = search touches

pub returns : goal.returns
returns c = search touches
