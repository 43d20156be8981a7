-- `cache::sweep::sweep` meets its contract. The loop's invariant: the rest of the turns leave what the whole sweep does. There are as
-- many turns as `visits` answers. Assumes nothing.
use Rattle.std.proofs.Common.{rules}
use Rattle.cache.proofs.Sweeps.{sweeps}
use Rattle.cache.proofs.sweep.sweep.Goals as goal

pub loop-n-init : goal.loop-n-init
loop-n-init c = search (rules, sweeps)

pub loop-n-preserved : goal.loop-n-preserved
loop-n-preserved c = search (rules, sweeps)

pub returns : goal.returns
returns c = search (rules, sweeps)
