-- `cache::sweep::sweep` meets its contract. The loop's invariant: the rest of the turns leave what the whole sweep does. There are as
-- many turns as `visits` answers. Assumes nothing.
use Rattle.cache.specs.Bank.{line_of, line_stop, swept_tags}
use Rattle.cache.proofs.Sweeps.{At}
use Rattle.cache.proofs.sweep.sweep.Given as goal

abbrev pub invariant-loop-n : goal.invariant-loop-n
invariant-loop-n l =
    At l.tags l.pa l.n-end l.n (swept_tags l.initial.tags (line_of l.pa) (line_stop l.end))
