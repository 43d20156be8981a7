-- `tables::list::List::all_good` meets its contract. The loop's invariant: the whole test is the test from place `k` on. Assumes nothing.
use Rattle.std.proofs.Common.{refl, rules}
use Rattle.tables.proofs.Judged.{all_done, one_bad, one_good}
use Rattle.tables.proofs.list.List.all_good.Goals as goal

pub loop-k-init : goal.loop-k-init
loop-k-init c = (refl, search rules)

pub loop-k-preserved : goal.loop-k-preserved
loop-k-preserved c = (search one_good, search rules)

pub returns-then-not-good : goal.returns-then-not-good
returns-then-not-good c = search one_bad

pub returns : goal.returns
returns c = search all_done
