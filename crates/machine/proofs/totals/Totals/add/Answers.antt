-- `machine::totals::Totals::add` meets its contract. Assumes nothing.
use Rattle.machine.proofs.Summed.{counted_value, counted_other}
use Rattle.std.proofs.Common.{rules}
use Rattle.machine.proofs.totals.Totals.add.Goals as goal

pub returns-then-line-eq86 : goal.returns-then-line-eq86
returns-then-line-eq86 c = search (counted_value, rules)

pub returns : goal.returns
returns c = search (counted_other, rules)
