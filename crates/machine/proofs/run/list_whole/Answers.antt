-- `machine::run::list_whole` meets its contract: every listing fits. Assumes nothing.
use Rattle.std.proofs.Common.{rules}
use Rattle.machine.proofs.Runs.{holds_whole}
use Rattle.machine.proofs.run.list_whole.Goals as goal

pub returns : goal.returns
returns c = record { result_after = c.list.ensures; upper_bound = holds_whole _ _ _ _ (search rules) c.list.ensures }
