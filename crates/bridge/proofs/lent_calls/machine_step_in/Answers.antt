-- `bridge::lent_calls::machine_step_in` meets its contract: the step over the words. Assumes nothing.
use Rattle.std.proofs.Common.{rules}
use Rattle.bridge.proofs.Lent.{lent_steps}
use Rattle.bridge.proofs.lent_calls.machine_step_in.Goals as goal

pub returns : goal.returns
returns c = record {
  value = search (lent_steps, rules);
  state_after = search (lent_steps, rules);
  mem_after = search (lent_steps, rules);
}
