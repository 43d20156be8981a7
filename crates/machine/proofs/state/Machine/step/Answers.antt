-- `machine::state::Machine::step` meets its contract: its words are packed, done with where they stand, and unpacked. Assumes nothing.
use Rattle.std.proofs.Common.{rules}
use Rattle.machine.proofs.ByValue.{stepped_by_value}
use Rattle.machine.proofs.state.Machine.step.Goals as goal

pub returns : goal.returns
returns c =
    let done = c in
    stepped_by_value _ _ _ _ _ _ (search rules) done.pack.ensures c.unpack.ensures _ _ _ _ _ done.step-line.ensures
