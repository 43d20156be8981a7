-- `machine::state::Machine::run` meets its contract: its words are packed, done with where they stand, and unpacked. Assumes nothing.
use Rattle.std.proofs.Common.{rules}
use Rattle.machine.proofs.ByValue.{run_by_value}
use Rattle.machine.proofs.state.Machine.run.Goals as goal

pub returns : goal.returns
returns c =
    let q = run_by_value _ _ _ _ _ _ (search rules) c.pack.ensures c.unpack.ensures _ _ _ _ _ _ _ _ _ _ c.run-listed.ensures in
    record { machine_value = q.0; mem_after = q.1; place_after = q.2; totals_value = q.3 }
