-- `machine::flat::state::controller` meets its contract. Assumes nothing.
use Rattle.std.proofs.Common.{rules}
use Rattle.machine.proofs.Words.{words}
use Rattle.machine.proofs.flat.state.controller.Goals as goal

pub returns : goal.returns
returns c = search (words, rules)
