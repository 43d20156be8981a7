-- `privilege::state::SystemState::read_spots` meets its contract: inside a page the next byte has the next address. Assumes nothing.
use Rattle.std.proofs.Common.{arith, rules}
use Rattle.privilege.specs.Rows.Laws.{spot}
use Rattle.privilege.proofs.Places.{each_read}
use Rattle.privilege.proofs.Transfers.{word_read}
use Rattle.privilege.proofs.state.SystemState.read_spots.Goals as goal

pub returns-then-va : goal.returns-then-va
returns-then-va c = search word_read

pub returns : goal.returns
returns c = each_read _ _ _ (omega arith) _ _ (c.read_each.ensures (spot c.args.self c.args.va) (λ i r h k. search rules))
