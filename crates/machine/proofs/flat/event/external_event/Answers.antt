-- `machine::flat::event::external_event` meets its contract. Assumes nothing.
use Rattle.std.proofs.Common.{rules}
use Rattle.machine.proofs.Events.{external_shows}
use Rattle.machine.proofs.flat.event.external_event.Goals as goal

pub returns : goal.returns
returns c = search (external_shows, rules)
