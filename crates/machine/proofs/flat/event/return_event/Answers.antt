-- `machine::flat::event::return_event` meets its contract. Assumes nothing.
use Rattle.std.proofs.Common.{rules}
use Rattle.machine.proofs.Events.{return_shows}
use Rattle.machine.proofs.flat.event.return_event.Goals as goal

pub returns : goal.returns
returns c = search (return_shows, rules)
