-- `machine::flat::event::trap_event` meets its contract. Assumes nothing.
use Rattle.std.proofs.Common.{rules}
use Rattle.machine.proofs.Events.{trap_shows}
use Rattle.machine.proofs.flat.event.trap_event.Goals as goal

pub returns : goal.returns
returns c = search (trap_shows, rules)
