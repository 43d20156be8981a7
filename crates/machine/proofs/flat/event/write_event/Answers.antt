-- `machine::flat::event::write_event` meets its contract. Assumes nothing.
use Rattle.std.proofs.Common.{rules}
use Rattle.machine.proofs.Events.{write_shows, write_refuses}
use Rattle.machine.proofs.flat.event.write_event.Goals as goal

pub returns-in-Ok : goal.returns-in-Ok
returns-in-Ok c = search (write_shows, write_refuses, rules)

pub returns-in-Err : goal.returns-in-Err
returns-in-Err c = search (write_shows, write_refuses, rules)
