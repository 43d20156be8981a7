-- `machine::flat::event::read_event` meets its contract. Assumes nothing.
use Rattle.std.proofs.Common.{rules}
use Rattle.machine.proofs.Events.{read_shows, read_refuses}
use Rattle.machine.proofs.flat.event.read_event.Goals as goal

pub returns-in-Ok : goal.returns-in-Ok
returns-in-Ok c = search (read_shows, read_refuses, rules)

pub returns-in-Err : goal.returns-in-Err
returns-in-Err c = search (read_shows, read_refuses, rules)
