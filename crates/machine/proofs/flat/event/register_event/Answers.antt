-- `machine::flat::event::register_event` meets its contract. Assumes nothing.
use Rattle.std.proofs.Common.{rules}
use Rattle.machine.proofs.Events.{register_shows, register_refuses}
use Rattle.machine.proofs.flat.event.register_event.Goals as goal

pub returns-then-e-lt32 : goal.returns-then-e-lt32
returns-then-e-lt32 c = search (register_shows, register_refuses, rules)

pub returns : goal.returns
returns c = search (register_shows, register_refuses, rules)
