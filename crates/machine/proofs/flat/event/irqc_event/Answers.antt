-- `machine::flat::event::irqc_event` meets its contract. Assumes nothing.
use Rattle.std.proofs.Common.{rules}
use Rattle.machine.proofs.Events.{irqc_shows}
use Rattle.machine.proofs.flat.event.irqc_event.Goals as goal

pub returns : goal.returns
returns c = search (irqc_shows, rules)
