-- `machine::flat::event::cache_write` meets its contract. Assumes nothing.
use Rattle.std.proofs.Common.{rules}
use Rattle.machine.proofs.Events.{write_reg_shows}
use Rattle.machine.proofs.flat.event.cache_write.Goals as goal

pub returns : goal.returns
returns c = search (write_reg_shows, rules)
