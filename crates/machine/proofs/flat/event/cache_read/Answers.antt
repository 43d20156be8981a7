-- `machine::flat::event::cache_read` meets its contract. Assumes nothing.
use Rattle.std.proofs.Common.{rules}
use Rattle.machine.proofs.Events.{cache_reads}
use Rattle.machine.proofs.flat.event.cache_read.Goals as goal

pub returns : goal.returns
returns c = search (cache_reads, rules)
