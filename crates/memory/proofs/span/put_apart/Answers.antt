-- `memory::span::put_apart` meets its contract. The loop's invariant: the whole write is the write of the bytes from `i` on. Assumes nothing.
use Rattle.std.proofs.Common.{rules}
use Rattle.memory.proofs.Spans.{apart_next, apart_done}
use Rattle.memory.proofs.span.put_apart.Goals as goal

pub loop-i-preserved : goal.loop-i-preserved
loop-i-preserved g c = search (apart_next, rules)

pub returns : goal.returns
returns g c = search (apart_done, rules)
