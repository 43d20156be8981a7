-- `memory::span::read_half` meets its contract: the half lies in the map, or some of it does not. Assumes nothing.
use Rattle.std.proofs.Common.{rules}
use Rattle.memory.proofs.Spans.{half_missing, half_read}
use Rattle.memory.proofs.span.read_half.Goals as goal

pub returns-in_err-bytes : goal.returns-in_err-bytes
returns-in_err-bytes c = search (half_missing, rules)

pub returns : goal.returns
returns c = search (half_read, rules)
