-- `memory::span::put_half` meets its contract: a half is its bytes. Assumes nothing.
use Rattle.memory.proofs.Spans.{half_written}
use Rattle.memory.proofs.span.put_half.Goals as goal

pub returns : goal.returns
returns c = half_written _ _ _ _ _ _ c.put_bytes.ensures.all c.put_bytes.ensures.written c.to_be_bytes.ensures
