-- `memory::span::put_word` meets its contract: a word is its bytes. Assumes nothing.
use Rattle.memory.proofs.Spans.{word_written}
use Rattle.memory.proofs.span.put_word.Goals as goal

pub returns : goal.returns
returns c = word_written _ _ _ _ _ _ c.put_bytes.ensures.all c.put_bytes.ensures.written c.to_be_bytes.ensures
