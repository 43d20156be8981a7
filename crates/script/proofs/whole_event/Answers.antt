-- `script::whole_event` meets its contract: the first twelve bytes from the place on. Assumes nothing.
use Rattle.script.proofs.Copies.{first_bytes}
use Rattle.script.proofs.whole_event.Goals as goal

pub returns : goal.returns
returns c =
    first_bytes c.args.s.now c.first_chunk.result c.in_ok-get.field-0.now c.args.at c.first_chunk.ensures.cases c.in_ok-get.ensures.lookup.0.2
