-- `script::decode` meets its contract. Assumes nothing.
use Rattle.script.proofs.Bytes.{event_of_bytes}
use Rattle.script.proofs.decode.Goals as goal

pub returns : goal.returns
returns c = search event_of_bytes
