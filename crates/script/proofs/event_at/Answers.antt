-- `script::event_at` meets its contract: on the bytes that the event has in the script. Assumes nothing.
use Rattle.script.proofs.Bytes.{event_padded}
use Rattle.script.proofs.event_at.Goals as goal

pub returns-in-Some : goal.returns-in-Some
returns-in-Some c = let e = event_padded c.args.s.now c.args.at in cc (c.in-Some.ensures.1)

pub returns-in-None : goal.returns-in-None
returns-in-None c = let e = event_padded c.args.s.now c.args.at in cc
