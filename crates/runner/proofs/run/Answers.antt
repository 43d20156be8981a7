-- `runner::run` writes the listing of the input that it read.
use Rattle.std.proofs.Common.{rules}
use Rattle.runner.proofs.Whole.{shown}
use Rattle.runner.proofs.run.Goals as goal

pub returns-in-Ok : goal.returns-in-Ok
returns-in-Ok g c = shown _ _ _ _ c.read_script.new.script (search rules) c.in-Some.ensures.front c.in-Ok.ensures
