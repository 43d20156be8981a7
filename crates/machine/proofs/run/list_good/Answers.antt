-- `machine::run::list_good` meets its contract. Assumes nothing.
use Rattle.machine.proofs.Runs.{good_run}
use Rattle.machine.proofs.run.list_good.Goals as goal

pub returns : goal.returns
returns c = good_run _ _ _ _ _ _ c.args.mem.now c.new-machine.ensures c.copy_image.ensures c.requires c.run-ran.ensures.place_after
