-- `machine::flat::event::reset_event` meets its contract. Assumes nothing.
use Rattle.std.proofs.Common.{rules}
use Rattle.machine.proofs.Events.{reset_shows}
use Rattle.machine.proofs.flat.event.reset_event.Goals as goal

pub returns : goal.returns
returns c =
    let put = c in
    let cache = put in
    let sys = cache in
    reset_shows _ _ (search rules) (search rules) sys.reset.ensures _ _ _ _ (search rules) cache.reset-2.ensures put.new.ensures put.put_controller.ensures c.show.ensures
