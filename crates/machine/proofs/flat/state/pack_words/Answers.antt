-- `machine::flat::state::pack_words` meets its contract. Assumes nothing.
use Rattle.std.proofs.Common.{rules}
use Rattle.machine.proofs.Words.{packed}
use Rattle.machine.proofs.flat.state.pack_words.Goals as goal

pub returns : goal.returns
returns c =
    let put = c in
    let cache = put in
    let sys = cache in
    packed _ _ _ (search rules) (search rules) sys.pack.ensures _ _ (search rules) cache.pack-2.ensures put.put_controller.ensures
