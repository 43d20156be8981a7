-- `privilege::flat::state::put_status` meets its contract, word by word. Assumes nothing.
use Rattle.std.proofs.Common.{rules}
use Rattle.privilege.proofs.flat.States.{wholes}
use Rattle.privilege.proofs.flat.state.put_status.Goals as goal

pub returns : goal.returns
returns c = search (wholes, rules)
