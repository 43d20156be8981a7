-- `privilege::flat::state::put_tables` meets its contract. Assumes nothing.
use Rattle.privilege.proofs.flat.States.{wholes}
use Rattle.std.proofs.Common.{rules}
use Rattle.privilege.proofs.flat.state.put_tables.Goals as goal

pub returns : goal.returns
returns c = search (wholes, rules)
