-- `privilege::flat::state::physical` meets its contract: translated, or not. Assumes nothing.
use Rattle.privilege.proofs.flat.States.{places}
use Rattle.std.proofs.Common.{rules}
use Rattle.privilege.proofs.flat.state.physical.Goals as goal

pub returns-then-sys-ne1 : goal.returns-then-sys-ne1
returns-then-sys-ne1 c = search (places, rules)

pub returns-then-sys-ne1-2 : goal.returns-then-sys-ne1-2
returns-then-sys-ne1-2 c = search (places, rules)

pub returns : goal.returns
returns c = search (places, rules)
