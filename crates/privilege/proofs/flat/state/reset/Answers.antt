-- `privilege::flat::state::reset` meets its contract: its words are those of the new state. Assumes nothing.
use Rattle.privilege.proofs.flat.States.{wholes}
use Rattle.std.proofs.Common.{rules}
use Rattle.privilege.proofs.flat.state.reset.Goals as goal

pub returns-then-sys-ne-SYSTEM_WORDS : goal.returns-then-sys-ne-SYSTEM_WORDS
returns-then-sys-ne-SYSTEM_WORDS c = search (wholes, rules)

pub returns : goal.returns
returns c = search (wholes, rules)
