-- `privilege::flat::state::set_reg` meets its contract: there is such a register, or nothing is set. Assumes nothing.
use Rattle.privilege.proofs.flat.States.{wholes}
use Rattle.std.proofs.Common.{rules}
use Rattle.privilege.proofs.flat.state.set_reg.Goals as goal

pub returns-then-sys-ne-SYSTEM_WORDS : goal.returns-then-sys-ne-SYSTEM_WORDS
returns-then-sys-ne-SYSTEM_WORDS c = search (wholes, rules)

pub returns-then-index-ge32 : goal.returns-then-index-ge32
returns-then-index-ge32 c = search (wholes, rules)

pub returns : goal.returns
returns c = search (wholes, rules)
