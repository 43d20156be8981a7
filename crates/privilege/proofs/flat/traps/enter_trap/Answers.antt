-- `privilege::flat::traps::enter_trap` meets its contract: from user mode with the exchange, from supervisor mode without. Assumes nothing.
use Rattle.privilege.proofs.flat.Banks.{traps}
use Rattle.std.proofs.Common.{rules}
use Rattle.privilege.proofs.flat.traps.enter_trap.Goals as goal

pub returns-then-user-eq1 : goal.returns-then-user-eq1
returns-then-user-eq1 c = search (traps, rules)

pub returns-else-user-eq1 : goal.returns-else-user-eq1
returns-else-user-eq1 c = search (traps, rules)
