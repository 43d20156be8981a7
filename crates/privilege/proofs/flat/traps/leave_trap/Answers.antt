-- `privilege::flat::traps::leave_trap` meets its contract: user mode is entered only where PU is set and U is not. Assumes nothing.
use Rattle.privilege.proofs.flat.Banks.{traps}
use Rattle.std.proofs.Common.{rules}
use Rattle.privilege.proofs.flat.traps.leave_trap.Goals as goal

pub returns-then-user-eq1 : goal.returns-then-user-eq1
returns-then-user-eq1 c = search (traps, rules)

pub returns-then-pu-eq1 : goal.returns-then-pu-eq1
returns-then-pu-eq1 c = search (traps, rules)

pub returns : goal.returns
returns c = search (traps, rules)
