-- `privilege::flat::registers::write_user` meets its contract: from user mode the live register, else the saved one. Assumes nothing.
use Rattle.privilege.proofs.flat.Numbers.{parts}
use Rattle.std.proofs.Common.{rules}
use Rattle.privilege.proofs.flat.registers.write_user.Goals as goal

pub returns-then-sys-eq1 : goal.returns-then-sys-eq1
returns-then-sys-eq1 c = search (parts, rules)

pub returns : goal.returns
returns c = search (parts, rules)
