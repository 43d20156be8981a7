-- `privilege::flat::registers::status` meets its contract. Assumes nothing.
use Rattle.privilege.proofs.flat.Numbers.{parts}
use Rattle.std.proofs.Common.{rules}
use Rattle.privilege.proofs.flat.registers.status.Goals as goal

pub returns : goal.returns
returns c = search (parts, rules)
