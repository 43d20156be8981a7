-- `privilege::flat::registers::set_status` meets its contract: the bits written are the definition's. Assumes nothing.
use Rattle.privilege.proofs.flat.Numbers.{parts}
use Rattle.std.proofs.Common.{rules}
use Rattle.privilege.proofs.flat.registers.set_status.Goals as goal

pub returns : goal.returns
returns c = search (parts, rules)
