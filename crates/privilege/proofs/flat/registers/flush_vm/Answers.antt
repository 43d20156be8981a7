-- `privilege::flat::registers::flush_vm` meets its contract. Assumes nothing.
use Rattle.privilege.proofs.flat.Numbers.{parts}
use Rattle.std.proofs.Common.{rules}
use Rattle.privilege.proofs.flat.registers.flush_vm.Goals as goal

pub returns : goal.returns
returns c = search (parts, rules)
