-- `privilege::flat::traps::save` meets its contract: the words that are written are those of the trap. Assumes nothing.
use Rattle.std.proofs.Common.{rules}
use Rattle.privilege.proofs.flat.Banks.{traps}
use Rattle.privilege.proofs.flat.traps.save.Goals as goal

pub returns : goal.returns
returns c = search (traps, rules)
