-- `privilege::flat::traps::exchange` meets its contract: R28 to R30 and the bank change places. Assumes nothing.
use Rattle.std.proofs.Common.{rules}
use Rattle.privilege.proofs.flat.Banks.{traps}
use Rattle.privilege.proofs.flat.traps.exchange.Goals as goal

pub returns : goal.returns
returns c = search (traps, rules)
