-- `privilege::region::all_allowed` meets its contract: its regions are put into words. Assumes nothing.
use Rattle.privilege.proofs.flat.Tables.{allowed_in}
use Rattle.std.proofs.Common.{rules}
use Rattle.privilege.proofs.region.all_allowed.Goals as goal

pub returns : goal.returns
returns c = search (allowed_in, rules)
