-- `privilege::flat::regions::end_at` meets its contract: the end is a region's second word. Assumes nothing.
use Rattle.std.proofs.Common.{rules}
use Rattle.privilege.proofs.flat.Tables.{region_end}
use Rattle.privilege.proofs.flat.regions.end_at.Goals as goal

pub returns : goal.returns
returns c = search (region_end, rules)
