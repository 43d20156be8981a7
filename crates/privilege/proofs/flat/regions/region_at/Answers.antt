-- `privilege::flat::regions::region_at` meets its contract: region n starts at place 3 n. Assumes nothing.
use Rattle.privilege.specs.Flat.Laws.{region_at_lem}
use Rattle.std.proofs.Common.{rules}
use Rattle.privilege.proofs.flat.regions.region_at.Goals as goal

pub returns : goal.returns
returns c = search (region_at_lem, rules)
