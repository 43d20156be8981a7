-- `privilege::flat::access::check_regions` meets its contract. Assumes nothing.
use Rattle.privilege.proofs.flat.Permits.{regions_grant, regions_deny}
use Rattle.privilege.proofs.flat.access.check_regions.Goals as goal

pub returns-then-all_allowed : goal.returns-then-all_allowed
returns-then-all_allowed c = search regions_grant

pub returns : goal.returns
returns c = search regions_deny
