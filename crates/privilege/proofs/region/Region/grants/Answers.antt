-- `privilege::region::Region::grants` meets its contract: the mask tests the access's bit, and the two ends are the definition's. Assumes nothing.
use Rattle.privilege.proofs.Regions.{not_granted, before_start, by_end}
use Rattle.privilege.proofs.region.Region.grants.Goals as goal

pub returns-then-self-region_bit-eq0 : goal.returns-then-self-region_bit-eq0
returns-then-self-region_bit-eq0 c = search not_granted

pub returns-then-addr-self : goal.returns-then-addr-self
returns-then-addr-self c = search before_start

pub returns : goal.returns
returns c = search by_end
