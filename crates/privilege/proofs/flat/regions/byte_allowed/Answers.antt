-- `privilege::flat::regions::byte_allowed` meets its contract. Assumes nothing.
use Rattle.privilege.proofs.Regions.{byte_reserved, byte_by_regions}
use Rattle.privilege.proofs.flat.regions.byte_allowed.Goals as goal

pub returns-then-addr-ge-CPU_RESERVED_BASE : goal.returns-then-addr-ge-CPU_RESERVED_BASE
returns-then-addr-ge-CPU_RESERVED_BASE c = search byte_reserved

pub returns : goal.returns
returns c = search byte_by_regions
