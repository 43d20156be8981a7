-- `privilege::flat::regions::one_grants` meets its contract: where it answers yes, one region holds all bytes. Assumes nothing.
use Rattle.std.proofs.Common.{rules}
use Rattle.common.specs.Cases.{absurd_eq}
use Rattle.privilege.proofs.flat.Tables.{granted_whole}
use Rattle.privilege.proofs.flat.regions.one_grants.Goals as goal

pub returns-then-len-gt-CPU_RESERVED_BASE : goal.returns-then-len-gt-CPU_RESERVED_BASE
returns-then-len-gt-CPU_RESERVED_BASE c = λ h. absurd_eq (cc)

pub returns-then-addr-len : goal.returns-then-addr-len
returns-then-addr-len c = λ h. absurd_eq (cc)

pub returns-then-grants : goal.returns-then-grants
returns-then-grants c = search (granted_whole, rules)

pub returns : goal.returns
returns c = λ h. absurd_eq (cc)
