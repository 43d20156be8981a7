-- `privilege::flat::regions::some_grants` meets its contract. The loop's invariant: the whole search is the search from region `i` on.
-- Assumes nothing.
use Rattle.std.proofs.Common.{refl, rules}
use Rattle.privilege.proofs.flat.Tables.{none_in, granted_in, not_in}
use Rattle.privilege.proofs.flat.regions.some_grants.Goals as goal

pub loop-i-init : goal.loop-i-init
loop-i-init c = refl

pub loop-i-preserved : goal.loop-i-preserved
loop-i-preserved c = search (not_in, rules)

pub returns-then-grants : goal.returns-then-grants
returns-then-grants c = search (granted_in, rules)

pub returns : goal.returns
returns c = search (none_in, rules)
