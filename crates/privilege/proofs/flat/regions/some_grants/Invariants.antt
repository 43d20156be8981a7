-- `privilege::flat::regions::some_grants` meets its contract. The loop's invariant: the whole search is the search from region `i` on.
-- Assumes nothing.
use Rattle.std.proofs.Common.{◌≡◌, drop}
use Rattle.privilege.specs.Region.{some_grants}
use Rattle.privilege.specs.Flat.{regions_at}
use Rattle.privilege.proofs.flat.regions.some_grants.Given as goal

abbrev pub invariant-loop-i : goal.invariant-loop-i
invariant-loop-i l =
    some_grants (regions_at l.regions) l.addr l.access ≡ some_grants (drop l.i (regions_at l.regions)) l.addr l.access
