-- `privilege::flat::regions::regions_of` meets its contract. The loop's invariant: the first i regions are read. Assumes nothing.
use Rattle.std.proofs.Common.{◌≡◌}
use Rattle.common.specs.Lists.{over_to}
use Rattle.privilege.specs.Flat.{regions_at}
use Rattle.privilege.proofs.flat.regions.regions_of.Given as goal

abbrev pub invariant-loop-i : goal.invariant-loop-i
invariant-loop-i l =
    l.region-items ≡ over_to l.i (regions_at l.words) l.initial.region-items
