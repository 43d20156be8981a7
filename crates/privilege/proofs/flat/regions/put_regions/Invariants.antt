-- `privilege::flat::regions::put_regions` meets its contract. The loop's invariant: the first i regions are written. Assumes nothing.
use Rattle.std.proofs.Common.{◌≡◌, length}
use Rattle.common.specs.Lists.{over_to}
use Rattle.privilege.specs.Flat.{regions_at}
use Rattle.privilege.proofs.flat.regions.put_regions.Given as goal

abbrev pub invariant-loop-i : goal.invariant-loop-i
invariant-loop-i l =
    (regions_at l.words ≡ over_to l.i l.region-items (regions_at l.initial.words)) × (length l.words ≡ 24)
