-- `privilege::flat::regions::all_allowed` meets its contract: one region grants all bytes, or they are tested one by one. The loop's invariant: the whole test is the test of the bytes from byte `i` on.
-- Assumes nothing.
use Rattle.std.proofs.Common.{◌≡◌, ◌+◌, ◌-◌, ◌%◌, ◌^◌}
use Rattle.privilege.specs.Addresses.{addresses}
use Rattle.privilege.specs.Region.{all_allowed}
use Rattle.privilege.specs.Flat.{regions_at}
use Rattle.privilege.proofs.flat.regions.all_allowed.Given as goal

abbrev pub invariant-loop-i : goal.invariant-loop-i
invariant-loop-i l =
    all_allowed (regions_at l.regions) l.access (addresses l.len l.addr)
    ≡ all_allowed (regions_at l.regions) l.access (addresses (l.len - l.i) ((l.addr + l.i) % 2 ^ 32))
