-- `privilege::flat::regions::one_grants` meets its contract: where it answers yes, one region holds all bytes. Assumes nothing.
use Rattle.std.proofs.Common.{◌-◌, ◌≤◌}
use Rattle.privilege.proofs.flat.regions.one_grants.Given as goal

abbrev pub invariant-loop-i : goal.invariant-loop-i
invariant-loop-i l =
    (l.len ≤ 0xFFFF_0000) × (l.addr ≤ 0xFFFF_0000 - l.len)
