-- `privilege::flat::regions::all_allowed` meets its contract: one region grants all bytes, or they are tested one by one. The loop's invariant: the whole test is the test of the bytes from byte `i` on.
-- Assumes nothing.
use Rattle.std.proofs.Common.{◌≡◌, ◌+◌, ◌-◌, ◌%◌, ◌^◌, sym, arith}
use Rattle.privilege.proofs.Regions.{no_byte_left, byte_allowed_lem, byte_denied}
use Rattle.privilege.proofs.flat.regions.all_allowed.Goals as goal

pub returns-then-one_grants : goal.returns-then-one_grants
returns-then-one_grants c = sym (c.one_grants.ensures c.if-one_grants.true)

pub loop-i-init : goal.loop-i-init
loop-i-init c =
    let n : c.args.len - 0 ≡ c.args.len = omega arith in
    let a : (c.args.addr + 0) % 2 ^ 32 ≡ c.args.addr = omega arith in
    rw (n, a)

pub loop-i-preserved : goal.loop-i-preserved
loop-i-preserved c = search byte_allowed_lem

pub returns-then-not-byte_allowed : goal.returns-then-not-byte_allowed
returns-then-not-byte_allowed c = search byte_denied

pub returns : goal.returns
returns c = search no_byte_left
