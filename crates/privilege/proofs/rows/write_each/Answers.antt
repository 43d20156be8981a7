-- `privilege::rows::write_each` meets its contract. The loop's invariant: the whole write is the write of the bytes from byte `i` on into what
-- the memory has become, and all are inside if those so far were and those left are. Assumes nothing.
use Rattle.std.proofs.Common.{◌+◌, ◌-◌, refl, arith}
use Rattle.privilege.proofs.Places.{put_start, inside_start, put_on, inside_on, put_all, inside_all, byte_is}
use Rattle.privilege.proofs.rows.write_each.Goals as goal

pub loop-i-init : goal.loop-i-init
loop-i-init g c = record { rest = λ at s. put_start _ at _ _; inside = λ at s. inside_start _ at _ }

pub loop-i-preserved : goal.loop-i-preserved
loop-i-preserved g c =
    let is = byte_is c.args.value (4 - c.args.size + c.loop-i.i) (c.args.size - c.loop-i.i - 1) (omega arith) in
    let byte = rw (← c.to_be_bytes-bytes.ensures) at is in
    let put = c.put_place-all.ensures in
    record {
      rest = λ at s.
          put_on _ _ at _ _ _ _ _ _ c.loop-i-test.true (s _ _ (omega arith) c.place.ensures) byte put.1 _ (c.loop-i.invariant.rest at s);
      inside = λ at s.
          inside_on _ _ at _ _ _ _ _ _ c.loop-i-test.true (s _ _ (omega arith) c.place.ensures) byte put.1 _ _ _ _ (c.loop-i.invariant.inside at s) put.0 refl;
    }

pub returns : goal.returns
returns g c = λ at s. (inside_all _ _ at _ c.args.value _ c.loop-i-test.false _ _ (c.loop-i.invariant.inside at s), put_all _ _ at _ _ _ c.loop-i-test.false _ (c.loop-i.invariant.rest at s))
