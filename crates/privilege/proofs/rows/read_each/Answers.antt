-- `privilege::rows::read_each` meets its contract. The loop's invariant: the whole read is the read of the bytes from byte `i` on, after those
-- that `value` has; and `value` is no larger than its bytes can make it. Assumes nothing.
use Rattle.std.proofs.Common.{◌<◌, refl, rules, arith}
use Rattle.privilege.proofs.Places.{read_start, room_for, value_fits, value_small, all_read, byte_read_lem, byte_missing}
use Rattle.privilege.proofs.rows.read_each.Goals as goal

pub loop-i-init : goal.loop-i-init
loop-i-init g c = record { rest = λ at s. read_start _ at _; small = omega arith }

pub overflow_mul-value : goal.overflow_mul-value
overflow_mul-value g c = search (room_for, rules)

pub returns-in_err-value : goal.returns-in_err-value
returns-in_err-value g c = λ at s.
    rw c.from_residual.ensures
    (byte_missing _ _ _ _ _ _ (c.loop-i.invariant.rest at s) _ _ c.loop-i-test.true (s _ _ (omega arith) c.place.ensures) c.in_err-value.ensures.value refl)

pub overflow_add-value : goal.overflow_add-value
overflow_add-value g c =
    let low : c.in_ok-value.field-0 < 256 = c.in_ok-value.ensures.by_index _ refl in
    search (value_fits, rules)

pub loop-i-preserved : goal.loop-i-preserved
loop-i-preserved g c =
    record {
      rest = λ at s.
          byte_read_lem _ _ _ _ _ _ (c.loop-i.invariant.rest at s) _ _ c.loop-i-test.true (s _ _ (omega arith) c.place.ensures) c.in_ok-value.ensures.value _ refl;
      small = value_small _ _ _ c.requires.small c.loop-i-test.true c.loop-i.invariant.small _ (c.in_ok-value.ensures.by_index _ refl);
    }

pub returns : goal.returns
returns g c = λ at s. all_read _ _ _ _ _ _ (c.loop-i.invariant.rest at s) c.loop-i-test.false
