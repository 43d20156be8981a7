-- `privilege::rows::read_each` meets its contract. The loop's invariant: the whole read is the read of the bytes from byte `i` on, after those
-- that `value` has; and `value` is no larger than its bytes can make it. Assumes nothing.
use Rattle.std.proofs.Common.{◌≡◌, ℕ, ◌-◌, ◌^◌, ◌<◌}
use Rattle.memory.specs.Memory.{lent, read_at}
use Rattle.memory.specs.Memory.Bytewise.{read_on}
use Rattle.privilege.specs.Rows.{places_by, Stands}
use Rattle.privilege.proofs.rows.read_each.Given as goal

abbrev pub invariant-loop-i : goal.invariant-loop-i
invariant-loop-i g l =
    record {
      rest : (at : ℕ → ℕ) → Stands (goal.F-post g l.place) at
          → read_at (lent l.base l.mem) (places_by at 0 l.size) ≡ read_on (lent l.base l.mem) l.value (places_by at l.i (l.size - l.i));
      small : l.value < 256 ^ l.i;
    }
