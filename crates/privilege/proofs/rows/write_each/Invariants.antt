-- `privilege::rows::write_each` meets its contract. The loop's invariant: the whole write is the write of the bytes from byte `i` on into what
-- the memory has become, and all are inside if those so far were and those left are. Assumes nothing.
use Rattle.std.proofs.Common.{◌≡◌, ℕ, ◌-◌, ◌&&◌}
use Rattle.common.specs.Bytes.{bytes_of}
use Rattle.memory.specs.Memory.{lent, put_at, all_writable}
use Rattle.privilege.specs.Rows.{places_by, Stands}
use Rattle.privilege.proofs.rows.write_each.Given as goal

abbrev pub invariant-loop-i : goal.invariant-loop-i
invariant-loop-i g l =
    record {
      rest : (at : ℕ → ℕ) → Stands (goal.F-post g l.place) at
          → put_at (lent l.base l.initial.mem) (places_by at 0 l.size) (bytes_of l.size l.value) ≡ put_at (lent l.base l.mem) (places_by at l.i (l.size - l.i)) (bytes_of (l.size - l.i) l.value);
      inside : (at : ℕ → ℕ) → Stands (goal.F-post g l.place) at
          → all_writable (lent l.base l.initial.mem) (places_by at 0 l.size) ≡ (l.all && all_writable (lent l.base l.mem) (places_by at l.i (l.size - l.i)));
    }
