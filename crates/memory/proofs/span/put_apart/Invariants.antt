-- `memory::span::put_apart` meets its contract. The loop's invariant: the whole write is the write of the bytes from `i` on. Assumes nothing.
use Rattle.std.proofs.Common.{◌≡◌, ◌+◌, ◌-◌, drop}
use Rattle.memory.specs.Memory.{lent, put_at}
use Rattle.memory.specs.Span.{spots}
use Rattle.memory.proofs.span.put_apart.Given as goal

abbrev pub invariant-loop-i : goal.invariant-loop-i
invariant-loop-i g l =
    (put_at (lent l.base l.initial.mem) (spots l.i-end l.addr) l.byte-items).bytes
    ≡ (put_at (lent l.base l.mem) (spots (l.i-end - l.i) (l.addr + l.i)) (drop l.i l.byte-items)).bytes
