-- `script::padded` meets its contract. The loop's invariant: the bytes below `k` are the script's. Assumes nothing.
use Rattle.std.proofs.Common.{◌≡◌}
use Rattle.common.specs.Lists.{over_to}
use Rattle.script.specs.Image.{bytes_from}
use Rattle.script.proofs.padded.Given as goal

abbrev pub invariant-loop-k : goal.invariant-loop-k
invariant-loop-k g l =
    l.byte-items ≡ over_to l.k (bytes_from l.s l.at g.row.N) l.initial.byte-items
