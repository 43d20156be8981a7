-- `memory::span::put_bytes` meets its contract: the bytes lie in the map, or they begin below the map or end above it. Assumes nothing.
use Rattle.std.proofs.Common.{rules}
use Rattle.memory.proofs.Spans.{run_written, run_all, run_below, run_above}
use Rattle.memory.proofs.span.put_bytes.Goals as goal
use Rattle.memory.proofs.span.put_bytes.Goals.{then-addr-base+else-at-mem, else-addr-base}

pub returns-then-at-mem-clause-written : goal.returns-then-at-mem-clause-written
returns-then-at-mem-clause-written g c = search (run_written, rules)

pub returns-then-at-mem-clause-all : goal.returns-then-at-mem-clause-all
returns-then-at-mem-clause-all g c = search (run_all, rules)

pub returns-clause-all : goal.returns-clause-all
returns-clause-all g c =
    elim c.if-addr-base.branch [ then-addr-base+else-at-mem w ↦ search (run_above, rules) | else-addr-base w ↦ search (run_below, rules) ]
