-- `memory::span::put_spot` meets its contract: the address is below the map, in it or above it. Assumes nothing.
use Rattle.memory.proofs.Places.{put_below, put_inside, put_above}
use Rattle.memory.proofs.span.put_spot.Goals as goal

pub returns-then-addr-first : goal.returns-then-addr-first
returns-then-addr-first c = put_below _ _ _ _ c.if-addr-first.true

pub returns-then-at-mem : goal.returns-then-at-mem
returns-then-at-mem c = put_inside _ _ _ _ c.if-addr-first.false c.if-at-mem.true

pub returns : goal.returns
returns c = put_above _ _ _ _ c.if-addr-first.false c.if-at-mem.false
