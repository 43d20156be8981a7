-- `mmu::tlb::invalidate` meets its contract. The loop's invariant: the entries so far are dropped, the others as they were.
-- Assumes nothing.
use Rattle.std.proofs.Common.{sym, rules}
use Rattle.common.specs.Lists.{map_to_none, map_to_next, map_to_done}
use Rattle.mmu.specs.Tlb.{dropped, dropped_page}
use Rattle.mmu.proofs.tlb.invalidate.Goals as goal

pub loop-entry-init : goal.loop-entry-init
loop-entry-init c = sym (map_to_none (dropped c.args.vpn) c.args.tlb)

pub loop-entry-preserved : goal.loop-entry-preserved
loop-entry-preserved c =
    let a = c.args in
    let l = c.loop-entry in
    map_to_next (dropped a.vpn) a.tlb l.entry-items l.entry-index _ c.drop_mark.result (search rules) l.invariant c.drop_mark.ensures

pub returns : goal.returns
unfolding dropped_page
returns c =
    let a = c.args in
    let l = c.loop-entry in
    map_to_done (dropped a.vpn) a.tlb l.entry-items l.entry-index (search rules) l.invariant
