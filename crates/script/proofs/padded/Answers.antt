-- `script::padded` meets its contract. The loop's invariant: the bytes below `k` are the script's. Assumes nothing.
use Rattle.std.proofs.Common.{sym, rules}
use Rattle.std.proofs.lemmas.List.{length-replicate}
use Rattle.common.specs.Lists.{over_to_none}
use Rattle.script.proofs.Copies.{padded_next, padded_done}
use Rattle.script.proofs.padded.Goals as goal

pub loop-k-init : goal.loop-k-init
loop-k-init g c = sym (over_to_none _ _)

pub loop-k-preserved : goal.loop-k-preserved
loop-k-preserved g c = search (padded_next, rules)

pub returns : goal.returns
returns g c = search (padded_done, length-replicate, rules)
