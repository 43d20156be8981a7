-- `cache::flat::invalidate_lines` meets its contract: the tags are swept where they stand. Assumes nothing.
use Rattle.cache.proofs.FlatBanks.{lines_swept}
use Rattle.cache.proofs.flat.invalidate_lines.Goals as goal

pub returns : goal.returns
returns c = search lines_swept
