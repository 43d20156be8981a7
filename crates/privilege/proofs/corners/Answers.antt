-- `privilege::corners` meets its contract: the figures are `Figures.antt`'s. Assumes nothing.
use Rattle.privilege.proofs.Figures.{corners_hold}
use Rattle.privilege.proofs.corners.Goals as goal

pub returns : goal.returns
returns c = corners_hold
