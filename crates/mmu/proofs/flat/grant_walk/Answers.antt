-- `mmu::flat::grant_walk` meets its contract: a leaf that grants, one that does not, none, or a word that could not be read. Assumes nothing.
use Rattle.mmu.proofs.Flats.{grantings}
use Rattle.std.proofs.Common.{rules}
use Rattle.mmu.proofs.flat.grant_walk.Goals as goal

pub returns-then-grants : goal.returns-then-grants
returns-then-grants c = search (grantings, rules)

pub returns-else-grants : goal.returns-else-grants
returns-else-grants c = search (grantings, rules)

pub returns-in-Err : goal.returns-in-Err
returns-in-Err c = search (grantings, rules)
