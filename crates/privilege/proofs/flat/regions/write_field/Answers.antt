-- `privilege::flat::regions::write_field` meets its contract. Assumes nothing.
use Rattle.privilege.proofs.flat.Tables.{written_in}
use Rattle.std.proofs.Common.{rules}
use Rattle.privilege.proofs.flat.regions.write_field.Goals as goal

pub returns : goal.returns
returns c = search (written_in, rules)
