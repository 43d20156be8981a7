-- `privilege::flat::registers::write_region` meets its contract: the number is no region's, or a field's. Assumes nothing.
use Rattle.std.proofs.lemmas.Result.{err_from_is_err_and}
use Rattle.privilege.proofs.flat.Numbers.{parts}
use Rattle.std.proofs.Common.{rules}
use Rattle.privilege.proofs.flat.registers.write_region.Goals as goal

pub returns-in_err-n : goal.returns-in_err-n
returns-in_err-n c =
    let p = err_from_is_err_and c.from_residual.result c.from_residual.ensures.1 in rw (p.1, p.2) (search (parts, rules))

pub write_field-requires : goal.write_field-requires
write_field-requires c = search (parts, rules)

pub returns : goal.returns
returns c = search (parts, rules)
