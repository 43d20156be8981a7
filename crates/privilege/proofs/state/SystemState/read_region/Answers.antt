-- `privilege::state::SystemState::read_region` meets its contract: the number is no region's, or a field's. Assumes nothing.
use Rattle.std.proofs.lemmas.Result.{err_from_is_err_and}
use Rattle.std.proofs.Common.{◌≡◌, length, sym, ◌∙◌, arith, rules}
use Rattle.common.specs.Lists.{mapped_length}
use Rattle.privilege.proofs.Numbers.{field_bound, read_unknown, read_field}
use Rattle.privilege.proofs.state.SystemState.read_region.Goals as goal

pub returns-in_err-n : goal.returns-in_err-n
returns-in_err-n c =
    let p = err_from_is_err_and c.from_residual.result c.from_residual.ensures.1 in rw (p.1, p.2) (read_unknown c.args.self _ _ c.region_field.ensures _ c.in_err-n.ensures.ok_part c.in_err-n.ensures.value)

pub offset_bounds-self-n : goal.offset_bounds-self-n
offset_bounds-self-n c =
    let n : length c.args.self.regions ≡ 8 = search (rules, mapped_length) in
    omega (arith, field_bound _ _ _ (sym c.region_field.ensures ∙ c.in_ok-n.ensures.ok_part))

pub bounds-self-n : goal.bounds-self-n
bounds-self-n c =
    let n : length c.args.self.regions ≡ 8 = search (rules, mapped_length) in
    omega (arith, field_bound _ _ _ (sym c.region_field.ensures ∙ c.in_ok-n.ensures.ok_part))

pub returns : goal.returns
returns c = read_field c.args.self _ _ c.region_field.ensures _ _ _ c.in_ok-n.ensures.ok_part c.field.ensures
