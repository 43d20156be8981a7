-- `privilege::flat::access::check_access` meets its contract: let in and checked, or refused. Assumes nothing.
use Rattle.std.proofs.Common.{rules, ◌≡◌, length, ap, ◌∙◌}
use Rattle.privilege.proofs.flat.Permits.{legal_small, permit_good, permit_refused, permits_over}
use Rattle.privilege.proofs.flat.access.check_access.Goals as goal

pub check_legal-requires : goal.check_legal-requires
check_legal-requires c =
    let p = c in
    let small = legal_small _ _ _ _ p.legal_size.ensures _ c.in-Ok.ensures in
    (small.0, small.1)

pub returns-in-Ok : goal.returns-in-Ok
returns-in-Ok c =
    let w = c.in-Some.ensures.cases in
    let long : length c.in-Some.sys.now ≡ 135 = ap length w.same ∙ w.long in
    permits_over _ _ _ _ _ _ _ _ w.same (permit_good _ c.in-Some.sys.now _ _ _ _ long _ c.legal_size.ensures _ _ c.in-Ok.ensures (search rules) c.check_legal.ensures)

pub returns-in-Err : goal.returns-in-Err
returns-in-Err c =
    let w = c.in-Some.ensures.cases in
    let long : length c.in-Some.sys.now ≡ 135 = ap length w.same ∙ w.long in
    permits_over _ _ _ _ _ _ _ _ w.same (permit_refused _ c.in-Some.sys.now _ _ _ _ long _ c.legal_size.ensures _ c.in-Err.ensures c.refused-in-Err.ensures)
