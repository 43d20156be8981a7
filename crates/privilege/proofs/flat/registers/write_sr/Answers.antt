-- `privilege::flat::registers::write_sr` meets its contract: each arm is the definition's case of that number. Assumes nothing.
use Rattle.privilege.proofs.flat.Numbers.{writes, writes_as, write_usp, write_ufp, write_ugp, write_tlbinv, write_unnamed}
use Rattle.std.proofs.Common.{rules, ◌≡◌, length, ap, ◌∙◌}
use Rattle.privilege.proofs.flat.registers.write_sr.Goals as goal

pub returns-in-0 : goal.returns-in-0
returns-in-0 c = search (writes, rules)

pub returns-in-1 : goal.returns-in-1
returns-in-1 c = search (writes, rules)

pub returns-in-2 : goal.returns-in-2
returns-in-2 c = search (writes, rules)

pub returns-in-8 : goal.returns-in-8
returns-in-8 c =
    let w = c.in-Some.ensures.cases in
    let long : length c.in-Some.sys.now ≡ 135 = ap length w.same ∙ w.long in
    writes_as _ _ _ _ _ _ w.same (write_usp _ _ _ long _ _ (search rules) c.in-8.is c.write_user.ensures)

pub returns-in-9 : goal.returns-in-9
returns-in-9 c =
    let w = c.in-Some.ensures.cases in
    let long : length c.in-Some.sys.now ≡ 135 = ap length w.same ∙ w.long in
    writes_as _ _ _ _ _ _ w.same (write_ufp _ _ _ long _ _ (search rules) c.in-9.is c.write_user-in-9.ensures)

pub returns-in-10 : goal.returns-in-10
returns-in-10 c =
    let w = c.in-Some.ensures.cases in
    let long : length c.in-Some.sys.now ≡ 135 = ap length w.same ∙ w.long in
    writes_as _ _ _ _ _ _ w.same (write_ugp _ _ _ long _ _ (search rules) c.in-10.is c.write_user-in-10.ensures)

pub returns-in-64 : goal.returns-in-64
returns-in-64 c = search (writes, rules)

pub returns-in-65 : goal.returns-in-65
returns-in-65 c = search (writes, rules)

pub returns-in-66 : goal.returns-in-66
returns-in-66 c = search (writes, rules)

pub returns-in-67 : goal.returns-in-67
returns-in-67 c = search (writes, rules)

pub returns-in-68 : goal.returns-in-68
returns-in-68 c =
    let w = c.in-Some.ensures.cases in
    let long : length c.in-Some.sys.now ≡ 135 = ap length w.same ∙ w.long in
    writes_as _ _ _ _ _ _ w.same (write_tlbinv _ _ _ long _ _ c.in-68.is (search rules) c.invalidate.ensures)

pub returns-in_default-sr : goal.returns-in_default-sr
returns-in_default-sr c =
    let w = c.in-Some.ensures.cases in
    let long : length c.in-Some.sys.now ≡ 135 = ap length w.same ∙ w.long in
    writes_as _ _ _ _ _ _ w.same (write_unnamed _ _ _ long _ _ (search rules) (search rules) c.write_region.ensures)
