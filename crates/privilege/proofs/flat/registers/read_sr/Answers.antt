-- `privilege::flat::registers::read_sr` meets its contract: each arm is the definition's case of that number. Assumes nothing.
use Rattle.privilege.proofs.flat.Numbers.{reads, reads_as, read_unnamed}
use Rattle.std.proofs.Common.{rules, ◌≡◌, length, ap, ◌∙◌}
use Rattle.privilege.proofs.flat.registers.read_sr.Goals as goal

pub returns-in-0 : goal.returns-in-0
returns-in-0 c = search (reads, rules)

pub returns-in-1 : goal.returns-in-1
returns-in-1 c = search (reads, rules)

pub returns-in-2 : goal.returns-in-2
returns-in-2 c = search (reads, rules)

pub returns-in-8 : goal.returns-in-8
returns-in-8 c = search (reads, rules)

pub returns-in-9 : goal.returns-in-9
returns-in-9 c = search (reads, rules)

pub returns-in-10 : goal.returns-in-10
returns-in-10 c = search (reads, rules)

pub returns-in-64 : goal.returns-in-64
returns-in-64 c = search (reads, rules)

pub returns-in-65 : goal.returns-in-65
returns-in-65 c = search (reads, rules)

pub returns-in-66 : goal.returns-in-66
returns-in-66 c = search (reads, rules)

pub returns-in-67 : goal.returns-in-67
returns-in-67 c = search (reads, rules)

pub returns-in-68 : goal.returns-in-68
returns-in-68 c = search (reads, rules)

pub returns-in_default-sr : goal.returns-in_default-sr
returns-in_default-sr c =
    let w = c.in-Some.ensures.cases in
    let long : length c.in-Some.sys.now ≡ 135 = ap length w.same ∙ w.long in
    reads_as _ _ _ _ w.same (read_unnamed _ _ long _ (search rules) c.read_region.ensures)
