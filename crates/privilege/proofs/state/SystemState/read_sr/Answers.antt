-- `privilege::state::SystemState::read_sr` meets its contract: each arm is the definition's case of that number. Assumes nothing.
use Rattle.std.proofs.Common.{sym, ◌∙◌, rules}
use Rattle.privilege.specs.Registers.{sr_read}
use Rattle.privilege.proofs.Numbers.{read_other}
use Rattle.privilege.proofs.Numbers.{bool_number, read_other}
use Rattle.privilege.proofs.state.SystemState.read_sr.Goals as goal

pub returns-in-0 : goal.returns-in-0
unfolding sr_read
returns-in-0 c = rw (c.status.ensures, c.in-0.is)

pub returns-in-1 : goal.returns-in-1
unfolding sr_read
returns-in-1 c = rw c.in-1.is

pub returns-in-2 : goal.returns-in-2
unfolding sr_read
returns-in-2 c = rw c.in-2.is

pub returns-in-8 : goal.returns-in-8
unfolding sr_read
returns-in-8 c = rw (c.read_user.ensures, c.in-8.is)

pub returns-in-9 : goal.returns-in-9
unfolding sr_read
returns-in-9 c = rw (c.read_user-in-9.ensures, c.in-9.is)

pub returns-in-10 : goal.returns-in-10
unfolding sr_read
returns-in-10 c = rw (c.read_user-in-10.ensures, c.in-10.is)

pub returns-in-64 : goal.returns-in-64
unfolding sr_read
returns-in-64 c = rw (bool_number, c.in-64.is)

pub returns-in-65 : goal.returns-in-65
unfolding sr_read
returns-in-65 c = rw c.in-65.is

pub returns-in-66 : goal.returns-in-66
unfolding sr_read
returns-in-66 c = rw c.in-66.is

pub returns-in-67 : goal.returns-in-67
unfolding sr_read
returns-in-67 c = rw c.in-67.is

pub returns-in-68 : goal.returns-in-68
unfolding sr_read
returns-in-68 c = rw c.in-68.is

pub returns-in_default : goal.returns-in_default
returns-in_default c = c.read_region.ensures ∙ sym (read_other _ _ _ (search rules))
