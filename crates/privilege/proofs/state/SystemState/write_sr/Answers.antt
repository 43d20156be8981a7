-- `privilege::state::SystemState::write_sr` meets its contract: each arm is the definition's case of that number. Assumes nothing.
use Rattle.std.proofs.Common.{sym, ◌∙◌, arith, rules}
use Rattle.privilege.specs.Registers.{sr_written}
use Rattle.privilege.proofs.Numbers.{vctl_written, ptbr_written, vfault_written, tlbflush_written, tlbinv_written, write_other}
use Rattle.privilege.proofs.state.SystemState.write_sr.Goals as goal

pub returns-in-0 : goal.returns-in-0
unfolding sr_written
returns-in-0 c = c.done.ensures ∙ rw (c.set_status.ensures, c.in-0.is)

pub returns-in-1 : goal.returns-in-1
unfolding sr_written
returns-in-1 c = c.done-in-1.ensures ∙ rw c.in-1.is

pub returns-in-2 : goal.returns-in-2
unfolding sr_written
returns-in-2 c = c.done-in-2.ensures ∙ rw c.in-2.is

pub returns-in-8 : goal.returns-in-8
unfolding sr_written
returns-in-8 c = c.write_user.ensures ∙ rw c.in-8.is

pub returns-in-9 : goal.returns-in-9
unfolding sr_written
returns-in-9 c = c.write_user-in-9.ensures ∙ rw c.in-9.is

pub returns-in-10 : goal.returns-in-10
unfolding sr_written
returns-in-10 c = c.write_user-in-10.ensures ∙ rw c.in-10.is

pub returns-in-64 : goal.returns-in-64
returns-in-64 c = search vctl_written

pub returns-in-65 : goal.returns-in-65
returns-in-65 c = ptbr_written _ _ _ _ _ _ c.in-65.is (omega arith) c.flush-self.ensures c.done-in-65.ensures

pub returns-in-66 : goal.returns-in-66
returns-in-66 c = search vfault_written

pub returns-in-67 : goal.returns-in-67
returns-in-67 c = search tlbflush_written

pub returns-in-68 : goal.returns-in-68
returns-in-68 c = search tlbinv_written

pub returns-in_default : goal.returns-in_default
returns-in_default c = c.write_region.ensures ∙ sym (write_other _ _ _ (search rules) _)
