-- The privilege state: two outcomes that a contract of `privilege` admits coincide (`Settled.antt`).
use Rattle.std.specs.Prelude.{ℕ, List}
use borrow.Fn.Read.{r_last}
use Rattle.contracts.specs.Settled.{Settled, SettledAs, Claim, 𝓛, mem, run}
use Rattle.contracts.specs.Words.{SameWords}
use Rattle.privilege.specs.contracts as privilege
use Rattle.privilege.specs.Flat.{system_words, sys_at, reg_at}
use Rattle.privilege.specs.declared.state.SystemState.{SystemState}

pub record Privilege : Type 0 where
  pub data_size : Settled privilege.check.data_size.ended (λ κs a r e. Claim ((privilege.check.data_size.clauses 𝓛 mem run κs a).ensures tt r e) (r_last _))
  pub translating : Settled privilege.state.SystemState.translating.ended (λ κs a r e. Claim ((privilege.state.SystemState.translating.clauses 𝓛 mem run κs a).ensures tt r e) (r_last _))
  pub allows : Settled privilege.state.SystemState.allows.ended (λ κs a r e. Claim ((privilege.state.SystemState.allows.clauses 𝓛 mem run κs a).ensures tt r e) (r_last _))
  pub check_access : Settled privilege.state.SystemState.check_access.ended (λ κs a r e. Claim ((privilege.state.SystemState.check_access.clauses 𝓛 mem run κs a).ensures tt r e) (r_last _))
  pub debug_translate : Settled privilege.state.SystemState.debug_translate.ended (λ κs a r e. Claim ((privilege.state.SystemState.debug_translate.clauses 𝓛 mem run κs a).ensures tt r e) (r_last _))
  pub tlb_entry : Settled privilege.state.SystemState.tlb_entry.ended (λ κs a r e. Claim ((privilege.state.SystemState.tlb_entry.clauses 𝓛 mem run κs a).ensures tt r e) (r_last _))
  pub grants : Settled privilege.region.Region.grants.ended (λ κs a r e. Claim ((privilege.region.Region.grants.clauses 𝓛 mem run κs a).ensures tt r e) (r_last _))
  pub field : Settled privilege.region.Region.field.ended (λ κs a r e. Claim ((privilege.region.Region.field.clauses 𝓛 mem run κs a).ensures tt r e) (r_last _))
  pub with_field : Settled privilege.region.Region.with_field.ended (λ κs a r e. Claim ((privilege.region.Region.with_field.clauses 𝓛 mem run κs a).ensures tt r e) (r_last _))
  pub write_field : Settled privilege.region.write_field.ended (λ κs a r e. Claim ((privilege.region.write_field.clauses 𝓛 mem run κs a).ensures tt r e) (r_last _))
  pub all_allowed : Settled privilege.region.all_allowed.ended (λ κs a r e. Claim ((privilege.region.all_allowed.clauses 𝓛 mem run κs a).ensures tt r e) (r_last _))
  pub region_field : Settled privilege.registers.region_field.ended (λ κs a r e. Claim ((privilege.registers.region_field.clauses 𝓛 mem run κs a).ensures tt r e) (r_last _))
  pub read_sr : Settled privilege.state.SystemState.read_sr.ended (λ κs a r e. Claim ((privilege.state.SystemState.read_sr.clauses 𝓛 mem run κs a).ensures tt r e) (r_last _))
  pub write_sr : Settled privilege.state.SystemState.write_sr.ended (λ κs a r e. Claim ((privilege.state.SystemState.write_sr.clauses 𝓛 mem run κs a).ensures tt r e) (r_last _))
  pub is_short : Settled privilege.state.is_short.ended (λ κs a r e. Claim ((privilege.state.is_short.clauses 𝓛 mem run κs a).ensures tt r e) (r_last _))
  pub mode_of : Settled privilege.state.mode_of.ended (λ κs a r e. Claim ((privilege.state.mode_of.clauses 𝓛 mem run κs a).ensures tt r e) (r_last _))
  pub new : Settled privilege.state.SystemState.new.ended (λ κs a r e. Claim ((privilege.state.SystemState.new.clauses 𝓛 mem run κs a).ensures tt r e) (r_last _))
  pub status : Settled privilege.state.SystemState.status.ended (λ κs a r e. Claim ((privilege.state.SystemState.status.clauses 𝓛 mem run κs a).ensures tt r e) (r_last _))
  pub with_status : Settled privilege.state.SystemState.with_status.ended (λ κs a r e. Claim ((privilege.state.SystemState.with_status.clauses 𝓛 mem run κs a).ensures tt r e) (r_last _))
  pub set_status : Settled privilege.state.SystemState.set_status.ended (λ κs a r e. Claim ((privilege.state.SystemState.set_status.clauses 𝓛 mem run κs a).ensures tt r e) (r_last _))
  pub join : Settled privilege.transfer.join.ended (λ κs a r e. Claim ((privilege.transfer.join.clauses 𝓛 mem run κs a).ensures tt r e) (r_last _))
  pub physical : Settled privilege.state.SystemState.physical.ended (λ κs a r e. Claim ((privilege.state.SystemState.physical.clauses 𝓛 mem run κs a).ensures tt r e) (r_last _))
  pub read_data : Settled privilege.state.SystemState.read_data.ended (λ κs a r e. Claim ((privilege.state.SystemState.read_data.clauses 𝓛 mem run κs a).ensures tt r e) (r_last _))
  pub write_data : Settled privilege.state.SystemState.write_data.ended (λ κs a r e. Claim ((privilege.state.SystemState.write_data.clauses 𝓛 mem run κs a).ensures tt r e) (r_last _))
  pub swap_bank : Settled privilege.state.SystemState.swap_bank.ended (λ κs a r e. Claim ((privilege.state.SystemState.swap_bank.clauses 𝓛 mem run κs a).ensures tt r e) (r_last _))
  pub enter_trap : Settled privilege.state.SystemState.enter_trap.ended (λ κs a r e. Claim ((privilege.state.SystemState.enter_trap.clauses 𝓛 mem run κs a).ensures tt r e) (r_last _))
  pub leave_trap : Settled privilege.state.SystemState.leave_trap.ended (λ κs a r e. Claim ((privilege.state.SystemState.leave_trap.clauses 𝓛 mem run κs a).ensures tt r e) (r_last _))
  pub read_rows : Settled privilege.rows.read_rows.ended (λ κs a r e. Claim ((privilege.rows.read_rows.clauses 𝓛 mem run κs a).ensures tt r e) (r_last _))
  pub write_rows : Settled privilege.rows.write_rows.ended (λ κs a r e. Claim ((privilege.rows.write_rows.clauses 𝓛 mem run κs a).ensures tt r e) (r_last _))

-- the privilege state and R0 to R31
abbrev pub state_at : List ℕ → SystemState × List ℕ
state_at l = (sys_at l, reg_at l)

-- where their words stand
pub record PrivilegeFlat : Type 0 where
  pub check_access : SettledAs privilege.flat.access.check_access.ended (λ κs a r e. Claim ((privilege.flat.access.check_access.clauses 𝓛 mem run κs a).ensures tt r e) (r_last _)) (λ κs a. SameWords system_words state_at a.0.now)
  pub grant_word : SettledAs privilege.flat.access.grant_word.ended (λ κs a r e. Claim ((privilege.flat.access.grant_word.clauses 𝓛 mem run κs a).ensures tt r e) (r_last _)) (λ κs a. SameWords system_words state_at a.0.now)
  pub enter_trap : SettledAs privilege.flat.traps.enter_trap.ended (λ κs a r e. Claim ((privilege.flat.traps.enter_trap.clauses 𝓛 mem run κs a).ensures tt r e) (r_last _)) (λ κs a. SameWords system_words state_at a.0.now)
  pub leave_trap : SettledAs privilege.flat.traps.leave_trap.ended (λ κs a r e. Claim ((privilege.flat.traps.leave_trap.clauses 𝓛 mem run κs a).ensures tt r e) (r_last _)) (λ κs a. SameWords system_words state_at a.0.now)
  pub read_sr : Settled privilege.flat.registers.read_sr.ended (λ κs a r e. Claim ((privilege.flat.registers.read_sr.clauses 𝓛 mem run κs a).ensures tt r e) (r_last _))
  pub write_sr : SettledAs privilege.flat.registers.write_sr.ended (λ κs a r e. Claim ((privilege.flat.registers.write_sr.clauses 𝓛 mem run κs a).ensures tt r e) (r_last _)) (λ κs a. SameWords system_words state_at a.0.now)
  pub physical : Settled privilege.flat.state.physical.ended (λ κs a r e. Claim ((privilege.flat.state.physical.clauses 𝓛 mem run κs a).ensures tt r e) (r_last _))
  pub set_reg : SettledAs privilege.flat.state.set_reg.ended (λ κs a r e. Claim ((privilege.flat.state.set_reg.clauses 𝓛 mem run κs a).ensures tt r e) (r_last _)) (λ κs a. SameWords system_words state_at a.0.now)
  pub reset : SettledAs privilege.flat.state.reset.ended (λ κs a r e. Claim ((privilege.flat.state.reset.clauses 𝓛 mem run κs a).ensures tt r e) (r_last _)) (λ κs a. SameWords system_words state_at a.0.now)
  pub pack : SettledAs privilege.flat.state.pack.ended (λ κs a r e. Claim ((privilege.flat.state.pack.clauses 𝓛 mem run κs a).ensures tt r e) (r_last _)) (λ κs a. SameWords system_words state_at a.0.now)
  pub unpack : Settled privilege.flat.state.unpack.ended (λ κs a r e. Claim ((privilege.flat.state.unpack.clauses 𝓛 mem run κs a).ensures tt r e) (r_last _))
  pub unpack_reg : Settled privilege.flat.state.unpack_reg.ended (λ κs a r e. Claim ((privilege.flat.state.unpack_reg.clauses 𝓛 mem run κs a).ensures tt r e) (r_last _))
