-- The parts and the machine under C names: two outcomes that a contract of `bridge` admits coincide (`Settled.antt`).
use borrow.Fn.Read.{r_last, r_join}
use Rattle.contracts.specs.Settled.{Settled, SettledAs, Claim, 𝓛, mem, run}
use Rattle.contracts.specs.Words.{SameState}
use Rattle.machine.specs.Flat.{machine_at}
use Rattle.bridge.specs.contracts as bridge

pub record Bridge : Type 0 where
  pub cache_new : Settled bridge.cache_calls.cache_new.ended (λ κs a r e. Claim ((bridge.cache_calls.cache_new.clauses 𝓛 mem run κs a).ensures tt r e) (r_last _))
  pub cache_set_penalty : Settled bridge.cache_calls.cache_set_penalty.ended (λ κs a r e. Claim ((bridge.cache_calls.cache_set_penalty.clauses 𝓛 mem run κs a).ensures tt r e) (r_last _))
  pub cache_reset : Settled bridge.cache_calls.cache_reset.ended (λ κs a r e. Claim ((bridge.cache_calls.cache_reset.clauses 𝓛 mem run κs a).ensures tt r e) (r_last _))
  pub cache_fetch : Settled bridge.cache_calls.cache_fetch.ended (λ κs a r e. Claim ((bridge.cache_calls.cache_fetch.clauses 𝓛 mem run κs a).ensures tt r e) (r_last _))
  pub cache_load : Settled bridge.cache_calls.cache_load.ended (λ κs a r e. Claim ((bridge.cache_calls.cache_load.clauses 𝓛 mem run κs a).ensures tt r e) (r_last _))
  pub cache_store : Settled bridge.cache_calls.cache_store.ended (λ κs a r e. Claim ((bridge.cache_calls.cache_store.clauses 𝓛 mem run κs a).ensures tt r e) (r_last _))
  pub cache_external_write : Settled bridge.cache_calls.cache_external_write.ended (λ κs a r e. Claim ((bridge.cache_calls.cache_external_write.clauses 𝓛 mem run κs a).ensures tt r e) (r_last _))
  pub cache_lines_visited : Settled bridge.cache_calls.cache_lines_visited.ended (λ κs a r e. Claim ((bridge.cache_calls.cache_lines_visited.clauses 𝓛 mem run κs a).ensures tt r e) (r_last _))
  pub cache_read_reg : Settled bridge.cache_calls.cache_read_reg.ended (λ κs a r e. Claim ((bridge.cache_calls.cache_read_reg.clauses 𝓛 mem run κs a).ensures tt r e) (r_last _))
  pub cache_write_reg : Settled bridge.cache_calls.cache_write_reg.ended (λ κs a r e. Claim ((bridge.cache_calls.cache_write_reg.clauses 𝓛 mem run κs a).ensures tt r e) (r_last _))
  pub cache_read_byte : Settled bridge.cache_calls.cache_read_byte.ended (λ κs a r e. Claim ((bridge.cache_calls.cache_read_byte.clauses 𝓛 mem run κs a).ensures tt r e) (r_last _))
  pub cache_write_byte : Settled bridge.cache_calls.cache_write_byte.ended (λ κs a r e. Claim ((bridge.cache_calls.cache_write_byte.clauses 𝓛 mem run κs a).ensures tt r e) (r_last _))
  pub irqc_new : Settled bridge.irqc_calls.irqc_new.ended (λ κs a r e. Claim ((bridge.irqc_calls.irqc_new.clauses 𝓛 mem run κs a).ensures tt r e) (r_last _))
  pub irqc_reset : Settled bridge.irqc_calls.irqc_reset.ended (λ κs a r e. Claim ((bridge.irqc_calls.irqc_reset.clauses 𝓛 mem run κs a).ensures tt r e) (r_last _))
  pub irqc_set_source : Settled bridge.irqc_calls.irqc_set_source.ended (λ κs a r e. Claim ((bridge.irqc_calls.irqc_set_source.clauses 𝓛 mem run κs a).ensures tt r e) (r_last _))
  pub irqc_set_source_levels : Settled bridge.irqc_calls.irqc_set_source_levels.ended (λ κs a r e. Claim ((bridge.irqc_calls.irqc_set_source_levels.clauses 𝓛 mem run κs a).ensures tt r e) (r_last _))
  pub irqc_clear_pending : Settled bridge.irqc_calls.irqc_clear_pending.ended (λ κs a r e. Claim ((bridge.irqc_calls.irqc_clear_pending.clauses 𝓛 mem run κs a).ensures tt r e) (r_last _))
  pub irqc_set_enable_mask : Settled bridge.irqc_calls.irqc_set_enable_mask.ended (λ κs a r e. Claim ((bridge.irqc_calls.irqc_set_enable_mask.clauses 𝓛 mem run κs a).ensures tt r e) (r_last _))
  pub irqc_read : Settled bridge.irqc_calls.irqc_read.ended (λ κs a r e. Claim ((bridge.irqc_calls.irqc_read.clauses 𝓛 mem run κs a).ensures tt r e) (r_last _))
  pub irqc_write : Settled bridge.irqc_calls.irqc_write.ended (λ κs a r e. Claim ((bridge.irqc_calls.irqc_write.clauses 𝓛 mem run κs a).ensures tt r e) (r_last _))
  pub irqc_irq_output : Settled bridge.irqc_calls.irqc_irq_output.ended (λ κs a r e. Claim ((bridge.irqc_calls.irqc_irq_output.clauses 𝓛 mem run κs a).ensures tt r e) (r_last _))
  pub mmu_new : Settled bridge.mmu_calls.mmu_new.ended (λ κs a r e. Claim ((bridge.mmu_calls.mmu_new.clauses 𝓛 mem run κs a).ensures tt r e) (r_last _))
  pub mmu_flush : Settled bridge.mmu_calls.mmu_flush.ended (λ κs a r e. Claim ((bridge.mmu_calls.mmu_flush.clauses 𝓛 mem run κs a).ensures tt r e) (r_last _))
  pub mmu_invalidate : Settled bridge.mmu_calls.mmu_invalidate.ended (λ κs a r e. Claim ((bridge.mmu_calls.mmu_invalidate.clauses 𝓛 mem run κs a).ensures tt r e) (r_last _))
  pub mmu_lookup : Settled bridge.mmu_calls.mmu_lookup.ended (λ κs a r e. Claim ((bridge.mmu_calls.mmu_lookup.clauses 𝓛 mem run κs a).ensures tt r e) (r_last _))
  pub mmu_walk : Settled bridge.mmu_calls.mmu_walk.ended (λ κs a r e. Claim ((bridge.mmu_calls.mmu_walk.clauses 𝓛 mem run κs a).ensures tt r e) (r_last _))
  pub mmu_check : Settled bridge.mmu_calls.mmu_check.ended (λ κs a r e. Claim ((bridge.mmu_calls.mmu_check.clauses 𝓛 mem run κs a).ensures tt r e) (r_last _))
  pub exception_cause : Settled bridge.exception_calls.exception_cause.ended (λ κs a r e. Claim ((bridge.exception_calls.exception_cause.clauses 𝓛 mem run κs a).ensures tt r e) (r_last _))
  pub exception_vector : Settled bridge.exception_calls.exception_vector.ended (λ κs a r e. Claim ((bridge.exception_calls.exception_vector.clauses 𝓛 mem run κs a).ensures tt r e) (r_last _))
  pub machine_new : Settled bridge.machine_calls.machine_new.ended (λ κs a r e. Claim ((bridge.machine_calls.machine_new.clauses 𝓛 mem run κs a).ensures tt r e) (r_last _))
  pub access_of : Settled bridge.mmu_calls.access_of.ended (λ κs a r e. Claim ((bridge.mmu_calls.access_of.clauses 𝓛 mem run κs a).ensures tt r e) (r_last _))
  pub state_of : Settled bridge.privilege_calls.state_of.ended (λ κs a r e. Claim ((bridge.privilege_calls.state_of.clauses 𝓛 mem run κs a).ensures tt r e) (r_last _))
  pub state_numbers : Settled bridge.privilege_calls.state_numbers.ended (λ κs a r e. Claim ((bridge.privilege_calls.state_numbers.clauses 𝓛 mem run κs a).ensures tt r e) (r_last _))
  pub privilege_allows : Settled bridge.privilege_calls.privilege_allows.ended (λ κs a r e. Claim ((bridge.privilege_calls.privilege_allows.clauses 𝓛 mem run κs a).ensures tt r e) (r_last _))
  pub privilege_debug_translate : Settled bridge.privilege_calls.privilege_debug_translate.ended (λ κs a r e. Claim ((bridge.privilege_calls.privilege_debug_translate.clauses 𝓛 mem run κs a).ensures tt r e) (r_last _))
  pub privilege_tlb_entry : Settled bridge.privilege_calls.privilege_tlb_entry.ended (λ κs a r e. Claim ((bridge.privilege_calls.privilege_tlb_entry.clauses 𝓛 mem run κs a).ensures tt r e) (r_last _))

-- those that are lent memory or a buffer
pub record BridgeLent : Type 0 where
  pub machine_step : Settled bridge.machine_calls.machine_step.ended (λ κs a r e. Claim ((bridge.machine_calls.machine_step.clauses 𝓛 mem run κs a).ensures tt r e) (r_last _))
  pub machine_list : Settled bridge.machine_calls.machine_list.ended (λ κs a r e. Claim ((bridge.machine_calls.machine_list.clauses 𝓛 mem run κs a).ensures tt r e) (r_last _))
  pub machine_start : SettledAs bridge.lent_calls.machine_start.ended (λ κs a r e. Claim ((bridge.lent_calls.machine_start.clauses 𝓛 mem run κs a).ensures tt r e) (r_last _)) (λ κs a. SameState machine_at)
  pub machine_step_in : SettledAs bridge.lent_calls.machine_step_in.ended (λ κs a r e. Claim ((bridge.lent_calls.machine_step_in.clauses 𝓛 mem run κs a).ensures tt r e) (r_join _ _ (r_last _) (r_join _ _ (r_last _) (r_last _)))) (λ κs a. SameState machine_at)
