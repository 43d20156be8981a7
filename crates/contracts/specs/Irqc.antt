-- The interrupt controller, by value and lent: two outcomes that a contract of `irqc` admits coincide (`Settled.antt`).
use borrow.Fn.Read.{r_last}
use Rattle.contracts.specs.Settled.{Settled, Claim, 𝓛, mem, run}
use Rattle.irqc.specs.contracts as irqc

pub record Irqc : Type 0 where
  pub new : Settled irqc.IrqController.new.ended (λ κs a r e. Claim ((irqc.IrqController.new.clauses 𝓛 mem run κs a).ensures tt r e) (r_last _))
  pub reset : Settled irqc.IrqController.reset.ended (λ κs a r e. Claim ((irqc.IrqController.reset.clauses 𝓛 mem run κs a).ensures tt r e) (r_last _))
  pub pending : Settled irqc.IrqController.pending.ended (λ κs a r e. Claim ((irqc.IrqController.pending.clauses 𝓛 mem run κs a).ensures tt r e) (r_last _))
  pub enable_mask : Settled irqc.IrqController.enable_mask.ended (λ κs a r e. Claim ((irqc.IrqController.enable_mask.clauses 𝓛 mem run κs a).ensures tt r e) (r_last _))
  pub set_enable_mask : Settled irqc.IrqController.set_enable_mask.ended (λ κs a r e. Claim ((irqc.IrqController.set_enable_mask.clauses 𝓛 mem run κs a).ensures tt r e) (r_last _))
  pub set_source : Settled irqc.IrqController.set_source.ended (λ κs a r e. Claim ((irqc.IrqController.set_source.clauses 𝓛 mem run κs a).ensures tt r e) (r_last _))
  pub set_source_levels : Settled irqc.IrqController.set_source_levels.ended (λ κs a r e. Claim ((irqc.IrqController.set_source_levels.clauses 𝓛 mem run κs a).ensures tt r e) (r_last _))
  pub clear_pending : Settled irqc.IrqController.clear_pending.ended (λ κs a r e. Claim ((irqc.IrqController.clear_pending.clauses 𝓛 mem run κs a).ensures tt r e) (r_last _))
  pub irq_output : Settled irqc.IrqController.irq_output.ended (λ κs a r e. Claim ((irqc.IrqController.irq_output.clauses 𝓛 mem run κs a).ensures tt r e) (r_last _))
  pub read : Settled irqc.IrqController.read.ended (λ κs a r e. Claim ((irqc.IrqController.read.clauses 𝓛 mem run κs a).ensures tt r e) (r_last _))
  pub write : Settled irqc.IrqController.write.ended (λ κs a r e. Claim ((irqc.IrqController.write.clauses 𝓛 mem run κs a).ensures tt r e) (r_last _))
  pub lent_reset : Settled irqc.lent.irqc_lent_reset.ended (λ κs a r e. Claim ((irqc.lent.irqc_lent_reset.clauses 𝓛 mem run κs a).ensures tt r e) (r_last _))
  pub lent_pending : Settled irqc.lent.irqc_lent_pending.ended (λ κs a r e. Claim ((irqc.lent.irqc_lent_pending.clauses 𝓛 mem run κs a).ensures tt r e) (r_last _))
  pub lent_enable_mask : Settled irqc.lent.irqc_lent_enable_mask.ended (λ κs a r e. Claim ((irqc.lent.irqc_lent_enable_mask.clauses 𝓛 mem run κs a).ensures tt r e) (r_last _))
  pub lent_set_enable_mask : Settled irqc.lent.irqc_lent_set_enable_mask.ended (λ κs a r e. Claim ((irqc.lent.irqc_lent_set_enable_mask.clauses 𝓛 mem run κs a).ensures tt r e) (r_last _))
  pub lent_set_source : Settled irqc.lent.irqc_lent_set_source.ended (λ κs a r e. Claim ((irqc.lent.irqc_lent_set_source.clauses 𝓛 mem run κs a).ensures tt r e) (r_last _))
  pub lent_set_source_levels : Settled irqc.lent.irqc_lent_set_source_levels.ended (λ κs a r e. Claim ((irqc.lent.irqc_lent_set_source_levels.clauses 𝓛 mem run κs a).ensures tt r e) (r_last _))
  pub lent_clear_pending : Settled irqc.lent.irqc_lent_clear_pending.ended (λ κs a r e. Claim ((irqc.lent.irqc_lent_clear_pending.clauses 𝓛 mem run κs a).ensures tt r e) (r_last _))
  pub lent_irq_output : Settled irqc.lent.irqc_lent_irq_output.ended (λ κs a r e. Claim ((irqc.lent.irqc_lent_irq_output.clauses 𝓛 mem run κs a).ensures tt r e) (r_last _))
  pub lent_read : Settled irqc.lent.irqc_lent_read.ended (λ κs a r e. Claim ((irqc.lent.irqc_lent_read.clauses 𝓛 mem run κs a).ensures tt r e) (r_last _))
  pub lent_write : Settled irqc.lent.irqc_lent_write.ended (λ κs a r e. Claim ((irqc.lent.irqc_lent_write.clauses 𝓛 mem run κs a).ensures tt r e) (r_last _))
