-- A new machine, part by part. Assumes nothing.
use Rattle.std.proofs.Common.{◌≡◌, ℕ, replicate}
use Rattle.cache.specs.Cache.{new_cache}
use Rattle.cache.specs.declared.L1Cache.{L1Cache}
use Rattle.irqc.specs.Irqc.{new_controller}
use Rattle.irqc.specs.declared.IrqController.{IrqController}
use Rattle.privilege.specs.State.{new_state}
use Rattle.privilege.specs.declared.state.SystemState.{SystemState}
use Rattle.machine.specs.State.{new_machine}

pub new_is : (base n penalty : ℕ) (c : L1Cache) (s : SystemState) (i : IrqController) → c ≡ new_cache base n → s ≡ new_state → i ≡ new_controller
    → record {
      sys = s;
      cache = record { i = c.i; d = c.d; ram_start = c.ram_start; ram_end = c.ram_end; miss_penalty = penalty };
      irqc = i;
      reg = replicate 32 0;
    } ≡ new_machine base n penalty
unfolding new_machine
new_is base n penalty c s i h g f = rw (h, g, f)
