-- The machine's state: privilege state, cache, controller and R0 to R31. Memory is lent beside it.
--
--   new_machine base n penalty                == all parts new over a map of n bytes from `base` on; "Registers start at 0"
--   reset_of M                                == kind 13: "reset (memory and R0 to R31 kept)"; the cache keeps its range and penalty
--   with_sys, with_cache, with_irqc, with_reg == the same machine with a part changed
use Rattle.std.specs.Prelude.{ℕ, List, replicate}
use Rattle.cache.specs.Cache.{new_cache, reset_of as cacheReset}
use Rattle.cache.specs.declared.L1Cache.{L1Cache}
use Rattle.irqc.specs.Irqc.{new_controller}
use Rattle.irqc.specs.declared.IrqController.{IrqController}
use Rattle.privilege.specs.State.{new_state}
use Rattle.privilege.specs.declared.state.SystemState.{SystemState}
use Rattle.machine.specs.declared.state.Machine.{Machine}

abbrev pub with_sys : Machine → SystemState → Machine
with_sys M sys = record { sys = sys; cache = M.cache; irqc = M.irqc; reg = M.reg }

abbrev pub with_cache : Machine → L1Cache → Machine
with_cache M cache = record { sys = M.sys; cache = cache; irqc = M.irqc; reg = M.reg }

abbrev pub with_irqc : Machine → IrqController → Machine
with_irqc M irqc = record { sys = M.sys; cache = M.cache; irqc = irqc; reg = M.reg }

abbrev pub with_reg : Machine → SystemState → List ℕ → Machine
with_reg M sys reg = record { sys = sys; cache = M.cache; irqc = M.irqc; reg = reg }

-- the cache over a map, with its penalty
abbrev pub map_cache : ℕ → ℕ → ℕ → L1Cache
map_cache base n penalty =
    let c = new_cache base n in
    record { i = c.i; d = c.d; ram_start = c.ram_start; ram_end = c.ram_end; miss_penalty = penalty }

unfoldable pub new_machine : ℕ → ℕ → ℕ → Machine
new_machine base n penalty = record { sys = new_state; cache = map_cache base n penalty; irqc = new_controller; reg = replicate 32 0 }

unfoldable pub reset_of : Machine → Machine
reset_of M = record { sys = new_state; cache = cacheReset M.cache; irqc = new_controller; reg = M.reg }
