-- `mmu::flat::put_registers` meets its contract: a register is its word. Assumes nothing.
use Rattle.mmu.proofs.Flats.{registers_put}
use Rattle.std.proofs.Common.{rules}
use Rattle.mmu.proofs.flat.put_registers.Goals as goal

pub returns : goal.returns
returns c = search (registers_put, rules)
