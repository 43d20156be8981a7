-- `mmu::flat::unpack` meets its contract: the registers and the TLB are what their words are. Assumes nothing.
use Rattle.mmu.proofs.Flats.{unpacked}
use Rattle.std.proofs.Common.{rules}
use Rattle.mmu.proofs.flat.unpack.Goals as goal

pub returns : goal.returns
returns c = rw (← c.in-Some.ensures.cases.same) (search (unpacked, rules))
