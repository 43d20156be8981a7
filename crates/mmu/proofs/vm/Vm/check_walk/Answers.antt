-- `mmu::vm::Vm::check_walk` meets its contract: a leaf, none, or a word that could not be read. Assumes nothing.
use Rattle.std.proofs.Common.{◌≡◌}
use Rattle.mmu.specs.declared.walk.WalkFault.TheVariants.{Missing, BusError}
use Rattle.mmu.proofs.Pages.{walk_leaf_lem, walk_missing, walk_bus}
use Rattle.mmu.proofs.vm.Vm.check_walk.Goals as goal

pub returns-in-Ok : goal.returns-in-Ok
returns-in-Ok c = search walk_leaf_lem

pub returns-in-Err-Missing : goal.returns-in-Err-Missing
returns-in-Err-Missing c = let f : c.in-Err-Missing.field-0 ≡ Missing = rw c.in-Err-Missing.is at c.in-Err-Missing.field-0-is in search walk_missing

pub returns-in-Err-BusError : goal.returns-in-Err-BusError
returns-in-Err-BusError c = let f : c.in-Err-BusError.field-0 ≡ BusError = rw c.in-Err-BusError.is at c.in-Err-BusError.field-0-is in search walk_bus
