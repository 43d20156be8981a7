-- `irqc::IrqController::set_changed_source_levels` meets its contract. The loop's invariant: the sources below `number` are set.
-- Assumes nothing.
use Rattle.std.proofs.Common.{◌≡◌}
use Rattle.irqc.specs.Irqc.{each_set}
use Rattle.irqc.proofs.IrqController.set_changed_source_levels.Given as goal

abbrev pub invariant-loop-number : goal.invariant-loop-number
invariant-loop-number l =
    l.self ≡ each_set l.initial.self l.changed l.levels l.number
