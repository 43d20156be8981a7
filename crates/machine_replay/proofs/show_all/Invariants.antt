-- `machine_replay::show_all` ends, since each turn leaves less of the input.
use Rattle.std.proofs.Common.{length}
use Rattle.machine_replay.proofs.show_all.Given as goal

abbrev pub decreases-loop-length : goal.decreases-loop-length
decreases-loop-length g l = length l.rest
