-- `inspection::changes::put_changes` is safe: in both texts the next line starts where one ends.
use Rattle.std.proofs.Common.{◌≤◌, length}
use Rattle.inspection.proofs.changes.put_changes.Given as goal

abbrev pub invariant-loop : goal.invariant-loop
invariant-loop l = record { in_text : l.start ≤ length l.text; in_before : l.old_start ≤ length l.before }
