-- A race on a new machine. Assumes nothing.
use Rattle.std.proofs.Common.{◌≡◌, ℕ, List, ◌∙◌}
use Rattle.machine.specs.Run.{run_from}
use Rattle.machine.specs.State.{new_machine}
use Rattle.machine.specs.Totals.{no_totals, totals_from}
use Rattle.machine.specs.declared.state.Machine.{Machine}
use Rattle.machine.specs.declared.totals.Totals.{Totals}
use Rattle.memory.specs.Memory.{lent}

module _ (s : List ℕ) (n base len penalty : ℕ) (l : List ℕ) (M : Machine) (is : M ≡ new_machine base len penalty) where
  pub race_totals : (t : Totals) → t ≡ totals_from no_totals (run_from n s 0 M (lent base l)).lines
      → t ≡ totals_from no_totals (run_from n s 0 (new_machine base len penalty) (lent base l)).lines
  race_totals t h = h ∙ rw is

  pub race_bytes : (l' : List ℕ) → l' ≡ (run_from n s 0 M (lent base l)).memory.bytes → l' ≡ (run_from n s 0 (new_machine base len penalty) (lent base l)).memory.bytes
  race_bytes l' h = h ∙ rw is
