-- A machine's words in an array, which has as many as they are: a function over any words promises its equations there. Assumes nothing.
use Rattle.std.proofs.Common.{ℕ, ◌≡◌, ap, List, length}
use Rattle.layout.specs.Words.{Over}
use Rattle.listing.specs.declared.Line.{Line}
use Rattle.memory.specs.Memory.{lent}
use Rattle.script.specs.declared.Event.{Event}
use Rattle.machine.specs.Event.{step_of}
use Rattle.machine.specs.Flat.{state_words, machine_at, StepsAny}
use Rattle.machine.specs.declared.event.Stepped.{Stepped}
use Rattle.machine.specs.declared.state.Machine.{Machine}
use Rattle.bridge.specs.Machine.{line_numbers}

module _ (l l' : List ℕ) (n : length l ≡ state_words) where
  pub started : (M : Machine) → Over state_words l l' (tt {0}) (tt {0}) (machine_at l' ≡ M) → machine_at l' ≡ M
  started M p = (p.0 n).1

  module _ (base : ℕ) (bytes bytes' : List ℕ) (e : Event) (r : Line) (p : StepsAny l l' base bytes e r bytes') where
    pub line_shown : line_numbers r ≡ line_numbers (step_of (machine_at l) (lent base bytes) e).stepped.line
    line_shown = ap (λ (s : Stepped). line_numbers s.line) (p.0 n).1.0

    pub machine_left : machine_at l' ≡ (step_of (machine_at l) (lent base bytes) e).stepped.machine
    machine_left = ap (λ (s : Stepped). s.machine) (p.0 n).1.0

    pub bytes_left : bytes' ≡ (step_of (machine_at l) (lent base bytes) e).memory.bytes
    bytes_left = (p.0 n).1.1

pub ruleset lent_steps = (line_shown, machine_left, bytes_left)
