-- A machine by value: its words are packed, done with where they stand, and unpacked. Assumes nothing.
use Rattle.std.proofs.Common.{◌≡◌, ℕ, List, ◌++◌, length, ap, ◌∙◌}
use Rattle.layout.specs.Words.{Over, Reads}
use Rattle.listing.specs.Listing.{lines_from, end_text}
use Rattle.listing.specs.declared.Line.{Line}
use Rattle.memory.specs.Memory.{lent}
use Rattle.mmu.specs.declared.exception.Access.{Access}
use Rattle.script.specs.declared.Event.{Event}
use Rattle.text.specs.Text.{written}
use Rattle.machine.specs.Access.{access_of}
use Rattle.machine.specs.Event.{step_of}
use Rattle.machine.specs.Flat.{state_words, machine_at, accessed_as, stepped_as, AccessesAny, StepsAny}
use Rattle.machine.specs.FlatRun.{RunsAny}
use Rattle.machine.specs.Run.{run_from}
use Rattle.machine.specs.Totals.{no_totals, totals_from}
use Rattle.machine.specs.declared.access.Accessed.{Accessed}
use Rattle.machine.specs.declared.flat.access.Answer.{Answer}
use Rattle.machine.specs.declared.flat.run.Listed.{Listed}
use Rattle.machine.specs.declared.state.Machine.{Machine}

module _ (M : Machine) (l₀ l₁ l₂ : List ℕ) (N none : Machine) (size : length l₀ ≡ state_words) (p : Over {R = Unit {0}} state_words l₀ l₁ tt tt (machine_at l₁ ≡ M))
    (u : Reads state_words l₂ N none (machine_at l₂)) where
  long : length l₁ ≡ state_words
  long = (p.0 size).0

  is : machine_at l₁ ≡ M
  is = (p.0 size).1

  pub accessed_by_value : (k : Access) (base : ℕ) (bytes : List ℕ) (a n v : ℕ) (r : Answer) (bytes' : List ℕ) (x : Accessed) → AccessesAny l₁ l₂ k base bytes a n v r bytes' → x ≡ accessed_as r N
      → (x ≡ (access_of k M (lent base bytes) a n v).accessed) × (bytes' ≡ (access_of k M (lent base bytes) a n v).memory.bytes)
  accessed_by_value k base bytes a n v r bytes' x w e =
      let q = w.0 long in (e ∙ ap (accessed_as r) (u.0 q.0) ∙ rw (← is) q.1.0, rw (← is) q.1.1)

  pub stepped_by_value : (base : ℕ) (bytes : List ℕ) (e : Event) (r : Line) (bytes' : List ℕ) → StepsAny l₁ l₂ base bytes e r bytes'
      → (stepped_as r N ≡ (step_of M (lent base bytes) e).stepped) × (bytes' ≡ (step_of M (lent base bytes) e).memory.bytes)
  stepped_by_value base bytes e r bytes' w = let q = w.0 long in (ap (stepped_as r) (u.0 q.0) ∙ rw (← is) q.1.0, rw (← is) q.1.1)

  pub run_by_value : (base : ℕ) (bytes s : List ℕ) (first n : ℕ) (out : List ℕ) (at : ℕ) (r : Listed) (bytes' out' : List ℕ) → RunsAny l₁ l₂ base bytes s first n out at r bytes' out'
      → (N ≡ (run_from n s first M (lent base bytes)).machine)
      × (bytes' ≡ (run_from n s first M (lent base bytes)).memory.bytes)
      × ((out', r.place) ≡ written (out, at) (lines_from 0 (run_from n s first M (lent base bytes)).lines ++ end_text n))
      × (r.totals ≡ totals_from no_totals (run_from n s first M (lent base bytes)).lines)
  run_by_value base bytes s first n out at r bytes' out' w =
      let q = w.0 long in
      rw (← is) (u.0 q.0 ∙ q.1.0, q.1.1, q.1.2, q.1.3)
