-- Demand 3 for runs of events, as a script's are: what `examples/two_loops` shows.
--
--   op_of e             == the access that an event of kind 0 to 2 is
--   shown_as x          == the line of an access's answer
--   AllAccesses es      == every event is an aligned access
--   Entered hidden x x' == two runs have come to one machine in user mode, over memories that differ in sealed hidden bytes alone
--   InRuns              == where first events print the same lines and come there, and the others are aligned accesses, all lines are the same
--   InScripts           == so two scripts whose images differ only in hidden bytes print the same listing
use Rattle.std.specs.Prelude.{ℕ, ◌<◌, ◌≡◌, Bool, List, [], ◌∷◌, ◌++◌, Ok}
use Rattle.listing.specs.declared.Line.{Line}
use Rattle.memory.specs.Memory.{Memory}
use Rattle.script.specs.Header.{script_of}
use Rattle.script.specs.declared.Event.{Event}
use Rattle.script.specs.declared.header.Header.{Header}
use Rattle.machine.specs.Event.{line_of, access_kind, stored_by}
use Rattle.machine.specs.Run.{Run, run_over, script_events, first_machine, first_memory, listing_of}
use Rattle.machine.specs.declared.state.Machine.{Machine}
use Rattle.isolation.specs.Demand3.{Answer}
use Rattle.isolation.specs.Premises.{Op, Aligned, InUserMode, Sixteen, Alike, Sealed}

abbrev pub op_of : Event → Op
op_of e = record { kind = access_kind e.kind; addr = e.a; size = e.size; value = stored_by e }

abbrev pub shown_as : Answer → Line
shown_as x = line_of x.outcome x.stall x.reads

abbrev pub AllAccesses : List Event → Type 0
AllAccesses [] = Unit {0}
AllAccesses (e ∷ es) = ((e.kind < 3) × Aligned (op_of e)) × AllAccesses es

-- two runs have come to the same machine in user mode, and their memories differ in sealed hidden bytes alone
pub record Entered (hidden : ℕ → Bool) (x x' : Run) : Type 0 where
  pub lines : x.lines ≡ x'.lines
  pub machine : x.machine ≡ x'.machine
  pub alike : Alike hidden x.memory x'.memory
  pub user : InUserMode x.machine
  pub slots : Sixteen x.machine
  pub closed : Sealed hidden x.memory x.machine.sys.vm

unfoldable pub InRuns : Type 0
InRuns =
    (hidden : ℕ → Bool) (first others : List Event) (M M' : Machine) (m m' : Memory) → Entered hidden (run_over first M m) (run_over first M' m') → AllAccesses others
    → (run_over (first ++ others) M m).lines ≡ (run_over (first ++ others) M' m').lines

unfoldable pub InScripts : Type 0
InScripts =
    (hidden : ℕ → Bool) (first others : List Event) (s s' : List ℕ) (h h' : Header) → script_of s ≡ Ok h → script_of s' ≡ Ok h'
    → script_events s h ≡ first ++ others → script_events s' h' ≡ first ++ others
    → Entered hidden (run_over first (first_machine h) (first_memory s h)) (run_over first (first_machine h') (first_memory s' h')) → AllAccesses others
    → listing_of s ≡ listing_of s'
