-- Document 01's sentences on the combined access, the events and a run, as laws: `machine::meaning` promises them.
--
--   BadEvent e   == "event kind above 15, or kind 15 with a register above 31"
--   Meaning      == the sentences, one field each
use Rattle.std.specs.Prelude.{◌≡◌, ℕ, ◌<◌, ◌⊎◌, List, [], ◌∷◌, ◌≢◌, Ok, Err}
use Rattle.common.specs.declared.Refusal.{Refusal}
use Rattle.common.specs.declared.Refusal.TheVariants as refusal
use Rattle.memory.specs.Memory.{Memory}
use Rattle.mmu.specs.declared.exception.Access.{Access}
use Rattle.mmu.specs.declared.exception.Exception.{Exception}
use Rattle.privilege.specs.Access.{check_access}
use Rattle.privilege.specs.declared.check.AccessError.TheVariants.{Denied, Refused}
use Rattle.script.specs.declared.Event.{Event}
use Rattle.machine.specs.Access.{denied_with, refused_with, moved, looked_up, access_of}
use Rattle.machine.specs.Event.{refusing, refuses, step_of}
use Rattle.machine.specs.Run.{after, run_over}
use Rattle.machine.specs.State.{with_sys}
use Rattle.machine.specs.declared.state.Machine.{Machine}

abbrev pub BadEvent : Event → Type 0
BadEvent e = (15 < e.kind) ⊎ ((e.kind ≡ 15) × (31 < e.size))

pub record Meaning : Type 0 where
  -- "Combined access (added): check; the cache once, at the first byte's physical address; memory."
  pub allowed : (k : Access) (M : Machine) (m : Memory) (a n v : ℕ) → (check_access m M.sys a n k).permission ≡ Ok tt
      → (let c = check_access m M.sys a n k in access_of k M m a n v ≡ moved k (with_sys M c.sys) m (looked_up c a n) n v c.reads)
  -- "A denied check touches neither."
  pub denied : (k : Access) (M : Machine) (m : Memory) (a n v : ℕ) (x : Exception) → (check_access m M.sys a n k).permission ≡ Err (Denied x)
      → (let c = check_access m M.sys a n k in access_of k M m a n v ≡ record { accessed = denied_with M c.sys x c.reads; memory = m })
  -- a refused access has moved nothing
  pub refused : (k : Access) (M : Machine) (m : Memory) (a n v : ℕ) (r : Refusal) → (check_access m M.sys a n k).permission ≡ Err (Refused r)
      → access_of k M m a n v ≡ record { accessed = refused_with M r; memory = m }
  -- "6: event kind above 15, or kind 15 with a register above 31"; a refused call has changed nothing
  pub event_refused : (M : Machine) (m : Memory) (e : Event) → BadEvent e → step_of M m e ≡ record { stepped = refuses M refusal.Event; memory = m }
  -- and 6 for no other event: it is what a line of letter N with the digits 6 tells
  pub event_only : (M : Machine) (m : Memory) (e : Event) → (step_of M m e).stepped.line.letter ≡ 78 → (step_of M m e).stepped.line.digits ≡ 6 → BadEvent e
  -- "same, the run goes on"
  pub goes_on : (e : Event) (es : List Event) (M : Machine) (m : Memory) → BadEvent e → run_over (e ∷ es) M m ≡ after (refusing refusal.Event) (run_over es M m)
  -- of the kinds only 1, "store b at a", changes memory
  pub memory_left : (M : Machine) (m : Memory) (e : Event) → (e.kind ≢ 1) → (step_of M m e).memory ≡ m
  -- a run is its events' steps, each on what the one before it left
  pub no_event : (M : Machine) (m : Memory) → run_over [] M m ≡ record { machine = M; memory = m; lines = [] }
  pub next_event : (e : Event) (es : List Event) (M : Machine) (m : Memory)
      → run_over (e ∷ es) M m ≡ after (step_of M m e).stepped.line (run_over es (step_of M m e).stepped.machine (step_of M m e).memory)
