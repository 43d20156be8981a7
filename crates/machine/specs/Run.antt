-- A run: its events' steps, one after the other, and its listing. Document 01, 'Event script and its listing'.
--
--   Run                                        == what a run leaves of machine and memory, and the lines that it shows
--   run_over es M m                            == the events es, each stepped on what the one before it left
--   run_from n s at M m                        == the same of n events of the script s, the first at place `at`
--   script_events, first_machine, first_memory == a script's events, and what they start on: a new machine over the image
--   script_run s h                             == a good script's run
--   listing_of s                               == what a script prints: its run's lines and the last line, or only `refused` and its number
use Rattle.std.specs.Prelude.{ℕ, List, [], ◌∷◌, Result, Ok, Err}
use Rattle.common.specs.Refusal.{refusal_number}
use Rattle.listing.specs.Listing.{listing_text, refused_text}
use Rattle.listing.specs.declared.Line.{Line}
use Rattle.memory.specs.Memory.{Memory, lent}
use Rattle.script.specs.Event.{events_from}
use Rattle.script.specs.declared.Event.{Event}
use Rattle.script.specs.Header.{script_of}
use Rattle.script.specs.Image.{bytes_from}
use Rattle.script.specs.declared.header.Header.{Header}
use Rattle.common.specs.declared.Refusal.{Refusal}
use Rattle.machine.specs.Event.{step_of}
use Rattle.machine.specs.State.{new_machine}
use Rattle.machine.specs.declared.state.Machine.{Machine}
pub mod Laws

pub record Run : Type 0 where
  pub machine : Machine
  pub memory : Memory
  pub lines : List Line

-- a line in front of the rest's
abbrev pub after : Line → Run → Run
after l r = record { machine = r.machine; memory = r.memory; lines = l ∷ r.lines }

unfoldable pub run_over : List Event → Machine → Memory → Run
run_over [] M m = record { machine = M; memory = m; lines = [] }
run_over (e ∷ es) M m =
    let step = step_of M m e in
    after step.stepped.line (run_over es step.stepped.machine step.memory)

abbrev pub run_from : ℕ → List ℕ → ℕ → Machine → Memory → Run
run_from n s at M m = run_over (events_from n s at) M m

-- a script's events, and what they start on
abbrev pub script_events : List ℕ → Header → List Event
script_events s h = events_from h.events s h.events_at

abbrev pub first_machine : Header → Machine
first_machine h = new_machine h.base h.image h.penalty

abbrev pub first_memory : List ℕ → Header → Memory
first_memory s h = lent h.base (bytes_from s h.image_at h.image)

unfoldable pub script_run : List ℕ → Header → Run
script_run s h = run_over (script_events s h) (first_machine h) (first_memory s h)

-- by what the header says
unfoldable pub listed : List ℕ → Result Header Refusal → List ℕ
listed s (Ok h) = listing_text (script_run s h).lines
listed s (Err r) = refused_text (refusal_number r)

unfoldable pub listing_of : List ℕ → List ℕ
listing_of s = listed s (script_of s)
