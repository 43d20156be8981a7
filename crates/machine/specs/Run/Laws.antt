-- The laws of a run. Assumes nothing.
--
--   over_lines         == a run has a line for each event
--   over_append        == a run goes on where another ended
--   run_lines          == so a run of n events of a script has n lines
--   listing_good       == a good script's listing is that of its events' run
--   listing_whole      == every script's listing fits into `LISTING_MAX` bytes
--   run_none, run_next == a run of no event, and of one event more: the event's step, and the run on what that left
use Rattle.std.specs.Prelude.{◌≡◌, ℕ, zero, suc, ◌+◌, ◌≤◌, List, [], ◌∷◌, ◌++◌, length, refl, Result, Ok, Err}
use Rattle.std.proofs.Common.{ap, ◌∙◌}
use Rattle.common.specs.Refusal.{refusal_number}
use Rattle.listing.specs.Listing.{listing_text}
use Rattle.listing.specs.Listing.Laws.{listing_fits, refused_fits}
use Rattle.listing.specs.declared.Line.{Line}
use Rattle.memory.specs.Memory.{Memory}
use Rattle.script.specs.Event.{event_at, events_from, events_none, events_next}
use Rattle.script.specs.Header.{script_of}
use Rattle.script.specs.Header.Laws.{good_sound}
use Rattle.script.specs.declared.Event.{Event}
use Rattle.script.specs.declared.header.Header.{Header}
use Rattle.common.specs.declared.Refusal.{Refusal}
use Rattle.machine.specs.Event.{step_of}
use Rattle.machine.specs.Run.{after, run_over, run_from, script_events, first_machine, first_memory, script_run, listed, listing_of}
use Rattle.machine.specs.declared.state.Machine.{Machine}

pub over_none : (M : Machine) (m : Memory) → run_over [] M m ≡ record { machine = M; memory = m; lines = [] }
unfolding run_over
over_none M m = refl

pub over_next : (e : Event) (es : List Event) (M : Machine) (m : Memory)
    → run_over (e ∷ es) M m ≡ after (step_of M m e).stepped.line (run_over es (step_of M m e).stepped.machine (step_of M m e).memory)
unfolding run_over
over_next e es M m = refl

pub over_lines : (es : List Event) (M : Machine) (m : Memory) → length (run_over es M m).lines ≡ length es
unfolding run_over
over_lines [] M m = refl
over_lines (e ∷ es) M m = ap suc (over_lines es _ _)

pub over_append : (xs ys : List Event) (M : Machine) (m : Memory)
    → (run_over (xs ++ ys) M m).lines ≡ (run_over xs M m).lines ++ (run_over ys (run_over xs M m).machine (run_over xs M m).memory).lines
unfolding run_over
over_append [] ys M m = refl
over_append (e ∷ xs) ys M m =
    let s = step_of M m e in
    ap (λ (l : List Line). s.stepped.line ∷ l) (over_append xs ys s.stepped.machine s.memory)

events_length : (n : ℕ) (s : List ℕ) (at : ℕ) → length (events_from n s at) ≡ n
events_length zero s at = ap length (events_none s at)
events_length (suc n) s at = ap length (events_next s at n) ∙ ap suc (events_length n s (at + 12))

pub run_lines : (n : ℕ) (s : List ℕ) (at : ℕ) (M : Machine) (m : Memory) → length (run_from n s at M m).lines ≡ n
run_lines n s at M m = over_lines (events_from n s at) M m ∙ events_length n s at

pub run_none : (s : List ℕ) (at : ℕ) (M : Machine) (m : Memory) → run_from 0 s at M m ≡ record { machine = M; memory = m; lines = [] }
run_none s at M m = ap (λ (es : List Event). run_over es M m) (events_none s at) ∙ over_none M m

pub run_next : (n : ℕ) (s : List ℕ) (at : ℕ) (M : Machine) (m : Memory)
    → run_from (suc n) s at M m ≡ after (step_of M m (event_at s at)).stepped.line (run_from n s (at + 12) (step_of M m (event_at s at)).stepped.machine (step_of M m (event_at s at)).memory)
run_next n s at M m = ap (λ (es : List Event). run_over es M m) (events_next s at n) ∙ over_next (event_at s at) (events_from n s (at + 12)) M m

listed_whole : (s : List ℕ) (c : Result Header Refusal) → script_of s ≡ c → length (listed s c) ≤ 131072
unfolding listed script_run
listed_whole s (Ok h) e = listing_fits (script_run s h).lines (rw run_lines (good_sound s h e).few_events)
listed_whole s (Err r) e = refused_fits (refusal_number r)

pub listing_whole : (s : List ℕ) → length (listing_of s) ≤ 131072
unfolding listing_of
listing_whole s = listed_whole s (script_of s) refl

pub listing_good : (s : List ℕ) (h : Header) → script_of s ≡ Ok h → listing_of s ≡ listing_text (run_over (script_events s h) (first_machine h) (first_memory s h)).lines
unfolding listing_of listed script_run
listing_good s h g = rw g
