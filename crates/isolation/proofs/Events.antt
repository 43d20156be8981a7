-- Demand 3 for runs of events. Assumes nothing.
use Rattle.std.proofs.Common.{◌≡◌, List, [], ◌∷◌, ◌++◌, map, sym, ap, ◌∙◌, ap₂}
use Rattle.listing.specs.Listing.{listing_text}
use Rattle.listing.specs.declared.Line.{Line}
use Rattle.memory.specs.Memory.{Memory}
use Rattle.script.specs.declared.Event.{Event}
use Rattle.machine.specs.Event.Laws.{step_access}
use Rattle.machine.specs.Run.{run_over, first_machine, first_memory, listing_of}
use Rattle.machine.specs.Run.Laws.{over_none, over_next, over_append, listing_good}
use Rattle.machine.specs.declared.state.Machine.{Machine}
use Rattle.isolation.specs.Demand3.{result_of, answer_of, ran_ops, Demand3}
use Rattle.isolation.specs.Events.{op_of, shown_as, AllAccesses, InRuns, InScripts}
use Rattle.isolation.specs.Premises.{AllAligned}
use Rattle.isolation.proofs.Runs.{demand3}

all_aligned : (es : List Event) → AllAccesses es → AllAligned (map op_of es)
all_aligned [] h = tt
all_aligned (e ∷ es) h = (h.0.1, all_aligned es h.1)

-- the lines of accesses are their answers'
lines_are : (es : List Event) (M : Machine) (m : Memory) → AllAccesses es → (run_over es M m).lines ≡ map shown_as (ran_ops (map op_of es) M m).answers
unfolding ran_ops
lines_are [] M m h = rw (over_none M m)
lines_are (e ∷ es) M m h =
    let r = result_of (op_of e) M m in
    rw (over_next e es M m, step_access M m e h.0.0)
    (ap (λ (l : List Line). shown_as (answer_of r) ∷ l) (lines_are es r.accessed.machine r.memory h.1))

pub in_runs : InRuns
unfolding InRuns Demand3
in_runs hidden first others M M' m m' x h =
    let N = (run_over first M m).machine in
    let same = (demand3 hidden (map op_of others) N (run_over first M m).memory (run_over first M' m').memory (all_aligned others h) x.user x.slots x.alike x.closed).answers in
    let rest : (run_over others N (run_over first M m).memory).lines ≡ (run_over others N (run_over first M' m').memory).lines =
    lines_are others N (run_over first M m).memory h ∙ ap (map shown_as) same ∙ sym (lines_are others N (run_over first M' m').memory h) in
    over_append first others M m
    ∙ ap₂ (λ (a b : List Line). a ++ b) x.lines (rest ∙ ap (λ (K : Machine). (run_over others K (run_over first M' m').memory).lines) x.machine)
    ∙ sym (over_append first others M' m')

pub in_scripts : InScripts
unfolding InScripts InRuns
in_scripts hidden first others s s' h h' g g' e e' x all =
    let lines = in_runs hidden first others (first_machine h) (first_machine h') (first_memory s h) (first_memory s' h') x all in
    let here : listing_of s ≡ listing_text (run_over (first ++ others) (first_machine h) (first_memory s h)).lines = listing_good s h g ∙ rw e in
    let there : listing_of s' ≡ listing_text (run_over (first ++ others) (first_machine h') (first_memory s' h')).lines = listing_good s' h' g' ∙ rw e' in
    here ∙ ap listing_text lines ∙ sym there
