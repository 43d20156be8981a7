-- A run's loop: what is left of the run, after each event. Assumes nothing.
use Rattle.std.proofs.Common.{◌≡◌, ℕ, ◌+◌, ◌-◌, ◌*◌, ◌^◌, ◌<◌, ◌≤◌, min, List, [], ◌++◌, length, take, sym, refl, ap, ◌∙◌, arith, length-take, w32, Fits, Result, Ok, Err}
use Rattle.common.specs.Refusal.{refusal_number}
use Rattle.common.specs.declared.Refusal.{Refusal}
use Rattle.listing.specs.Listing.{line_text, lines_from, end_text, refused_text}
use Rattle.listing.specs.declared.Line.{Line}
use Rattle.listing.specs.Listing.Laws.{listing_is, lines_next, lines_done, shown}
use Rattle.memory.specs.Memory.{Memory, lent}
use Rattle.script.specs.Event.{event_at}
use Rattle.script.specs.Header.{script_of}
use Rattle.script.specs.Image.{bytes_from}
use Rattle.script.specs.declared.Event.{Event}
use Rattle.script.specs.declared.header.Header.{Header}
use Rattle.text.specs.Text.{written}
use Rattle.machine.specs.Event.{step_of}
use Rattle.machine.specs.Event.Laws.{step_lent}
use Rattle.machine.specs.Flat.{state_words, machine_at, StepsAny}
use Rattle.machine.specs.FlatRun.{RunsAny}
use Rattle.machine.specs.Run.{Run, after, run_from, script_run, listed, listing_of}
use Rattle.machine.specs.Run.Laws.{run_lines, run_none, run_next, listing_whole}
use Rattle.machine.specs.State.{new_machine}
use Rattle.machine.specs.Totals.{no_totals, counted, totals_from}
use Rattle.machine.specs.declared.totals.Totals.{Totals}
use Rattle.machine.specs.declared.state.Machine.{Machine}
use Rattle.machine.specs.declared.event.Stepped.{Stepped}

-- what is left of a run of n events before event k, on the machine M and the bytes l
abbrev pub left : ℕ → ℕ → List ℕ → ℕ → Machine → ℕ → List ℕ → Run
left n k s first M base l = run_from (n - k) s (first + 12 * k) M (lent base l)

module _ (n k : ℕ) (s : List ℕ) (first : ℕ) (M : Machine) (base : ℕ) (l : List ℕ) where
  module _ (e : Event) (t : Stepped) (l' : List ℕ) (h : k < n) (is : e ≡ event_at s (first + 12 * k)) (q : t ≡ (step_of M (lent base l) e).stepped)
      (p : l' ≡ (step_of M (lent base l) e).memory.bytes) where
    left_next : left n k s first M base l ≡ after t.line (left n (k + 1) s first t.machine base l')
    left_next =
        ap (λ (j : ℕ). run_from j s (first + 12 * k) M (lent base l)) (omega (arith, h))
        ∙ run_next (n - (k + 1)) s (first + 12 * k) M (lent base l)
        ∙ rw (← is, q, p, step_lent M (lent base l) e)
        (ap
        (λ (j : ℕ). after (step_of M (lent base l) e).stepped.line (run_from (n - (k + 1)) s j (step_of M (lent base l) e).stepped.machine (lent base (step_of M (lent base l) e).memory.bytes)))
        (omega arith))

    pub machine_next : (R : Run) → R.machine ≡ (left n k s first M base l).machine → R.machine ≡ (left n (k + 1) s first t.machine base l').machine
    machine_next R g = g ∙ ap (λ (r : Run). r.machine) left_next

    pub memory_next : (R : Run) → R.memory ≡ (left n k s first M base l).memory → R.memory ≡ (left n (k + 1) s first t.machine base l').memory
    memory_next R g = g ∙ ap (λ (r : Run). r.memory) left_next

    pub lines_stepped : (z : List ℕ × ℕ) (out : List ℕ) (at : ℕ) (last out' : List ℕ) (at' : ℕ)
        → z ≡ written (out, at) (lines_from k (left n k s first M base l).lines ++ last) → (out', at') ≡ written (out, at) (line_text k t.line)
        → z ≡ written (out', at') (lines_from (k + 1) (left n (k + 1) s first t.machine base l').lines ++ last)
    lines_stepped z out at last out' at' g w =
        lines_next z out at k t.line (left n (k + 1) s first t.machine base l').lines last out' at'
        (g ∙ ap (λ (r : Run). written (out, at) (lines_from k r.lines ++ last)) left_next) w

  module _ (le : k ≤ n) (ge : n ≤ k) where
    left_none : left n k s first M base l ≡ record { machine = M; memory = lent base l; lines = [] }
    left_none = ap (λ (j : ℕ). run_from j s (first + 12 * k) M (lent base l)) (omega (arith, le, ge)) ∙ run_none s (first + 12 * k) M (lent base l)

    pub machine_last : (R : Run) → R.machine ≡ (left n k s first M base l).machine → M ≡ R.machine
    machine_last R g = sym (g ∙ ap (λ (r : Run). r.machine) left_none)

    pub memory_last : (R : Run) → R.memory ≡ (left n k s first M base l).memory → l ≡ R.memory.bytes
    memory_last R g = ap (λ (m : Memory). m.bytes) (sym (g ∙ ap (λ (r : Run). r.memory) left_none))

    pub lines_last : (z : List ℕ × ℕ) (out : List ℕ) (at : ℕ) (last out' : List ℕ) (at' : ℕ)
        → z ≡ written (out, at) (lines_from k (left n k s first M base l).lines ++ last) → (out', at') ≡ written (out, at) last → (out', at') ≡ z
    lines_last z out at last out' at' g w =
        lines_done z out at k last out' at' (g ∙ ap (λ (r : Run). written (out, at) (lines_from k r.lines ++ last)) left_none) w

-- before the first event the whole run is left
module _ (n : ℕ) (s : List ℕ) (first : ℕ) (M : Machine) (base : ℕ) (l : List ℕ) where
  left_all : run_from n s first M (lent base l) ≡ left n 0 s first M base l
  left_all = ap (λ (j : ℕ). run_from j s first M (lent base l)) (omega arith) ∙ ap (λ (j : ℕ). run_from (n - 0) s j M (lent base l)) (omega arith)

  pub machine_first : (run_from n s first M (lent base l)).machine ≡ (left n 0 s first M base l).machine
  machine_first = ap (λ (r : Run). r.machine) left_all

  pub memory_first : (run_from n s first M (lent base l)).memory ≡ (left n 0 s first M base l).memory
  memory_first = ap (λ (r : Run). r.memory) left_all

  pub lines_first : (out : List ℕ) (at : ℕ) (last : List ℕ) → written (out, at) (lines_from 0 (run_from n s first M (lent base l)).lines ++ last)
      ≡ written (out, at) (lines_from 0 (left n 0 s first M base l).lines ++ last)
  lines_first out at last = ap (λ (r : Run). written (out, at) (lines_from 0 r.lines ++ last)) left_all

-- what a run comes to, from event k on: the machine and the memory that it leaves, the text that it writes, the totals of its lines
abbrev pub Going : ℕ → List ℕ → ℕ → ℕ → Run → List ℕ × ℕ → ℕ → Machine → List ℕ → List ℕ → ℕ → Totals → Type 0
Going n s first base R z k M l out place t =
    (R.machine ≡ (left n k s first M base l).machine)
    × (R.memory ≡ (left n k s first M base l).memory)
    × (z ≡ written (out, place) (lines_from k (left n k s first M base l).lines ++ end_text n))
    × (totals_from no_totals R.lines ≡ totals_from t (left n k s first M base l).lines)

module _ (n : ℕ) (s : List ℕ) (first base : ℕ) where
  pub going_first : (M : Machine) (l out : List ℕ) (at : ℕ) (t : Totals) → t ≡ no_totals
      → Going n s first base (run_from n s first M (lent base l)) (written (out, at) (lines_from 0 (run_from n s first M (lent base l)).lines ++ end_text n)) 0 M l out at t
  going_first M l out at t h =
      rw h
      (machine_first n s first M base l, memory_first n s first M base l, lines_first n s first M base l out at (end_text n), ap (λ (r : Run). totals_from no_totals r.lines) (left_all n s first M base l))

  module _ (R : Run) (z : List ℕ × ℕ) (k : ℕ) (M : Machine) (l out : List ℕ) (place : ℕ) (t : Totals) (g : Going n s first base R z k M l out place t) where
    pub going_next : (e : Event) (M' : Machine) (x : Line) (l' out' : List ℕ) (place' : ℕ) (t' : Totals) → k < n → e ≡ event_at s (first + 12 * k)
        → record { machine = M'; line = x } ≡ (step_of M (lent base l) e).stepped → l' ≡ (step_of M (lent base l) e).memory.bytes
        → (out', place') ≡ written (out, place) (line_text k x) → t' ≡ counted t x → Going n s first base R z (k + 1) M' l' out' place' t'
    unfolding totals_from
    going_next e M' x l' out' place' t' h is q p w c =
        let step : Stepped = record { machine = M'; line = x } in (
          machine_next n k s first M base l e step l' h is q p R g.0,
          memory_next n k s first M base l e step l' h is q p R g.1,
          lines_stepped n k s first M base l e step l' h is q p z out place (end_text n) out' place' g.2 w,
          g.3 ∙ ap (λ (r : Run). totals_from t r.lines) (left_next n k s first M base l e step l' h is q p) ∙ rw c,
        )

    module _ (le : k ≤ n) (ge : n ≤ k) where
      pub going_machine : (M' : Machine) → M' ≡ M → M' ≡ R.machine
      going_machine M' h = h ∙ machine_last n k s first M base l le ge R g.0

      pub going_memory : l ≡ R.memory.bytes
      going_memory = memory_last n k s first M base l le ge R g.1

      pub going_lines : (out' : List ℕ) (place' : ℕ) → (out', place') ≡ written (out, place) (end_text n) → (out', place') ≡ z
      going_lines out' place' w = lines_last n k s first M base l le ge z out place (end_text n) out' place' g.2 w

      pub going_totals : t ≡ totals_from no_totals R.lines
      unfolding totals_from
      going_totals = sym (g.3 ∙ ap (λ (r : Run). totals_from t r.lines) (left_none n k s first M base l le ge))

-- ---- where the machine's words stand

-- a step takes the run on
pub words_next : (n : ℕ) (s : List ℕ) (first base : ℕ) (R : Run) (z : List ℕ × ℕ) (k : ℕ) (l bytes out : List ℕ) (place : ℕ) (t : Totals)
    → Going n s first base R z k (machine_at l) bytes out place t → (e : Event) (l' : List ℕ) (x : Line) (bytes' out' : List ℕ) (place' : ℕ) (t' : Totals) → length l ≡ state_words → k < n
    → e ≡ event_at s (first + 12 * k) → StepsAny l l' base bytes e x bytes' → (out', place') ≡ written (out, place) (line_text k x) → t' ≡ counted t x
    → Going n s first base R z (k + 1) (machine_at l') bytes' out' place' t'
words_next n s first base R z k l bytes out place t g e l' x bytes' out' place' t' long h is w q c =
    let step = (w.0 long).1 in
    going_next n s first base R z k (machine_at l) bytes out place t g e (machine_at l') x bytes' out' place' t' h is step.0 step.1 q c

module _ (n : ℕ) (s : List ℕ) (first base : ℕ) (l₀ bytes₀ out₀ : List ℕ) (at : ℕ) where
  abbrev pub whole : Run
  whole = run_from n s first (machine_at l₀) (lent base bytes₀)

  abbrev pub text : List ℕ × ℕ
  text = written (out₀, at) (lines_from 0 whole.lines ++ end_text n)

  pub words_end : (k : ℕ) (l bytes out : List ℕ) (place : ℕ) (t : Totals) → Going n s first base whole text k (machine_at l) bytes out place t → k ≤ n → n ≤ k
      → length l₀ ≡ state_words → length l ≡ length l₀ → (out' : List ℕ) (place' : ℕ) → (out', place') ≡ written (out, place) (end_text n)
      → RunsAny l₀ l base bytes₀ s first n out₀ at (record { place = place'; totals = t }) bytes out'
  words_end k l bytes out place t g le ge long same out' place' w = (
    (λ h. (
      same ∙ long,
      (
        going_machine n s first base whole text k (machine_at l) bytes out place t g le ge (machine_at l) refl,
        going_memory n s first base whole text k (machine_at l) bytes out place t g le ge,
        going_lines n s first base whole text k (machine_at l) bytes out place t g le ge out' place' w,
        going_totals n s first base whole text k (machine_at l) bytes out place t g le ge,
      ),
    )),
    (λ h. absurd (h long)),
  )

  pub words_none : (t : Totals) → (length l₀ ≡ state_words → ⊥) → t ≡ no_totals → RunsAny l₀ l₀ base bytes₀ s first n out₀ at (record { place = at; totals = t }) bytes₀ out₀
  words_none t h e = (λ p. absurd (h p), λ p. (refl, rw e))

-- the event of a place that goes along
pub event_here : (s : List ℕ) (e : Event) (from first k : ℕ) → e ≡ event_at s from → from ≡ first + 12 * k → e ≡ event_at s (first + 12 * k)
event_here s e from first k h p = h ∙ ap (event_at s) p

-- the count of the next event fits where the number of events does
pub next_fits : (k n : ℕ) → k < n → n < 2 ^ 32 → Fits w32 (k + 1)
next_fits k n h f = record { fits = omega (arith, h, f) }

-- ---- a script's run

lines_are : (s : List ℕ) (h : Header) → length (script_run s h).lines ≡ h.events
unfolding script_run
lines_are s h = run_lines h.events s h.events_at _ _

module _ (s : List ℕ) (h : Header) (out : List ℕ) (z : List ℕ × ℕ) where
  -- a run over the image by a new machine is the script's
  pub good_run : (M : Machine) (l mem : List ℕ) → M ≡ new_machine h.base h.image h.penalty → l ≡ bytes_from s h.image_at (length mem)
      → length mem ≡ h.image → z ≡ written (out, 0) (lines_from 0 (run_from h.events s h.events_at M (lent h.base l)).lines ++ end_text h.events)
      → z ≡ written (out, 0) (lines_from 0 (script_run s h).lines ++ end_text h.events)
  unfolding script_run
  good_run M l mem g f e q = q ∙ rw (g, f, e)

  pub good_listed : (x : Result Header Refusal) → x ≡ script_of s → x ≡ Ok h → z ≡ written (out, 0) (lines_from 0 (script_run s h).lines ++ end_text h.events) → z ≡ written (out, 0) (listing_of s)
  unfolding listing_of listed
  good_listed x e g q = q ∙ ap (written (out, 0)) (rw (← e, g, listing_is (script_run s h).lines, lines_are s h))

pub refused_listed : (s out : List ℕ) (z : List ℕ × ℕ) (x : Result Header Refusal) (r : Refusal) (n : ℕ) → x ≡ script_of s → x ≡ Err r → n ≡ refusal_number r → z ≡ written (out, 0) (refused_text n) → z ≡ written (out, 0) (listing_of s)
unfolding listing_of listed
refused_listed s out z x r n f g e q = q ∙ ap (written (out, 0)) (rw (← f, g, e))

-- a buffer of the longest listing's length holds the listing whole
pub holds_whole : (out out' s : List ℕ) (r : ℕ) → length out ≡ 131072 → (out', r) ≡ written (out, 0) (listing_of s) → (r ≤ length out') × (take r out' ≡ listing_of s)
holds_whole out out' s r n e =
    let q = shown out (listing_of s) out' r (rw n (listing_whole s)) e in
    let t : min r (length out') ≡ length (listing_of s) = sym (length-take r out') ∙ ap length q.1 in
    (omega (arith, q.0), q.1)
