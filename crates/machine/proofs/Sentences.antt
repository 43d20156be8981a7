-- Document 01's sentences follow from the definitions. Assumes nothing.
use Rattle.std.proofs.Common.{◌≡◌, ℕ, ◌<◌, ◌≤◌, true, false, cond, eqb, ltb, List, ◌∷◌, refl, ◌∙◌, inl, inr, ⊎_elim, arith, ltb-false, ltb-true, le-ltb, ne_eqb, eqb-true, Result, Ok, Err}
use borrow.Author.Tests.{eqb-false}
use Rattle.common.specs.Cases.{cond_case}
use Rattle.common.specs.Refusal.{refusal_number}
use Rattle.common.specs.declared.Refusal.{Refusal}
use Rattle.common.specs.declared.Refusal.TheVariants as refusal
use Rattle.memory.specs.Memory.{Memory}
use Rattle.mmu.specs.declared.exception.Access.{Access}
use Rattle.privilege.specs.Access.{check_access}
use Rattle.privilege.specs.Registers.{sr_read, sr_written}
use Rattle.privilege.specs.Registers.Laws.{read_number, write_number}
use Rattle.machine.specs.declared.access.Fault.TheVariants as outcome
use Rattle.machine.specs.declared.access.Fault.{Fault}
use Rattle.privilege.specs.declared.registers.SrWritten.{SrWritten}
use Rattle.script.specs.declared.Event.{Event}
use Rattle.machine.specs.Access.{is_read, access_of}
use Rattle.machine.specs.Access.Laws.{access_refused, access_denied, access_allowed, access_keeps, access_number}
use Rattle.machine.specs.Event.{Step, line_of, access_kind, stored_by, access_event, shows, refuses, refusing, trap_event, return_event, by_read, read_event, by_written, write_event, register_event, state_event, step_of}
use Rattle.machine.specs.Meaning.{BadEvent, Meaning}
use Rattle.machine.specs.Run.{after, run_over}
use Rattle.machine.specs.Run.Laws.{over_none, over_next}
use Rattle.machine.specs.declared.event.Stepped.{Stepped}
use Rattle.machine.specs.declared.state.Machine.{Machine}

module _ (M : Machine) (m : Memory) (e : Event) where
  -- no kind that is served
  above : (k : ℕ) → k < 16 → 15 < e.kind → eqb e.kind k ≡ false
  above k h g = ne_eqb e.kind k (λ q. omega arith)

  kind_above : 15 < e.kind → state_event M e ≡ refuses M refusal.Event
  unfolding state_event
  kind_above h =
      rw (
        above 3 (omega arith) h,
        above 4 (omega arith) h,
        above 5 (omega arith) h,
        above 6 (omega arith) h,
        above 7 (omega arith) h,
        above 8 (omega arith) h,
        above 9 (omega arith) h,
        above 10 (omega arith) h,
        above 11 (omega arith) h,
        above 12 (omega arith) h,
        above 13 (omega arith) h,
        above 14 (omega arith) h,
        above 15 (omega arith) h,
      )

  register_above : e.kind ≡ 15 → 31 < e.size → state_event M e ≡ refuses M refusal.Event
  unfolding state_event register_event
  register_above h g = rw (h, le-ltb e.size 32 (omega arith))

  state_step : 3 ≤ e.kind → step_of M m e ≡ record { stepped = state_event M e; memory = m }
  unfolding step_of
  state_step h = rw (le-ltb e.kind 3 h)

  event_refused : BadEvent e → step_of M m e ≡ record { stepped = refuses M refusal.Event; memory = m }
  event_refused =
      ⊎_elim (λ (h : 15 < e.kind). state_step (omega arith) ∙ rw (kind_above h))
      (λ (h : (e.kind ≡ 15) × (31 < e.size)). state_step (omega (arith, h.0)) ∙ rw (register_above h.0 h.1))

  -- ---- refusal 6 for no other event

  -- where the line has N and 6, the event is one of those that are refused with it
  record Due (s : Stepped) : Type 0 where
    due : s.line.letter ≡ 78 → s.line.digits ≡ 6 → BadEvent e

  value_due : (N : Machine) (v : ℕ) → Due (shows N v)
  value_due N v = record { due = λ h g. absurd (omega arith) }

  -- refused with another number
  other_due : (N : Machine) (r : Refusal) → refusal_number r < 6 → Due (refuses N r)
  other_due N r few = record { due = λ h g. absurd (omega arith) }

  bad_due : (s : Stepped) → BadEvent e → Due s
  bad_due s bad = record { due = λ h g. bad }

  outcome_due : (N : Machine) (o : Result ℕ Fault) (stall reads : ℕ) → ((r : Refusal) → o ≡ Err (outcome.Refused r) → refusal_number r < 3)
      → Due (record { machine = N; line = line_of o stall reads })
  unfolding line_of
  outcome_due N (Ok v) stall reads few = record { due = λ h g. absurd (omega arith) }
  outcome_due N (Err (outcome.Exception x)) stall reads few = record { due = λ h g. absurd (omega arith) }
  outcome_due N (Err outcome.BusError) stall reads few = record { due = λ h g. absurd (omega arith) }
  outcome_due N (Err (outcome.Refused r)) stall reads few = let small = few r refl in record { due = λ h g. absurd (omega arith) }

  access_due : Due (access_event M m e).stepped
  unfolding access_event
  access_due =
      let x = (access_of (access_kind e.kind) M m e.a e.size (stored_by e)).accessed in
      outcome_due x.machine x.outcome x.stall x.reads (λ r. access_number r (access_kind e.kind) M m e.a e.size (stored_by e))

  trap_due : Due (trap_event M e)
  unfolding trap_event
  trap_due = value_due _ 0

  return_due : Due (return_event M)
  unfolding return_event
  return_due = value_due _ _

  by_read_lem : (x : Result ℕ Refusal) → sr_read M.sys e.aux M.reg ≡ x → Due (by_read M x)
  by_read_lem (Ok v) h = value_due M v
  by_read_lem (Err r) h = let three = read_number M.sys e.aux M.reg r h in other_due M r (omega arith)

  read_due : Due (read_event M e)
  unfolding read_event
  read_due = by_read_lem _ refl

  by_written_lem : (w : SrWritten) (x : Result (Unit {0}) Refusal) → w ≡ sr_written M.sys e.aux e.a M.reg → w.answer ≡ x → Due (by_written M w x)
  by_written_lem w (Ok tt) is h = value_due _ 0
  by_written_lem w (Err r) is h =
      let three = write_number M.sys e.aux e.a M.reg r (rw is at h) in
      other_due M r (omega arith)

  write_due : Due (write_event M e)
  unfolding write_event
  write_due = by_written_lem _ _ refl refl

  register_due : e.kind ≡ 15 → Due (register_event M e)
  unfolding register_event
  register_due is =
      cond_case Due (ltb e.size 32) (λ t. value_due _ 0)
      (λ t. let large = ltb-false e.size 32 t in bad_due (refuses M refusal.Event) (inr (is, omega arith)))

  -- a kind that is served, and those after it
  next : (k : ℕ) {x y : Stepped} → k ≤ e.kind → (e.kind ≡ k → Due x) → (k < e.kind → Due y) → Due (cond (eqb e.kind k) x y)
  next k h p q =
      cond_case Due (eqb e.kind k) (λ t. p (eqb-true e.kind k t))
      (λ t. q (let other = eqb-false e.kind k t in omega arith))

  state_due : 3 ≤ e.kind → Due (state_event M e)
  unfolding state_event
  state_due h =
      next 3 h (λ q. trap_due)
      (λ h. next 4 h (λ q. return_due)
      (λ h. next 5 h (λ q. read_due)
      (λ h. next 6 h (λ q. write_due)
      (λ h. next 7 h (λ q. value_due _ _)
      (λ h. next 8 h (λ q. value_due _ _)
      (λ h. next 9 h (λ q. value_due _ _)
      (λ h. next 10 h (λ q. value_due _ _)
      (λ h. next 11 h (λ q. value_due _ _)
      (λ h. next 12 h (λ q. value_due _ _)
      (λ h. next 13 h (λ q. value_due _ _)
      (λ h. next 14 h (λ q. value_due _ _)
      (λ h. next 15 h register_due (λ h. bad_due (refuses M refusal.Event) (inl h))))))))))))))

  step_due : Due (step_of M m e).stepped
  unfolding step_of
  step_due = cond_case (λ (s : Step). Due s.stepped) (ltb e.kind 3) (λ t. access_due) (λ t. state_due (ltb-false e.kind 3 t))

  -- ---- memory

  kept_by : e.kind < 3 → (e.kind ≡ 1 → ⊥) → (access_event M m e).memory ≡ m
  unfolding access_event
  kept_by h g = access_keeps (access_kind e.kind) M m e.a e.size (stored_by e) (reads e.kind g)
    where
      reads : (k : ℕ) → (k ≡ 1 → ⊥) → is_read (access_kind k) ≡ true
      reads k n = rw (ne_eqb k 1 n) (cond_case (λ (x : Access). is_read x ≡ true) (eqb k 0) (λ t. refl) (λ t. refl))

  memory_left : (e.kind ≡ 1 → ⊥) → (step_of M m e).memory ≡ m
  unfolding step_of
  memory_left g = cond_case (λ (s : Step). s.memory ≡ m) (ltb e.kind 3) (λ h. kept_by (ltb-true e.kind 3 h) g) (λ h. refl)

goes_on : (e : Event) (es : List Event) (M : Machine) (m : Memory) → BadEvent e → run_over (e ∷ es) M m ≡ after (refusing refusal.Event) (run_over es M m)
goes_on e es M m h = over_next e es M m ∙ rw (event_refused M m e h)

pub meaning_holds : Meaning
meaning_holds =
    record {
      allowed = λ k M m a n v h. access_allowed k M m a n v (check_access m M.sys a n k) refl h;
      denied = λ k M m a n v x h. access_denied k M m a n v (check_access m M.sys a n k) refl x h;
      refused = λ k M m a n v r h. access_refused k M m a n v (check_access m M.sys a n k) refl r h;
      event_refused = event_refused;
      event_only = λ M m e. (step_due M m e).due;
      goes_on = goes_on;
      memory_left = memory_left;
      no_event = over_none;
      next_event = over_next;
    }
