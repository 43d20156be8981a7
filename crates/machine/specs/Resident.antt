-- The machine's TLB stays orderly through every event: change request W-209. Assumes nothing.
--
--   Addressed es         == the events' addresses are 32-bit numbers, as those of every script are
--   new_tidy, reset_tidy == the TLB of a new machine and of one that was reset is orderly
--   step_tidy, run_tidy  == it stays so through an event, and through a run of events
--   script_addressed     == a script's events are so
use Rattle.std.specs.Prelude.{ℕ, zero, suc, ◌+◌, ◌^◌, ◌<◌, List, [], ◌∷◌, ◌==◌, nat_lt, Result, Ok, Err}
use Rattle.common.specs.Cases.{cond_holds}
use Rattle.common.specs.Lists.{Each}
use Rattle.memory.specs.Memory.{Memory}
use Rattle.mmu.specs.declared.exception.Access.{Access}
use Rattle.privilege.specs.Access.{check_access}
use Rattle.privilege.specs.Registers.{sr_read, sr_written}
use Rattle.privilege.specs.Resident.{Tidy, check_tidy, write_tidy, trap_tidy, return_tidy}
use Rattle.privilege.specs.Resident as state
use Rattle.privilege.specs.declared.check.AccessChecked.{AccessChecked}
use Rattle.common.specs.declared.Refusal.{Refusal}
use Rattle.privilege.specs.declared.check.AccessError.TheVariants.{Denied, Refused}
use Rattle.privilege.specs.declared.check.AccessError.{AccessError}
use Rattle.privilege.specs.declared.registers.SrWritten.{SrWritten}
use Rattle.script.specs.Event.{events_from, events_none, events_next, event_address}
use Rattle.script.specs.declared.Event.{Event}
use Rattle.machine.specs.Access.{permitted, looked_up, access_of}
use Rattle.machine.specs.Event.{Step, access_kind, stored_by, access_event, trap_event, return_event, by_read, read_event, by_written, write_event, register_event, state_event, step_of}
use Rattle.machine.specs.Run.{run_over}
use Rattle.machine.specs.State.{new_machine, reset_of}
use Rattle.machine.specs.declared.event.Stepped.{Stepped}
use Rattle.machine.specs.declared.state.Machine.{Machine}

abbrev pub Addressed : List Event → Type 0
Addressed [] = Unit {0}
Addressed (e ∷ es) = (e.a < 2 ^ 32) × Addressed es

pub new_tidy : (base n penalty : ℕ) → Tidy (new_machine base n penalty).sys
unfolding new_machine
new_tidy base n penalty = state.new_tidy

pub reset_tidy : (M : Machine) → Tidy (reset_of M).sys
unfolding reset_of
reset_tidy M = state.new_tidy

-- ---- an event

module _ (M : Machine) (m : Memory) (o : Tidy M.sys) where
  permitted_tidy : (k : Access) (l : List ℕ) (n v : ℕ) (c : AccessChecked) → Tidy c.sys → (p : Result (Unit {0}) AccessError) → Tidy (permitted k M m l n v c p).accessed.machine.sys
  unfolding permitted
  permitted_tidy k l n v c h (Ok tt) = h
  permitted_tidy k l n v c h (Err (Denied e)) = h
  permitted_tidy k l n v c h (Err (Refused r)) = o

  access_tidy : (k : Access) (a n v : ℕ) → a < 2 ^ 32 → Tidy (access_of k M m a n v).accessed.machine.sys
  unfolding access_of
  access_tidy k a n v small =
      let c = check_access m M.sys a n k in
      permitted_tidy k (looked_up c a n) n v c (check_tidy m M.sys a n k small o) c.permission

  abbrev Left : Stepped → Type 0
  Left s = Tidy s.machine.sys

  by_read_lem : (x : Result ℕ Refusal) → Left (by_read M x)
  by_read_lem (Ok v) = o
  by_read_lem (Err r) = o

  by_written_lem : (w : SrWritten) (x : Result (Unit {0}) Refusal) → Tidy w.sys → Left (by_written M w x)
  by_written_lem w (Ok tt) h = h
  by_written_lem w (Err r) h = o

  module _ (e : Event) where
    trap_left : Left (trap_event M e)
    unfolding trap_event
    trap_left = trap_tidy M.sys o M.reg e.a e.b _

    return_left : Left (return_event M)
    unfolding return_event
    return_left = return_tidy M.sys o M.reg

    read_left : Left (read_event M e)
    unfolding read_event
    read_left = by_read_lem (sr_read M.sys e.aux M.reg)

    write_left : Left (write_event M e)
    unfolding write_event
    write_left =
        let w = sr_written M.sys e.aux e.a M.reg in
        by_written_lem w w.answer (write_tidy M.sys o e.aux e.a M.reg)

    register_left : Left (register_event M e)
    unfolding register_event
    register_left = cond_holds Left (nat_lt e.size 32) o o

    state_left : Left (state_event M e)
    unfolding state_event
    state_left =
        cond_holds Left (e.kind == 3) trap_left
        (cond_holds Left (e.kind == 4) return_left
        (cond_holds Left (e.kind == 5) read_left
        (cond_holds Left (e.kind == 6) write_left
        (cond_holds Left (e.kind == 7) o
        (cond_holds Left (e.kind == 8) o
        (cond_holds Left (e.kind == 9) o
        (cond_holds Left (e.kind == 10) o
        (cond_holds Left (e.kind == 11) o
        (cond_holds Left (e.kind == 12) o
        (cond_holds Left (e.kind == 13) (reset_tidy M)
        (cond_holds Left (e.kind == 14) o
        (cond_holds Left (e.kind == 15) register_left o))))))))))))

    pub step_tidy : e.a < 2 ^ 32 → Tidy (step_of M m e).stepped.machine.sys
    unfolding step_of access_event
    step_tidy small =
        cond_holds (λ (s : Step). Left s.stepped) (nat_lt e.kind 3)
        (access_tidy (access_kind e.kind) e.a e.size (stored_by e) small) state_left

-- ---- a run

pub run_tidy : (es : List Event) (M : Machine) (m : Memory) → Addressed es → Tidy M.sys → Tidy (run_over es M m).machine.sys
unfolding run_over
run_tidy [] M m small o = o
run_tidy (e ∷ es) M m small o =
    let s = step_of M m e in
    run_tidy es s.stepped.machine s.memory small.1 (step_tidy M m o e small.0)

pub script_addressed : (n : ℕ) (s : List ℕ) (at : ℕ) → Each (λ b. b < 256) s → Addressed (events_from n s at)
script_addressed zero s at h = rw (events_none s at) tt
script_addressed (suc n) s at h = rw (events_next s at n) (event_address s at h, script_addressed n s (at + 12) h)
