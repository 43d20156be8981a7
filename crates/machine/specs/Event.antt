-- One event's step: document 01, 'Event script and its listing', "Kinds".
--
--   Step                   == what an event's step leaves of machine and memory, and the line that it shows
--   line_of outcome ..     == letter and digits: V value, X CAUSE, B 0, N the refusal's number; then stall and walk reads
--   showing v, refusing r  == the line of an event that answers v and costs nothing, and of one that is refused
--   shows M v, refuses M r == a machine after such an event
--   access_kind, stored_by == the access of kinds 0 to 2, and what it stores
--   access_event M m e     == kinds 0 to 2: load a, store b at a, fetch a
--   state_event M e        == kinds 3 to 15, which touch no memory; above 15 refusal 6
--   step_of M m e          == any event
--
-- "Unnamed fields are ignored." A size is the event's byte, any number. A source's number has all 16 bits of aux.
use Rattle.std.specs.Prelude.{ℕ, ◌+◌, ◌%◌, cond, not, ◌==◌, nat_lt, slice_set, Result, Ok, Err}
use Rattle.cache.specs.Cache.{external_written, reg_read, reg_written}
use Rattle.common.specs.Refusal.{refusal_number}
use Rattle.common.specs.declared.Refusal.{Refusal}
use Rattle.common.specs.declared.Refusal.TheVariants as refusal
use Rattle.irqc.specs.Irqc.{source_set, pending_cleared, mask_set, output_of}
use Rattle.irqc.specs.declared.IrqOutput.{IrqOutput}
use Rattle.listing.specs.Listing.{line}
use Rattle.listing.specs.declared.Line.{Line}
use Rattle.memory.specs.Memory.{Memory}
use Rattle.mmu.specs.Exception.{cause_of}
use Rattle.mmu.specs.declared.exception.Access.{Access}
use Rattle.mmu.specs.declared.exception.Access.TheVariants.{Read, Write, Fetch}
use Rattle.privilege.specs.Registers.{sr_read, sr_written}
use Rattle.privilege.specs.State.{mode_of}
use Rattle.privilege.specs.Trap.{trapped, returned}
use Rattle.machine.specs.declared.access.Fault.TheVariants.{Exception, BusError, Refused}
use Rattle.machine.specs.declared.access.Fault.{Fault}
use Rattle.privilege.specs.declared.registers.SrWritten.{SrWritten}
use Rattle.script.specs.declared.Event.{Event}
use Rattle.machine.specs.State.{with_cache, with_irqc, with_reg, reset_of}
use Rattle.machine.specs.Access.{Effect, access_of}
use Rattle.machine.specs.declared.state.Machine.{Machine}
use Rattle.machine.specs.declared.access.Accessed.{Accessed}
use Rattle.machine.specs.declared.event.Stepped.{Stepped}
pub mod Laws

pub record Step : Type 0 where
  pub stepped : Stepped
  pub memory : Memory

-- ---- lines

-- 'V' is 86, 'X' 88, 'B' 66, 'N' 78
unfoldable pub line_of : Result ℕ Fault → ℕ → ℕ → Line
line_of (Ok v) stall reads = line 86 v stall reads
line_of (Err (Exception e)) stall reads = line 88 (cause_of e) stall reads
line_of (Err BusError) stall reads = line 66 0 stall reads
line_of (Err (Refused r)) stall reads = line 78 (refusal_number r) stall reads

abbrev pub showing : ℕ → Line
showing v = line 86 v 0 0

abbrev pub refusing : Refusal → Line
refusing r = line 78 (refusal_number r) 0 0

abbrev pub shows : Machine → ℕ → Stepped
shows M v = record { machine = M; line = showing v }

abbrev pub refuses : Machine → Refusal → Stepped
refuses M r = record { machine = M; line = refusing r }

-- ---- kinds 0 to 2

abbrev pub shows_access : Accessed → Stepped
shows_access a = record { machine = a.machine; line = line_of a.outcome a.stall a.reads }

abbrev pub from_access : Effect → Step
from_access r = record { stepped = shows_access r.accessed; memory = r.memory }

-- 0: "load a"; 1: "store b at a"; 2: "fetch a"
abbrev pub access_kind : ℕ → Access
access_kind kind = cond (kind == 0) Read (cond (kind == 1) Write Fetch)

abbrev pub stored_by : Event → ℕ
stored_by e = cond (e.kind == 1) e.b 0

unfoldable pub access_event : Machine → Memory → Event → Step
access_event M m e = from_access (access_of (access_kind e.kind) M m e.a e.size (stored_by e))

-- ---- kinds 3 to 15

-- 3: "trap (EPC a, CAUSE b, Short if aux is odd)"
unfoldable pub trap_event : Machine → Event → Stepped
trap_event M e =
    let t = trapped M.sys M.reg e.a e.b (mode_of (e.aux % 2 == 1)) in
    shows (with_reg M t.sys t.reg) 0

-- 4: "IRET gives EPC"
unfoldable pub return_event : Machine → Stepped
return_event M =
    let t = returned M.sys M.reg in
    shows (with_reg M t.sys t.reg) t.epc

-- 5: "read register aux"
abbrev pub by_read : Machine → Result ℕ Refusal → Stepped
by_read M (Ok v) = shows M v
by_read M (Err r) = refuses M r

unfoldable pub read_event : Machine → Event → Stepped
read_event M e = by_read M (sr_read M.sys e.aux M.reg)

-- 6: "write a to it"
abbrev pub by_written : Machine → SrWritten → Result (Unit {0}) Refusal → Stepped
by_written M w (Ok tt) = shows (with_reg M w.sys w.reg) 0
by_written M w (Err r) = refuses M r

unfoldable pub write_event : Machine → Event → Stepped
write_event M e =
    let w = sr_written M.sys e.aux e.a M.reg in
    by_written M w w.answer

-- 14: "256 + number or 0"
unfoldable pub shown : IrqOutput → ℕ
shown o = cond o.valid (256 + o.number) 0

-- 15: "set register `size` to a"; refusal 6 above 31
unfoldable pub register_event : Machine → Event → Stepped
register_event M e = cond (nat_lt e.size 32) (shows (with_reg M M.sys (slice_set M.reg e.size e.a)) 0) (refuses M refusal.Event)

-- 7: "source aux (all 16 bits) to level (size not 0)"; 8: "clear pending aux"; 9: "enable aux"; 10: "external write a, b"; 11: "read cache
-- register a"; 12: "write b to it"; 13: "reset"
unfoldable pub state_event : Machine → Event → Stepped
state_event M e =
    cond (e.kind == 3) (trap_event M e)
    (cond (e.kind == 4) (return_event M)
    (cond (e.kind == 5) (read_event M e)
    (cond (e.kind == 6) (write_event M e)
    (cond (e.kind == 7) (shows (with_irqc M (source_set M.irqc e.aux (not (e.size == 0)))) 0)
    (cond (e.kind == 8) (shows (with_irqc M (pending_cleared M.irqc e.aux)) 0)
    (cond (e.kind == 9) (shows (with_irqc M (mask_set M.irqc e.aux)) 0)
    (cond (e.kind == 10) (shows (with_cache M (external_written M.cache e.a e.b)) 0)
    (cond (e.kind == 11) (shows M (reg_read M.cache e.a))
    (cond (e.kind == 12) (shows (with_cache M (reg_written M.cache e.a e.b)) 0)
    (cond (e.kind == 13) (shows (reset_of M) 0)
    (cond (e.kind == 14) (shows M (shown (output_of M.irqc)))
    (cond (e.kind == 15) (register_event M e) (refuses M refusal.Event)))))))))))))

unfoldable pub step_of : Machine → Memory → Event → Step
step_of M m e = cond (nat_lt e.kind 3) (access_event M m e) (record { stepped = state_event M e; memory = m })
