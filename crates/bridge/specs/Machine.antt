-- The machine as C has it: an enum does not cross, nor does a struct that was not made for it.
--
--   machine_of p      == the machine that has crossed
--   machine_numbers M == a machine, ready to cross
--   event_of ..       == the event with these fields
--   step_numbers s    == what an event's step leaves of the machine, and its line
--   line_numbers l    == a line, ready to cross
use Rattle.std.specs.Prelude.{ℕ}
use Rattle.listing.specs.declared.Line.{Line}
use Rattle.script.specs.declared.Event.{Event}
use Rattle.machine.specs.declared.state.Machine.{Machine}
use Rattle.machine.specs.declared.event.Stepped.{Stepped}
use Rattle.bridge.specs.Privilege.{state_of, state_numbers}
use Rattle.bridge.specs.declared.lent_calls.MachineLine.{MachineLine}
use Rattle.bridge.specs.declared.machine_calls.MachineState.{MachineState}
use Rattle.bridge.specs.declared.machine_calls.MachineStepped.{MachineStepped}

unfoldable pub machine_of : MachineState → Machine
machine_of p = record { sys = state_of p.sys; cache = p.cache; irqc = p.irqc; reg = p.sys.reg }

unfoldable pub machine_numbers : Machine → MachineState
machine_numbers M = record { sys = state_numbers M.sys M.reg; cache = M.cache; irqc = M.irqc }

abbrev pub event_of : ℕ → ℕ → ℕ → ℕ → ℕ → Event
event_of kind size aux a b = record { kind = kind; size = size; aux = aux; a = a; b = b }

unfoldable pub step_numbers : Stepped → MachineStepped
step_numbers s =
    record {
      machine = machine_numbers s.machine;
      letter = s.line.letter;
      digits = s.line.digits;
      stall = s.line.stall;
      reads = s.line.reads;
    }

abbrev pub line_numbers : Line → MachineLine
line_numbers l = record { letter = l.letter; digits = l.digits; stall = l.stall; reads = l.reads }
