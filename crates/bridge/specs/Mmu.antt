-- The MMU's answers as numbers, since an enum does not cross into C.
--
--   access_of n          == the access that a number names: 0 reads, 1 writes, any other fetches
--   cause_number v       == a verdict's CAUSE, 0 where it is allowed
--   fault_address v      == the address that a page fault carries, else 0
--   checked_numbers c    == a check's answer
--   slot_number s        == the slot of a search, 16 where it found none
--   walked_numbers w     == a walk's answer: its entry, or zeros and whether a word could not be read
use Rattle.std.specs.Prelude.{ℕ, true, false, cond, eqb, Option, Some, None, Result, Ok, Err}
use Rattle.mmu.specs.Exception.{cause_of}
use Rattle.mmu.specs.Tlb.{no_entry}
use Rattle.mmu.specs.declared.tlb.TlbEntry.{TlbEntry}
use Rattle.mmu.specs.declared.walk.WalkFault.TheVariants as walked
use Rattle.mmu.specs.declared.walk.WalkFault.{WalkFault}
use Rattle.mmu.specs.declared.walk.WalkAnswer.{WalkAnswer}
use Rattle.mmu.specs.declared.exception.Access.{Access}
use Rattle.mmu.specs.declared.exception.Access.TheVariants.{Read, Write, Fetch}
use Rattle.mmu.specs.declared.exception.Exception.{Exception}
use Rattle.mmu.specs.declared.exception.Exception.TheVariants.{IllegalInstruction, BusError, Syscall, PrivilegedInstruction, ProtectionFault, PageFault}
use Rattle.mmu.specs.declared.check.Checked.{Checked}
use Rattle.bridge.specs.declared.mmu_calls.MmuChecked.{MmuChecked}
use Rattle.bridge.specs.declared.mmu_calls.MmuWalked.{MmuWalked}

unfoldable pub access_of : ℕ → Access
access_of n = cond (eqb n 0) Read (cond (eqb n 1) Write Fetch)

unfoldable pub cause_number : Result (Unit {0}) Exception → ℕ
cause_number (Ok tt) = 0
cause_number (Err e) = cause_of e

unfoldable pub address_of : Exception → ℕ
address_of IllegalInstruction = 0
address_of BusError = 0
address_of (Syscall imm) = 0
address_of PrivilegedInstruction = 0
address_of (ProtectionFault k) = 0
address_of (PageFault k protection addr) = addr

unfoldable pub fault_address : Result (Unit {0}) Exception → ℕ
fault_address (Ok tt) = 0
fault_address (Err e) = address_of e

unfoldable pub checked_numbers : Checked → MmuChecked
checked_numbers c = record { vm = c.vm; cause = cause_number c.verdict; addr = fault_address c.verdict; reads = c.reads }

unfoldable pub slot_number : Option ℕ → ℕ
slot_number (Some i) = i
slot_number None = 16

-- by what the walk found, after n words read
unfoldable pub walked_by : ℕ → Result TlbEntry WalkFault → MmuWalked
walked_by n (Ok e) = record { entry = e; bus_error = false; reads = n }
walked_by n (Err walked.Missing) = record { entry = no_entry; bus_error = false; reads = n }
walked_by n (Err walked.BusError) = record { entry = no_entry; bus_error = true; reads = n }

abbrev pub walked_numbers : WalkAnswer → MmuWalked
walked_numbers w = walked_by w.reads w.walked
