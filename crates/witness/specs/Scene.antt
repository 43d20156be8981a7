-- Machines for the examples of demand 3, over a memory that is given by its words.
--
--   on_page h           == every byte of physical page h is hidden
--   tlb_of e            == sixteen slots, all empty but the first, which has e
--   user_vm, user_state == user mode and translation on, PTBR at page q, the TLB l, and slot 0 the next victim
--   machine_with p s    == a new machine over p pages, with a miss penalty of 8 and the privilege state s
--   load, store         == an access of a run
--   answer o n r        == its answer: outcome, stall, walk reads
use Rattle.std.specs.Prelude.{ℕ, ◌*◌, ◌/◌, Bool, true, List, ◌∷◌, eqb, replicate, Result}
use Rattle.mmu.specs.Tlb.{no_entry}
use Rattle.mmu.specs.declared.exception.Access.TheVariants.{Read, Write}
use Rattle.mmu.specs.declared.tlb.TlbEntry.{TlbEntry}
use Rattle.mmu.specs.declared.vm.Vm.{Vm}
use Rattle.privilege.specs.State.{new_state, with_user, with_vm}
use Rattle.privilege.specs.declared.state.SystemState.{SystemState}
use Rattle.machine.specs.State.{new_machine, with_sys}
use Rattle.machine.specs.declared.access.Fault.{Fault}
use Rattle.machine.specs.declared.state.Machine.{Machine}
use Rattle.isolation.specs.Premises.{Op}
use Rattle.isolation.specs.Demand3.{Answer}

abbrev pub on_page : ℕ → ℕ → Bool
on_page h a = eqb (a / 4096) h

abbrev pub tlb_of : TlbEntry → List TlbEntry
tlb_of e = e ∷ replicate 15 no_entry

abbrev pub user_vm : ℕ → List TlbEntry → Vm
user_vm q l = record { enabled = true; ptbr = q * 4096; vfault = 0; tlb = l; next_victim = 0 }

abbrev pub user_state : ℕ → List TlbEntry → SystemState
user_state q l = with_vm (with_user new_state true) (user_vm q l)

abbrev pub machine_with : ℕ → SystemState → Machine
machine_with p s = with_sys (new_machine 0 (p * 4096) 8) s

abbrev pub load : ℕ → ℕ → Op
load n a = record { kind = Read; addr = a; size = n; value = 0 }

abbrev pub store : ℕ → ℕ → ℕ → Op
store n a v = record { kind = Write; addr = a; size = n; value = v }

abbrev pub answer : Result ℕ Fault → ℕ → ℕ → Answer
answer outcome stall reads = record { outcome = outcome; stall = stall; reads = reads }
