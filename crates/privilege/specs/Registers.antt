-- The system registers: document 01, 'Traps and registers'; `region_field`, `read_sr` and `write_sr` of cpu_privilege.rs.
--
--   region_field sr               == the region and field of a register number, or none: `region_field`
--   user_read, user_written       == "user R28 to R30": the live registers in user mode, the bank otherwise
--   sr_read s sr reg              == a register read: `read_sr`
--   sr_written s sr v reg         == a register written: `write_sr`
--   vm_enabled, vm_ptbr, vm_fault == translation's state with another VCTL, PTBR or VFAULT
--
-- An unknown number is what is left when all the others have been asked, as in the Rust; `Meaning` lists the known ones.
use Rattle.std.specs.Prelude.{ℕ, ◌+◌, ◌-◌, ◌*◌, ◌/◌, ◌%◌, Bool, cond, ◌&&◌, List, ◌==◌, nat_le, nat_lt, slice_index, slice_index_or, slice_set, Option, Some, None, Result, Ok, Err}
use Rattle.common.specs.Bits.{bit_set}
use Rattle.common.specs.declared.Refusal.TheVariants as refusal
use Rattle.mmu.specs.Vm.{flushed, invalidated}
use Rattle.mmu.specs.declared.vm.Vm.{Vm}
use Rattle.privilege.specs.Region.{field_of, field_written}
use Rattle.privilege.specs.State.{no_region, bit_if, status_of, status_set, with_epc, with_cause, with_other, with_regions, with_vm}
use Rattle.privilege.specs.declared.state.SystemState.{SystemState}
use Rattle.common.specs.declared.Refusal.{Refusal}
use Rattle.privilege.specs.declared.registers.SrWritten.{SrWritten}
pub mod Laws

-- "0x10 + 4n + 0, 1, 2 region n START, END, FLAGS (n 0 to 7)"
unfoldable pub region_field : ℕ → Option (ℕ × ℕ)
region_field sr =
    cond (nat_le 0x10 sr && nat_lt ((sr - 0x10) / 4) 8 && nat_lt ((sr - 0x10) % 4) 3) (Some (((sr - 0x10) / 4), ((sr - 0x10) % 4))) None

-- ---- reading

unfoldable pub user_read : SystemState → ℕ → List ℕ → ℕ
user_read s i reg = cond s.user (slice_index reg (28 + i)) (slice_index s.other_bank i)

abbrev pub region_read : SystemState → Option (ℕ × ℕ) → Result ℕ Refusal
region_read s (Some (n, f)) = Ok (field_of (slice_index_or s.regions n no_region) f)
region_read s None = Err refusal.Register

unfoldable pub sr_read : SystemState → ℕ → List ℕ → Result ℕ Refusal
sr_read s sr reg =
    cond (sr == 0x00) (Ok (status_of s))
    (cond (sr == 0x01) (Ok s.epc)
    (cond (sr == 0x02) (Ok s.cause)
    (cond (sr == 0x08) (Ok (user_read s 0 reg))
    (cond (sr == 0x09) (Ok (user_read s 1 reg))
    (cond (sr == 0x0A) (Ok (user_read s 2 reg))
    (cond (sr == 0x40) (Ok (bit_if s.vm.enabled 1))
    (cond (sr == 0x41) (Ok s.vm.ptbr)
    (cond (sr == 0x42) (Ok s.vm.vfault)
    (cond (sr == 0x43) (Ok 0)
    (cond (sr == 0x44) (Ok 0)
    (region_read s (region_field sr))))))))))))

-- ---- writing

abbrev pub vm_enabled : Vm → Bool → Vm
vm_enabled vm on = record { enabled = on; ptbr = vm.ptbr; vfault = vm.vfault; tlb = vm.tlb; next_victim = vm.next_victim }

abbrev pub vm_ptbr : Vm → ℕ → Vm
vm_ptbr vm ptbr = record { enabled = vm.enabled; ptbr = ptbr; vfault = vm.vfault; tlb = vm.tlb; next_victim = vm.next_victim }

abbrev pub vm_fault : Vm → ℕ → Vm
vm_fault vm vfault = record { enabled = vm.enabled; ptbr = vm.ptbr; vfault = vfault; tlb = vm.tlb; next_victim = vm.next_victim }

abbrev pub written : SystemState → List ℕ → SrWritten
written s reg = record { sys = s; reg = reg; answer = (Ok tt) }

unfoldable pub user_written : SystemState → ℕ → ℕ → List ℕ → SrWritten
user_written s i v reg = cond s.user (written s (slice_set reg (28 + i) v)) (written (with_other s (slice_set s.other_bank i v)) reg)

abbrev pub region_written : SystemState → List ℕ → ℕ → Option (ℕ × ℕ) → SrWritten
region_written s reg v (Some (n, f)) = written (with_regions s (field_written s.regions n f v)) reg
region_written s reg v None = record { sys = s; reg = reg; answer = Err refusal.Register }

-- "A PTBR write clears its low 12 bits and flushes. VCTL keeps bit 0 and flushes nothing."
unfoldable pub sr_written : SystemState → ℕ → ℕ → List ℕ → SrWritten
sr_written s sr v reg =
    cond (sr == 0x00) (written (status_set s v) reg)
    (cond (sr == 0x01) (written (with_epc s v) reg)
    (cond (sr == 0x02) (written (with_cause s v) reg)
    (cond (sr == 0x08) (user_written s 0 v reg)
    (cond (sr == 0x09) (user_written s 1 v reg)
    (cond (sr == 0x0A) (user_written s 2 v reg)
    (cond (sr == 0x40) (written (with_vm s (vm_enabled s.vm (bit_set v 0))) reg)
    (cond (sr == 0x41) (written (with_vm s (flushed (vm_ptbr s.vm (v / 4096 * 4096)))) reg)
    (cond (sr == 0x42) (written (with_vm s (vm_fault s.vm v)) reg)
    (cond (sr == 0x43) (written (with_vm s (flushed s.vm)) reg)
    (cond (sr == 0x44) (written (with_vm s (invalidated s.vm v)) reg)
    (region_written s reg v (region_field sr))))))))))))
