-- The laws of the system registers. Assumes nothing.
--
--   read_number, write_number == a read or write is refused with 3 alone
--   write_refused             == a refused write leaves the state and the registers
use Rattle.std.specs.Prelude.{◌≡◌, ℕ, ◌*◌, ◌/◌, Bool, cond, List, ◌==◌, Option, Some, None, Result, Ok, Err}
use Rattle.std.proofs.Math.Path.{refl}
use Rattle.std.proofs.Common.{ap}
use Rattle.common.specs.Bits.{bit_set}
use Rattle.common.specs.Cases.{absurd_eq, cond_holds}
use Rattle.common.specs.Refusal.{refusal_number}
use Rattle.common.specs.declared.Refusal.{Refusal}
use Rattle.common.specs.declared.Refusal.TheVariants.{Register}
use Rattle.mmu.specs.Vm.{flushed, invalidated}
use Rattle.privilege.specs.Registers.{region_field, region_read, sr_read, vm_enabled, vm_ptbr, vm_fault, written, user_written, region_written, sr_written}
use Rattle.privilege.specs.State.{status_set, with_epc, with_cause, with_vm}
use Rattle.privilege.specs.declared.state.SystemState.{SystemState}
use Rattle.privilege.specs.declared.registers.SrWritten.{SrWritten}

-- "3 REGISTER"
named_three : (x : Refusal) → Register ≡ x → refusal_number x ≡ 3
unfolding refusal_number
named_three x e = rw (← e)

module _ (s : SystemState) (sr : ℕ) (reg : List ℕ) (x : Refusal) where
  -- a read that is refused is so with 3
  abbrev Third : Result ℕ Refusal → Type 0
  Third r = r ≡ Err x → refusal_number x ≡ 3

  value : (v : ℕ) → Third (Ok v)
  value v e = absurd_eq (cc)

  region_value : (p : Option (ℕ × ℕ)) → Third (region_read s p)
  region_value (Some (n, f)) e = absurd_eq (cc)
  region_value None e = named_three x (cc)

  pub read_number : sr_read s sr reg ≡ Err x → refusal_number x ≡ 3
  unfolding sr_read
  read_number =
      cond_holds Third (sr == 0x00) (value _)
      (cond_holds Third (sr == 0x01) (value _)
      (cond_holds Third (sr == 0x02) (value _)
      (cond_holds Third (sr == 0x08) (value _)
      (cond_holds Third (sr == 0x09) (value _)
      (cond_holds Third (sr == 0x0A) (value _)
      (cond_holds Third (sr == 0x40) (value _)
      (cond_holds Third (sr == 0x41) (value _)
      (cond_holds Third (sr == 0x42) (value _)
      (cond_holds Third (sr == 0x43) (value _)
      (cond_holds Third (sr == 0x44) (value _) (region_value (region_field sr))))))))))))

module _ (s : SystemState) (sr v : ℕ) (reg : List ℕ) (x : Refusal) where
  record Kept (w : SrWritten) : Type 0 where
    kept : w.answer ≡ Err x → w ≡ record { sys = s; reg = reg; answer = Err x }
    number : w.answer ≡ Err x → refusal_number x ≡ 3

  done : (w : SrWritten) → w.answer ≡ Ok tt → Kept w
  done w h = record { kept = λ g. absurd_eq (cc); number = λ g. absurd_eq (cc) }

  user : (i : ℕ) → Kept (user_written s i v reg)
  unfolding user_written
  user i = cond_holds Kept s.user (done _ refl) (done _ refl)

  region : (p : Option (ℕ × ℕ)) → Kept (region_written s reg v p)
  region (Some (n, f)) = done _ refl
  region None = record { kept = λ g. ap (λ (a : Result (Unit {0}) Refusal). record { sys = s; reg = reg; answer = a }) g; number = λ g. named_three x (cc) }

  -- a register that is written
  known : (t : Bool) (w rest : SrWritten) → w.answer ≡ Ok tt → Kept rest → Kept (cond t w rest)
  known t w rest h = cond_holds Kept t (done w h)

  all : Kept (sr_written s sr v reg)
  unfolding sr_written
  all =
      known (sr == 0x00) (written (status_set s v) reg) _ refl
      (known (sr == 0x01) (written (with_epc s v) reg) _ refl
      (known (sr == 0x02) (written (with_cause s v) reg) _ refl
      (cond_holds Kept (sr == 0x08) (user 0)
      (cond_holds Kept (sr == 0x09) (user 1)
      (cond_holds Kept (sr == 0x0A) (user 2)
      (known (sr == 0x40) (written (with_vm s (vm_enabled s.vm (bit_set v 0))) reg) _ refl
      (known (sr == 0x41) (written (with_vm s (flushed (vm_ptbr s.vm (v / 4096 * 4096)))) reg) _ refl
      (known (sr == 0x42) (written (with_vm s (vm_fault s.vm v)) reg) _ refl
      (known (sr == 0x43) (written (with_vm s (flushed s.vm)) reg) _ refl
      (known (sr == 0x44) (written (with_vm s (invalidated s.vm v)) reg) _ refl (region (region_field sr))))))))))))

  pub write_refused : (sr_written s sr v reg).answer ≡ Err x → sr_written s sr v reg ≡ record { sys = s; reg = reg; answer = Err x }
  write_refused = all.kept

  pub write_number : (sr_written s sr v reg).answer ≡ Err x → refusal_number x ≡ 3
  write_number = all.number
