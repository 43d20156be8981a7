-- The rule of a resident page, from the laws of the parts. Assumes nothing.
use Rattle.std.proofs.Common.{◌≡◌, ℕ, Result, Ok, Err, refl, sym, ap, ◌∙◌}
use Rattle.common.specs.Cases.{absurd_eq}
use Rattle.memory.specs.Memory.{Memory}
use Rattle.mmu.specs.Check.{judged}
use Rattle.mmu.specs.Resident.{in_slot}
use Rattle.mmu.specs.Resident.Laws.{judged_open, judged_only, permits_when, permits_only}
use Rattle.machine.specs.declared.access.Fault.TheVariants.{Exception}
use Rattle.mmu.specs.declared.exception.Access.{Access}
use Rattle.mmu.specs.declared.exception.Exception as exception
use Rattle.mmu.specs.declared.tlb.TlbEntry.{TlbEntry}
use Rattle.privilege.specs.Access.{permission_of, check_access}
use Rattle.privilege.specs.Confined.{aligned_stays}
use Rattle.privilege.specs.Resident.{resident_check}
use Rattle.privilege.specs.declared.check.AccessChecked.{AccessChecked}
use Rattle.machine.specs.Access.{access_of}
use Rattle.machine.specs.Access.Laws.{allowed_answers}
use Rattle.machine.specs.Resident.{new_tidy, reset_tidy, run_tidy, script_addressed}
use Rattle.machine.specs.State.{new_machine, reset_of}
use Rattle.machine.specs.declared.state.Machine.{Machine}
use Rattle.residency.specs.Residency.{tlb_of, Granted, Held, Residency}

only_allowed : (v : Result (Unit {0}) exception.Exception) → permission_of v ≡ Ok tt → v ≡ Ok tt
only_allowed (Ok tt) h = refl
only_allowed (Err e) h = absurd_eq (cc)

module _ (M : Machine) (m : Memory) (a n : ℕ) (k : Access) (i : ℕ) (h : Held M m a n k i) where
  abbrev entry : TlbEntry
  entry = in_slot (tlb_of M) i

  abbrev answer : AccessChecked
  answer = record { sys = M.sys; permission = permission_of (judged entry k a); reads = 0 }

  decided : check_access m M.sys a n k ≡ answer
  decided = resident_check m M.sys a n k h.small h.tidy i h.map h.size h.translated h.stays h.resident

  passes : Granted entry k → (check_access m M.sys a n k).permission ≡ Ok tt
  passes g = ap (λ (c : AccessChecked). c.permission) decided ∙ ap permission_of (judged_open entry k a (permits_when entry k g.user g.bit g.page))

  only : (check_access m M.sys a n k).permission ≡ Ok tt → Granted entry k
  only p =
      let allowed = only_allowed (judged entry k a) (ap (λ (c : AccessChecked). c.permission) (sym decided) ∙ p) in
      let bits = permits_only entry k (judged_only entry k a allowed) in
      record { user = bits.0; bit = bits.1; page = bits.2 }

  no_exception : (v : ℕ) → Granted entry k → (x : exception.Exception) → (access_of k M m a n v).accessed.outcome ≡ Err (Exception x) → ⊥
  no_exception v g = allowed_answers k M m a n v (passes g)

pub holds : Residency
holds = record {
  from_reset = λ M m es small. run_tidy es (reset_of M) m small (reset_tidy M);
  from_new = λ base len penalty m es small. run_tidy es (new_machine base len penalty) m small (new_tidy base len penalty);
  from_script = λ base len penalty m n s at h. (run_tidy _ (new_machine base len penalty) m (script_addressed n s at h) (new_tidy base len penalty)).1;
  aligned = λ a n k legal al. aligned_stays k a n al legal;
  passes = passes;
  only = only;
  no_reads = λ M m a n k i h. ap (λ (c : AccessChecked). c.reads) (decided M m a n k i h);
  nothing_changed = λ M m a n k i h. ap (λ (c : AccessChecked). c.sys) (decided M m a n k i h);
  no_exception = λ M m a n v k i h. no_exception M m a n k i h v;
  whatever_tables = λ M m m' a n k i h h'. decided M m a n k i h ∙ sym (decided M m' a n k i h');
}
