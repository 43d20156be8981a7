-- The laws of a step. Assumes nothing.
--
--   step_access   == kinds 0 to 2 are accesses
--   step_lent     == a step leaves the map's base: what it leaves is the same map over the bytes
use Rattle.std.specs.Prelude.{◌≡◌, ℕ, ◌<◌, nat_lt, refl}
use Rattle.std.proofs.Common.{ap, lt-ltb}
use Rattle.common.specs.Cases.{cond_case}
use Rattle.memory.specs.Memory.{Memory, lent}
use Rattle.script.specs.declared.Event.{Event}
use Rattle.machine.specs.Access.{access_of}
use Rattle.machine.specs.Access.Laws.{access_base}
use Rattle.machine.specs.Event.{Step, access_kind, stored_by, from_access, access_event, step_of}
use Rattle.machine.specs.declared.state.Machine.{Machine}

module _ (M : Machine) (m : Memory) (e : Event) where
  access_event_base : (access_event M m e).memory.base ≡ m.base
  unfolding access_event
  access_event_base = access_base (access_kind e.kind) M m e.a e.size (stored_by e)

  pub step_access : e.kind < 3 → step_of M m e ≡ from_access (access_of (access_kind e.kind) M m e.a e.size (stored_by e))
  unfolding step_of access_event
  step_access h = rw (lt-ltb e.kind 3 h)

  step_base : (step_of M m e).memory.base ≡ m.base
  unfolding step_of
  step_base = cond_case (λ (s : Step). s.memory.base ≡ m.base) (nat_lt e.kind 3) (λ h. access_event_base) (λ h. refl)

  pub step_lent : (step_of M m e).memory ≡ lent m.base (step_of M m e).memory.bytes
  step_lent = ap (λ (b : ℕ). lent b (step_of M m e).memory.bytes) step_base
