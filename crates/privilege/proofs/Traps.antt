-- The ways through a trap's entry and return. Assumes nothing.
use Rattle.std.proofs.Common.{◌≡◌, ℕ, Bool, true, false, List}
use Rattle.std.proofs.Math.Bool.{and-true, and-false}
use Rattle.privilege.specs.State.{with_status, with_ie, with_user, with_epc, with_cause, with_other}
use Rattle.privilege.specs.Trap.{bank_of, with_bank, exchanged, trapped, enters_user, returned}
use Rattle.privilege.specs.declared.state.InstructionMode.{InstructionMode}
use Rattle.privilege.specs.declared.state.SystemState.{SystemState}
use Rattle.privilege.specs.declared.trap.Trapped.{Trapped}

pub exchanged_is : (s : SystemState) (reg live out : List ℕ) → live ≡ bank_of reg → out ≡ with_bank reg s.other_bank
    → ◌≡◌ {A = Trapped} (record { sys = with_other s live; reg = out }) (exchanged s reg)
exchanged_is s reg live out p q = rw (p, q)

-- `enter_trap`, after the STATUS bits, EPC and CAUSE are stored
module _ (s t : SystemState) (reg : List ℕ) (epc cause : ℕ) (mode : InstructionMode) (is : t ≡ with_status s false s.ie false s.user mode) where
  pub from_user : (e : Trapped) → e ≡ exchanged (with_cause (with_epc t epc) cause) reg → s.user ≡ true → e ≡ trapped s reg epc cause mode
  unfolding trapped
  from_user e p h = rw (p, is, h)

  pub from_supervisor : s.user ≡ false → record { sys = with_cause (with_epc t epc) cause; reg = reg } ≡ trapped s reg epc cause mode
  unfolding trapped
  from_supervisor h = rw (is, h)

-- `enters_user`
module _ (s : SystemState) where
  pub no_entry_lem : s.user ≡ true → false ≡ enters_user s
  no_entry_lem h = rw (h, and-false s.pu)

  pub entry : s.user ≡ false → s.pu ≡ enters_user s
  entry h = rw (h, and-true s.pu)

-- `leave_trap`
module _ (s : SystemState) (reg : List ℕ) (enters : Bool) (is : enters ≡ enters_user s) where
  pub to_user : (e : Trapped) → enters ≡ true → e ≡ exchanged (with_ie s s.pie) reg
      → record { sys = with_user e.sys true; reg = e.reg; epc = s.epc; mode = s.psm } ≡ returned s reg
  unfolding returned
  to_user e h p = rw (p, ← is, h)

  pub stays : enters ≡ false → record { sys = with_ie s s.pie; reg = reg; epc = s.epc; mode = s.psm } ≡ returned s reg
  unfolding returned
  stays h = rw (← is, h)
