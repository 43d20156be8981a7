-- STATUS as the code makes and reads it. Assumes nothing.
use Rattle.std.proofs.Common.{◌≡◌, ℕ, Bool, not, eqb, ◌∙◌, bit_and}
use Rattle.common.specs.Bits.Laws.{flag_is}
use Rattle.privilege.specs.State.{is_short, mode_of, status_bits, status_of, with_status, status_set}
use Rattle.privilege.specs.declared.state.InstructionMode.{InstructionMode}
use Rattle.privilege.specs.declared.state.SystemState.{SystemState}

pub status_is : (s : SystemState) (w : ℕ) (short : Bool) → short ≡ is_short s.psm → w ≡ status_bits s.ie s.pie s.user s.pu short → w ≡ status_of s
unfolding status_of
status_is s w short p e = e ∙ rw p

pub status_set_lem : (s r : SystemState) (v : ℕ) (m : InstructionMode) → m ≡ mode_of (not (eqb (bit_and v 16) 0))
    → r ≡ with_status s (not (eqb (bit_and v 1) 0)) (not (eqb (bit_and v 2) 0)) s.user (not (eqb (bit_and v 8) 0)) m → r ≡ status_set s v
unfolding status_set
status_set_lem s r v m p q = q ∙ rw (p, flag_is v 0, flag_is v 1, flag_is v 3, flag_is v 4)
