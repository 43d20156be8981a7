-- The privilege state and its STATUS word: document 01, 'Traps and registers'; `SystemState`, `status` and `set_status` of
-- cpu_privilege.rs.
--
--   new_state                                                                   == "Reset leaves IE and PIE set, mode Normal and all else 0": `SystemState::default`
--   status_of s                                                                 == the word STATUS, "bits 0 to 4: IE, PIE, U, PU, PSM": `status`
--   status_set s v                                                              == STATUS written; "A write ignores U": `set_status`
--   is_short, mode_of                                                           == PSM's bit and the instruction mode
--   with_status, with_rest                                                      == the same state with other STATUS bits, or with another rest
--   with_ie, with_user, with_epc, with_cause, with_other, with_regions, with_vm == the same state with another IE, U, EPC and so on
use Rattle.std.specs.Prelude.{ℕ, Bool, true, false, cond, List, [], ◌∷◌, replicate, bit_or}
use Rattle.common.specs.Bits.{bit_set}
use Rattle.mmu.specs.Vm.{new_vm}
use Rattle.mmu.specs.declared.vm.Vm.{Vm}
use Rattle.privilege.specs.declared.region.Region.{Region}
use Rattle.privilege.specs.declared.state.InstructionMode.{InstructionMode}
use Rattle.privilege.specs.declared.state.InstructionMode.TheVariants.{Normal, Short}
use Rattle.privilege.specs.declared.state.SystemState.{SystemState}

abbrev pub is_short : InstructionMode → Bool
is_short Normal = false
is_short Short = true

abbrev pub mode_of : Bool → InstructionMode
mode_of short = cond short Short Normal

abbrev pub no_region : Region
no_region = record { start = 0; end = 0; flags = 0 }

unfoldable pub no_regions : List Region
no_regions = replicate 8 no_region

abbrev pub new_state : SystemState
new_state =
    record {
      ie = true;
      pie = true;
      user = false;
      pu = false;
      psm = Normal;
      epc = 0;
      cause = 0;
      other_bank = 0 ∷ 0 ∷ 0 ∷ [];
      regions = no_regions;
      vm = new_vm;
    }

-- a word's bit, if it is on
abbrev pub bit_if : Bool → ℕ → ℕ
bit_if on bit = cond on bit 0

abbrev pub status_bits : Bool → Bool → Bool → Bool → Bool → ℕ
status_bits ie pie user pu short = bit_or (bit_or (bit_or (bit_or (bit_if ie 1) (bit_if pie 2)) (bit_if user 4)) (bit_if pu 8)) (bit_if short 16)

unfoldable pub status_of : SystemState → ℕ
status_of s = status_bits s.ie s.pie s.user s.pu (is_short s.psm)

-- ---- the same state with a part changed

abbrev pub with_status : SystemState → Bool → Bool → Bool → Bool → InstructionMode → SystemState
with_status s ie pie user pu psm =
    record { ie = ie; pie = pie; user = user; pu = pu; psm = psm; epc = s.epc; cause = s.cause; other_bank = s.other_bank; regions = s.regions; vm = s.vm }

-- and all that is not in STATUS
abbrev pub with_rest : SystemState → ℕ → ℕ → List ℕ → List Region → Vm → SystemState
with_rest s epc cause bank regions vm =
    record { ie = s.ie; pie = s.pie; user = s.user; pu = s.pu; psm = s.psm; epc = epc; cause = cause; other_bank = bank; regions = regions; vm = vm }

abbrev pub with_ie : SystemState → Bool → SystemState
with_ie s ie = with_status s ie s.pie s.user s.pu s.psm

abbrev pub with_user : SystemState → Bool → SystemState
with_user s user = with_status s s.ie s.pie user s.pu s.psm

abbrev pub with_epc : SystemState → ℕ → SystemState
with_epc s epc = with_rest s epc s.cause s.other_bank s.regions s.vm

abbrev pub with_cause : SystemState → ℕ → SystemState
with_cause s cause = with_rest s s.epc cause s.other_bank s.regions s.vm

abbrev pub with_other : SystemState → List ℕ → SystemState
with_other s bank = with_rest s s.epc s.cause bank s.regions s.vm

abbrev pub with_regions : SystemState → List Region → SystemState
with_regions s regions = with_rest s s.epc s.cause s.other_bank regions s.vm

abbrev pub with_vm : SystemState → Vm → SystemState
with_vm s vm = with_rest s s.epc s.cause s.other_bank s.regions vm

-- ---- a write of STATUS

unfoldable pub status_set : SystemState → ℕ → SystemState
status_set s v = with_status s (bit_set v 0) (bit_set v 1) s.user (bit_set v 3) (mode_of (bit_set v 4))
