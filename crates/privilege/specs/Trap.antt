-- Traps: document 01, 'Traps and registers'; `swap_bank`, `enter_trap` and `leave_trap` of cpu_privilege.rs.
--
--   bank_of reg               == R28 to R30
--   with_bank reg b           == the registers with b in R28 to R30
--   exchanged s reg           == R28 to R30 exchanged with the bank: `swap_bank`
--   trapped s reg epc cause m == a trap: `enter_trap`
--   enters_user s             == IRET "enters user mode only if PU is set and U is not"
--   returned s reg            == IRET: `leave_trap`
use Rattle.std.specs.Prelude.{ℕ, Bool, true, false, cond, not, ◌&&◌, List, [], ◌∷◌, slice_index, slice_set}
use Rattle.privilege.specs.State.{with_status, with_ie, with_user, with_epc, with_cause, with_other}
use Rattle.privilege.specs.declared.state.InstructionMode.{InstructionMode}
use Rattle.privilege.specs.declared.state.SystemState.{SystemState}
use Rattle.privilege.specs.declared.trap.Trapped.{Trapped}
use Rattle.privilege.specs.declared.trap.Returned.{Returned}

abbrev pub bank_of : List ℕ → List ℕ
bank_of reg = slice_index reg 28 ∷ slice_index reg 29 ∷ slice_index reg 30 ∷ []

abbrev pub with_bank : List ℕ → List ℕ → List ℕ
with_bank reg b = slice_set (slice_set (slice_set reg 28 (slice_index b 0)) 29 (slice_index b 1)) 30 (slice_index b 2)

abbrev pub exchanged : SystemState → List ℕ → Trapped
exchanged s reg = record { sys = with_other s (bank_of reg); reg = with_bank reg s.other_bank }

-- "A trap stores EPC, CAUSE and mode, copies IE to PIE and U to PU, clears IE, and leaves user mode"
abbrev pub saved : SystemState → ℕ → ℕ → InstructionMode → SystemState
saved s epc cause mode = with_cause (with_epc (with_status s false s.ie false s.user mode) epc) cause

-- "exchanging R28 to R30 with the bank if U was set"
unfoldable pub trapped : SystemState → List ℕ → ℕ → ℕ → InstructionMode → Trapped
trapped s reg epc cause mode =
    let t = saved s epc cause mode in
    cond s.user (exchanged t reg) (record { sys = t; reg = reg })

abbrev pub enters_user : SystemState → Bool
enters_user s = s.pu && not s.user

-- "IRET copies PIE to IE, exchanges and enters user mode only if PU is set and U is not, and answers EPC and mode"
unfoldable pub returned : SystemState → List ℕ → Returned
returned s reg =
    let t = with_ie s s.pie in
    let e = exchanged t reg in
    cond (enters_user s)
    (record { sys = with_user e.sys true; reg = e.reg; epc = s.epc; mode = s.psm })
    (record { sys = t; reg = reg; epc = s.epc; mode = s.psm })
