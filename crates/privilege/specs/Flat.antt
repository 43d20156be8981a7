-- The privilege state as 135 words that an owner lends, R0 to R31 with it.
--
--   region_at l                       == the region of three words: START, END, FLAGS
--   regions_at l                      == the eight regions of twenty-four words
--   sys_at l                          == the state of the words: STATUS, EPC and CAUSE, the bank, the regions, the translation's
--   reg_at l                          == R0 to R31
--   Becomes l l' s reg                == the words l become l', which stand for s and reg
--   Comes l l' s reg                  == the same over any words: of another number they stay
--   Exchanges l l'                    == R28 to R30 exchanged with the bank
--   Leaves l' r w                     == the words l' and the answer r are what the write w of a register leaves
--   Traps, Returns, ReadsSr, WritesSr == what `enter_trap`, `leave_trap`, `read_sr` and `write_sr` promise over any words
use Rattle.std.specs.Prelude.{◌≡◌, ℕ, ◌+◌, List, [], ◌∷◌, length, Result, Err}
use Rattle.common.specs.declared.Refusal.TheVariants as refusal
use Rattle.layout.specs.Records.{records_of}
use Rattle.layout.specs.Words.{part, word_at, on_at, Over, Reads}
use Rattle.mmu.specs.Flat.{vm_at}
use Rattle.privilege.specs.Registers.{sr_read, sr_written}
use Rattle.privilege.specs.State.{mode_of}
use Rattle.privilege.specs.Trap.{exchanged, trapped, returned}
use Rattle.privilege.specs.declared.flat.traps.Resumed.{Resumed}
use Rattle.privilege.specs.declared.region.Region.{Region}
use Rattle.common.specs.declared.Refusal.{Refusal}
use Rattle.privilege.specs.declared.registers.SrWritten.{SrWritten}
use Rattle.privilege.specs.declared.state.InstructionMode.{InstructionMode}
use Rattle.privilege.specs.declared.state.InstructionMode.TheVariants.{Normal}
use Rattle.privilege.specs.declared.state.SystemState.{SystemState}
use Rattle.privilege.specs.declared.trap.Returned.{Returned}
use Rattle.privilege.specs.declared.trap.Trapped.{Trapped}
pub mod Laws
pub mod Access

-- ---- where the parts stand

abbrev pub bank_from : ℕ
bank_from = 7

abbrev pub regions_from : ℕ
regions_from = bank_from + 3

abbrev pub vm_from : ℕ
vm_from = regions_from + 24

abbrev pub reg_from : ℕ
reg_from = vm_from + 69

abbrev pub system_words : ℕ
system_words = reg_from + 32

-- ---- what they stand for

abbrev pub region_at : List ℕ → Region
region_at l = record { start = word_at l 0; end = word_at l 1; flags = word_at l 2 }

unfoldable pub regions_at : List ℕ → List Region
regions_at l = records_of region_at 3 8 l

unfoldable pub sys_at : List ℕ → SystemState
sys_at l =
    record {
      ie = on_at l 0;
      pie = on_at l 1;
      user = on_at l 2;
      pu = on_at l 3;
      psm = mode_of (on_at l 4);
      epc = word_at l 5;
      cause = word_at l 6;
      other_bank = word_at l bank_from ∷ word_at l (bank_from + 1) ∷ word_at l (bank_from + 2) ∷ [];
      regions = regions_at (part regions_from 24 l);
      vm = vm_at (part vm_from 69 l);
    }

unfoldable pub reg_at : List ℕ → List ℕ
reg_at l = part reg_from 32 l

-- ---- what is promised of them

abbrev pub Becomes : List ℕ → List ℕ → SystemState → List ℕ → Type 0
Becomes l l' s reg = (length l' ≡ length l) × (sys_at l' ≡ s) × (reg_at l' ≡ reg)

abbrev pub Exchanges : List ℕ → List ℕ → Type 0
Exchanges l l' = Becomes l l' (exchanged (sys_at l) (reg_at l)).sys (exchanged (sys_at l) (reg_at l)).reg

-- over any words
abbrev pub Comes : List ℕ → List ℕ → SystemState → List ℕ → Type 0
Comes l l' s reg = Over system_words l l' (tt {0}) (tt {0}) ((sys_at l' ≡ s) × (reg_at l' ≡ reg))

abbrev pub Traps : List ℕ → List ℕ → ℕ → ℕ → InstructionMode → Type 0
Traps l l' epc cause mode =
    Over system_words l l' (tt {0}) (tt {0}) (◌≡◌ {A = Trapped} (record { sys = sys_at l'; reg = reg_at l' }) (trapped (sys_at l) (reg_at l) epc cause mode))

abbrev pub Returns : List ℕ → List ℕ → Resumed → Type 0
Returns l l' r =
    Over system_words l l' r (record { epc = 0; mode = Normal })
    (◌≡◌ {A = Returned} (record { sys = sys_at l'; reg = reg_at l'; epc = r.epc; mode = r.mode }) (returned (sys_at l) (reg_at l)))

abbrev pub Leaves : List ℕ → Result (Unit {0}) Refusal → SrWritten → Type 0
Leaves l' r w = ◌≡◌ {A = SrWritten} (record { sys = sys_at l'; reg = reg_at l'; answer = r }) w

abbrev pub ReadsSr : List ℕ → ℕ → Result ℕ Refusal → Type 0
ReadsSr l sr r = Reads system_words l r (Err refusal.Register) (sr_read (sys_at l) sr (reg_at l))

abbrev pub WritesSr : List ℕ → List ℕ → ℕ → ℕ → Result (Unit {0}) Refusal → Type 0
WritesSr l l' sr v r = Over system_words l l' r (Err refusal.Register) (Leaves l' r (sr_written (sys_at l) sr v (reg_at l)))
