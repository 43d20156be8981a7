-- What is found in the written tables, in the words of the walk and of isolation.
--
--   made c             == the memory with the call's tables, where it is not refused
--   Listed x l         == x is one of the mappings l
--   entry_of x         == the entry that x lists: its pages and its bits
--   InFrames first n a == the byte at a lies in the n frames from first on
--   NoEntry vm         == no entry of the TLB is valid, as after the write of PTBR
--   Opens l k a        == the byte at a lies in a page that l opens to users for access k
use Rattle.std.specs.Prelude.{ℕ, ◌+◌, ◌*◌, ◌/◌, ◌≤◌, ◌<◌, ◌≡◌, true, false, List, [], ◌∷◌, ◌⊎◌, get_or}
use Rattle.common.specs.Bits.{bit_set}
use Rattle.memory.specs.Memory.{Memory}
use Rattle.mmu.specs.Exception.{access_bit}
use Rattle.mmu.specs.Tlb.{no_entry}
use Rattle.mmu.specs.declared.exception.Access.{Access}
use Rattle.mmu.specs.declared.vm.Vm.{Vm}
use Rattle.mmu.specs.declared.tlb.TlbEntry.{TlbEntry}
use Rattle.tables.specs.declared.mapping.Mapping.{Mapping}
use Rattle.tables.specs.Words.{put_words}
use Rattle.tables.specs.Tables.{image, Call, list_of}
pub mod Laws

abbrev pub made : Call → Memory
made c = put_words c.memory c.first (image c.first c.vpns (list_of c))

abbrev pub Listed : Mapping → List Mapping → Type 0
Listed x [] = ⊥
Listed x (y ∷ l) = (x ≡ y) ⊎ Listed x l

abbrev pub entry_of : Mapping → TlbEntry
entry_of x = record { valid = true; vpn = x.vpn; ppn = x.ppn; flags = x.bits }

abbrev pub InFrames : ℕ → ℕ → ℕ → Type 0
InFrames first n a = (first ≤ a) × (a < first + 4096 * n)

abbrev pub NoEntry : Vm → Type 0
NoEntry vm = (i : ℕ) → (get_or vm.tlb i no_entry).valid ≡ false

pub data Opens (l : List Mapping) (k : Access) (a : ℕ) : Type 0 where
  opens : (x : Mapping) → Listed x l → bit_set x.bits 4 ≡ true → bit_set x.bits (access_bit k) ≡ true → a / 4096 ≡ x.ppn → Opens l k a
