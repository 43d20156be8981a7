-- What a walk can read, and what is open to users: the words in which isolation is said.
--
--   TableByte m ptbr a == the byte at a lies in a page table reachable from PTBR: in PTBR's page, or in the page that a level-1
--                         word names which the walk would follow
--   Usable m vm e      == e is an entry that a user's access may come to use: a valid one of the TLB, or the leaf that a walk of
--                         some address finds
--   entry_frame e      == the physical page of an entry; a page number drops what passes 32 bits
--   Opened m vm k a    == the byte at a lies in a page that a table leaf or a valid TLB entry opens to users for access k
--
-- Choices that a reader may question. A word that the walk does not follow opens nothing, whatever its bits say. A valid entry counts
-- even where an earlier slot holds the same page: evicting that one exposes it. An entry opens nothing where its virtual page lies at or
-- above 0xFFFF0000, since the check refuses that page before it looks. Bytes outside the map may be table bytes and may be open.
use Rattle.std.specs.Prelude.{◌≡◌, ℕ, ◌/◌, ◌^◌, ◌<◌, true, length, slice_index_or, Some, Ok}
use Rattle.memory.specs.Memory.{Memory, read_at, word_spots}
use Rattle.mmu.specs.Tlb.{no_entry}
use Rattle.mmu.specs.Walk.{table_ok, word_of_table, walk_of}
use Rattle.mmu.specs.Check.{page_addr, permits}
use Rattle.mmu.specs.declared.tlb.TlbEntry.{TlbEntry}
use Rattle.mmu.specs.declared.vm.Vm.{Vm}
use Rattle.mmu.specs.declared.exception.Access.{Access}
pub mod Laws

pub data TableByte (m : Memory) (ptbr a : ℕ) : Type 0 where
  level1 : a / 4096 ≡ ptbr / 4096 → TableByte m ptbr a
  level2 : (i w : ℕ) → i < 1024 → read_at m (word_spots (word_of_table ptbr i)) ≡ Some w → table_ok w ≡ true → a / 4096 ≡ w / 4096 → TableByte m ptbr a

pub data Usable (m : Memory) (vm : Vm) (e : TlbEntry) : Type 0 where
  resident : (i : ℕ) → i < length vm.tlb → slice_index_or vm.tlb i no_entry ≡ e → e.valid ≡ true → Usable m vm e
  leaf : (va : ℕ) → va < 2 ^ 32 → (walk_of m vm.ptbr va).walked ≡ Ok e → Usable m vm e

abbrev pub entry_frame : TlbEntry → ℕ
entry_frame e = page_addr e.ppn / 4096

pub data Opened (m : Memory) (vm : Vm) (k : Access) (a : ℕ) : Type 0 where
  opened : (e : TlbEntry) → Usable m vm e → e.vpn < 0xFFFF0 → permits e k ≡ true → a / 4096 ≡ entry_frame e → Opened m vm k a
