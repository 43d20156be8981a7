-- Demand 3, its premises: what a firmware writer has to see to.
--
--   Op, Aligned o         == a load, store or fetch; "each address a multiple of its size"
--   InPage o              == an access that stays in its page: an aligned one does, and many others
--   InUserMode M          == "in user mode with translation on"
--   Sixteen M             == the TLB has its sixteen slots, as every machine's has
--   hidden a              == the byte at physical address a is hidden: any choice of bytes
--   Alike hidden m m'     == two memories of one map, "alike except in some hidden physical bytes"
--   Sealed hidden m vm    == "No hidden byte lies in a page table reachable from PTBR, or in a page that a table leaf or valid TLB entry opens
--                            to users. No table byte lies in a page so opened for user writing."
--
-- What a table byte is, what opens a page to users and for which access, the MMU's `specs/Opened.antt` says. A hidden byte may lie outside
-- the map, where there is nothing to hide. A choice of bytes is decided address by address, and that loses nothing: outside any set at all two
-- memories that are alike differ at addresses that comparing bytes decides, all of them in the set; that its other bytes stay is `Integrity`. The third premise is asked of table bytes inside the map alone: a store cannot change another.
use Rattle.std.specs.Prelude.{ℕ, ◌+◌, ◌%◌, ◌^◌, ◌≤◌, ◌<◌, ◌≡◌, Bool, true, false, List, [], ◌∷◌, ◌≢◌, length, None}
use Rattle.memory.specs.Memory.{Memory, byte_at}
use Rattle.memory.specs.Memory.Laws.{SameMap}
use Rattle.mmu.specs.Opened.{TableByte, Opened}
use Rattle.mmu.specs.declared.exception.Access.{Access}
use Rattle.mmu.specs.declared.exception.Access.TheVariants.{Write}
use Rattle.mmu.specs.declared.vm.Vm.{Vm}
use Rattle.privilege.specs.Access.{legal_size}
use Rattle.privilege.specs.Confined.{Running}
use Rattle.machine.specs.declared.state.Machine.{Machine}

pub record Op : Type 0 where
  pub kind : Access
  pub addr : ℕ
  pub size : ℕ
  pub value : ℕ

-- an address has 32 bits
abbrev pub Aligned : Op → Type 0
Aligned o = (o.addr < 2 ^ 32) × (o.addr % o.size ≡ 0)

abbrev pub AllAligned : List Op → Type 0
AllAligned [] = Unit {0}
AllAligned (o ∷ os) = Aligned o × AllAligned os

-- of an access whose size is legal; any other is refused
abbrev pub InPage : Op → Type 0
InPage o = (o.addr < 2 ^ 32) × (legal_size o.kind o.size ≡ true → o.addr % 4096 + o.size ≤ 4096)

abbrev pub AllInPage : List Op → Type 0
AllInPage [] = Unit {0}
AllInPage (o ∷ os) = InPage o × AllInPage os

abbrev pub InUserMode : Machine → Type 0
InUserMode M = Running M.sys

abbrev pub Sixteen : Machine → Type 0
Sixteen M = length M.sys.vm.tlb ≡ 16

pub record Alike (hidden : ℕ → Bool) (m m' : Memory) : Type 0 where
  pub map : SameMap m m'
  pub bytes : (a : ℕ) → hidden a ≡ false → byte_at m a ≡ byte_at m' a

pub record Sealed (hidden : ℕ → Bool) (m : Memory) (vm : Vm) : Type 0 where
  pub tables : (a : ℕ) → hidden a ≡ true → ¬ TableByte m vm.ptbr a
  pub pages : (a : ℕ) → hidden a ≡ true → (k : Access) → ¬ Opened m vm k a
  pub unwritable : (a : ℕ) → byte_at m a ≢ None → TableByte m vm.ptbr a → ¬ Opened m vm Write a
