-- What the definitions mean, line by line: document 01's sentences of 'Traps and registers', of regions, of the check, of data and of the debugger's view as laws.
--
--   named         == the register numbers that stand alone
--   is_region sr  == the number is a region's: 0x10 to 0x2E, but for the fourth of each four
--   known sr      == the number is a register's
--   Registers reg == R0 to R31, as every register file is
--   Meaning       == the laws, one field a sentence
use Rattle.std.specs.Prelude.{◌≡◌, ℕ, ◌+◌, ◌*◌, ◌/◌, ◌%◌, ◌^◌, ◌<◌, ◌≤◌, Bool, true, false, cond, ◌&&◌, ◌||◌, List, [], ◌∷◌, length, get_or, ◌==◌, ◌≢◌, nat_le, nat_lt, slice_index, slice_index_or, slice_set, Some, None, Ok, Err}
use Rattle.common.specs.Bits.{bit_set}
use Rattle.common.specs.Bytes.{big_endian, bytes_of}
use Rattle.common.specs.declared.Refusal.{Refusal}
use Rattle.common.specs.declared.Refusal.TheVariants.{Size, Map, Register}
use Rattle.memory.specs.Gate.{map_good}
use Rattle.memory.specs.Memory.{Memory, writable, byte_at, put_byte, put_at, all_writable}
use Rattle.privilege.specs.declared.check.AccessError.TheVariants.{Denied, Refused}
use Rattle.privilege.specs.declared.transfer.DataError.TheVariants.{BusError}
use Rattle.mmu.specs.Check.{check_each, pages_of}
use Rattle.mmu.specs.Exception.{region_bit}
use Rattle.mmu.specs.Tlb.{no_entry, no_entries}
use Rattle.mmu.specs.Vm.{slot_of}
use Rattle.mmu.specs.declared.exception.Access.{Access}
use Rattle.mmu.specs.declared.exception.Exception.TheVariants.{ProtectionFault}
use Rattle.mmu.specs.declared.vm.Vm.{Vm}
use Rattle.privilege.specs.Access.{data_size, legal_size, access_answered, from_pages, check_access, allows_of, translating_of}
use Rattle.privilege.specs.Debug.{mapped_to, debug_translated, slot_view}
use Rattle.mmu.specs.Tlb.Laws.{mark_dropped}
use Rattle.privilege.specs.Region.{grants_of, byte_allowed, field_of, with_field}
use Rattle.privilege.specs.Registers.{written, sr_read, sr_written, vm_enabled}
use Rattle.privilege.specs.State.{no_region, bit_if, is_short, mode_of, status_of, status_set, with_ie, with_status, with_user, with_epc, with_cause, with_other, with_regions, with_vm}
use Rattle.privilege.specs.Transfer.{physical_of, spots, load_at, store_at, memory_at}
use Rattle.privilege.specs.Trap.{bank_of, with_bank, trapped, returned, enters_user}
use Rattle.privilege.specs.declared.region.Region.{Region}
use Rattle.privilege.specs.declared.state.InstructionMode.{InstructionMode}
use Rattle.privilege.specs.declared.state.SystemState.{SystemState}

abbrev pub named : List ℕ
named = 0x00 ∷ 0x01 ∷ 0x02 ∷ 0x08 ∷ 0x09 ∷ 0x0A ∷ 0x40 ∷ 0x41 ∷ 0x42 ∷ 0x43 ∷ 0x44 ∷ []

abbrev pub is_region : ℕ → Bool
is_region sr = nat_le 0x10 sr && nat_le sr 0x2E && nat_lt (sr % 4) 3

-- one of the numbers, or a region's
abbrev pub listed : ℕ → List ℕ → Bool
listed sr [] = is_region sr
listed sr (x ∷ l) = sr == x || listed sr l

abbrev pub known : ℕ → Bool
known sr = listed sr named

abbrev pub Registers : List ℕ → Type 0
Registers reg = length reg ≡ 32

pub record Meaning : Type 0 where
  -- ---- STATUS: "bits 0 to 4: IE, PIE, U, PU, PSM"
  pub status_bits_lem : (s : SystemState) →
      (bit_set (status_of s) 0 ≡ s.ie)
      × (bit_set (status_of s) 1 ≡ s.pie)
      × (bit_set (status_of s) 2 ≡ s.user)
      × (bit_set (status_of s) 3 ≡ s.pu)
      × (bit_set (status_of s) 4 ≡ is_short s.psm)
  pub status_small : (s : SystemState) → status_of s < 32
  -- "A write ignores U": the four other bits are stored, and nothing else moves
  pub status_written : (s : SystemState) (v : ℕ) → status_set s v ≡ with_status s (bit_set v 0) (bit_set v 1) s.user (bit_set v 3) (mode_of (bit_set v 4))
  pub status_user : (s : SystemState) (v : ℕ) (reg : List ℕ) → (sr_written s 0x00 v reg).sys.user ≡ s.user
  -- ---- traps: "stores EPC, CAUSE and mode, copies IE to PIE and U to PU, clears IE, and leaves user mode"
  pub trap_stores : (s : SystemState) (reg : List ℕ) (epc cause : ℕ) (mode : InstructionMode) →
      ((trapped s reg epc cause mode).sys.epc ≡ epc)
      × ((trapped s reg epc cause mode).sys.cause ≡ cause)
      × ((trapped s reg epc cause mode).sys.psm ≡ mode)
  pub trap_copies : (s : SystemState) (reg : List ℕ) (epc cause : ℕ) (mode : InstructionMode) →
      ((trapped s reg epc cause mode).sys.pie ≡ s.ie)
      × ((trapped s reg epc cause mode).sys.pu ≡ s.user)
      × ((trapped s reg epc cause mode).sys.ie ≡ false)
      × ((trapped s reg epc cause mode).sys.user ≡ false)
  -- "exchanging R28 to R30 with the bank if U was set", and not if it was not
  pub trap_exchanges : (s : SystemState) (reg : List ℕ) (epc cause : ℕ) (mode : InstructionMode) → s.user ≡ true →
      ((trapped s reg epc cause mode).reg ≡ with_bank reg s.other_bank) × ((trapped s reg epc cause mode).sys.other_bank ≡ bank_of reg)
  pub trap_keeps : (s : SystemState) (reg : List ℕ) (epc cause : ℕ) (mode : InstructionMode) → s.user ≡ false →
      ((trapped s reg epc cause mode).reg ≡ reg) × ((trapped s reg epc cause mode).sys.other_bank ≡ s.other_bank)
  -- and nothing else
  pub trap_else : (s : SystemState) (reg : List ℕ) (epc cause : ℕ) (mode : InstructionMode) →
      ((trapped s reg epc cause mode).sys.regions ≡ s.regions) × ((trapped s reg epc cause mode).sys.vm ≡ s.vm)
  -- IRET "copies PIE to IE .. and answers EPC and mode"
  pub iret_answers : (s : SystemState) (reg : List ℕ) →
      ((returned s reg).sys.ie ≡ s.pie) × ((returned s reg).epc ≡ s.epc) × ((returned s reg).mode ≡ s.psm)
  -- it "exchanges and enters user mode only if PU is set and U is not"
  pub iret_enters : (s : SystemState) (reg : List ℕ) → s.pu ≡ true → s.user ≡ false →
      ((returned s reg).sys.user ≡ true) × ((returned s reg).reg ≡ with_bank reg s.other_bank) × ((returned s reg).sys.other_bank ≡ bank_of reg)
  pub iret_stays : (s : SystemState) (reg : List ℕ) → enters_user s ≡ false →
      returned s reg ≡ record { sys = with_ie s s.pie; reg = reg; epc = s.epc; mode = s.psm }
  -- and nothing else, whether it enters user mode or not
  pub iret_else : (s : SystemState) (reg : List ℕ) →
      ((returned s reg).sys.pie ≡ s.pie)
      × ((returned s reg).sys.pu ≡ s.pu)
      × ((returned s reg).sys.psm ≡ s.psm)
      × ((returned s reg).sys.epc ≡ s.epc)
      × ((returned s reg).sys.cause ≡ s.cause)
      × ((returned s reg).sys.regions ≡ s.regions)
      × ((returned s reg).sys.vm ≡ s.vm)
  -- an exchange puts the bank into R28 to R30, and no other register moves
  pub banked : (reg b : List ℕ) (i : ℕ) → Registers reg → i < 3 → slice_index (with_bank reg b) (28 + i) ≡ slice_index b i
  pub unbanked : (reg b : List ℕ) (i : ℕ) → (i ≢ 28) → (i ≢ 29) → (i ≢ 30) → slice_index (with_bank reg b) i ≡ slice_index reg i
  -- ---- registers: "All others are unknown": refusal 3 exactly for those, and nothing moved
  pub unknown_read : (s : SystemState) (sr : ℕ) (reg : List ℕ) → known sr ≡ false → sr_read s sr reg ≡ Err Register
  pub unknown_written : (s : SystemState) (sr v : ℕ) (reg : List ℕ) → known sr ≡ false →
      sr_written s sr v reg ≡ record { sys = s; reg = reg; answer = Err Register }
  pub known_read : (s : SystemState) (sr : ℕ) (reg : List ℕ) (r : Refusal) → known sr ≡ true → sr_read s sr reg ≢ Err r
  pub known_written : (s : SystemState) (sr v : ℕ) (reg : List ℕ) → known sr ≡ true → (sr_written s sr v reg).answer ≡ Ok tt
  -- "0x00 STATUS, 0x01 EPC, 0x02 CAUSE"
  pub trap_registers : (s : SystemState) (reg : List ℕ) →
      (sr_read s 0x00 reg ≡ Ok (status_of s)) × (sr_read s 0x01 reg ≡ Ok s.epc) × (sr_read s 0x02 reg ≡ Ok s.cause)
  pub trap_registers_written : (s : SystemState) (v : ℕ) (reg : List ℕ) →
      (sr_written s 0x00 v reg ≡ written (status_set s v) reg)
      × (sr_written s 0x01 v reg ≡ written (with_epc s v) reg)
      × (sr_written s 0x02 v reg ≡ written (with_cause s v) reg)
  -- "0x08 to 0x0A user R28 to R30": in user mode the live registers, otherwise the bank
  pub user_read_lem : (s : SystemState) (reg : List ℕ) (i : ℕ) → i < 3 →
      sr_read s (0x08 + i) reg ≡ Ok (cond s.user (slice_index reg (28 + i)) (slice_index s.other_bank i))
  pub user_written_lem : (s : SystemState) (reg : List ℕ) (i v : ℕ) → i < 3 →
      sr_written s (0x08 + i) v reg
      ≡ cond s.user (written s (slice_set reg (28 + i) v)) (written (with_other s (slice_set s.other_bank i v)) reg)
  -- "0x10 + 4n + 0, 1, 2 region n START, END, FLAGS (n 0 to 7, flags masked to 7)"
  pub region_read_lem : (s : SystemState) (reg : List ℕ) (n f : ℕ) → n < 8 → f < 3 →
      sr_read s (0x10 + 4 * n + f) reg ≡ Ok (field_of (slice_index_or s.regions n no_region) f)
  pub region_written_lem : (s : SystemState) (reg : List ℕ) (n f v : ℕ) → n < 8 → f < 3 →
      sr_written s (0x10 + 4 * n + f) v reg ≡ written (with_regions s (slice_set s.regions n (with_field (slice_index_or s.regions n no_region) f v))) reg
  pub fields : (g : Region) → (field_of g 0 ≡ g.start) × (field_of g 1 ≡ g.end) × (field_of g 2 ≡ g.flags)
  pub fields_written : (g : Region) (v : ℕ) →
      (with_field g 0 v ≡ record { start = v; end = g.end; flags = g.flags })
      × (with_field g 1 v ≡ record { start = g.start; end = v; flags = g.flags })
      × (with_field g 2 v ≡ record { start = g.start; end = g.end; flags = v % 8 })
  -- "0x40 VCTL, 0x41 PTBR, 0x42 VFAULT, 0x43 TLBFLUSH, 0x44 TLBINV (both read 0)"
  pub vm_registers : (s : SystemState) (reg : List ℕ) →
      (sr_read s 0x40 reg ≡ Ok (bit_if s.vm.enabled 1))
      × (sr_read s 0x41 reg ≡ Ok s.vm.ptbr)
      × (sr_read s 0x42 reg ≡ Ok s.vm.vfault)
      × (sr_read s 0x43 reg ≡ Ok 0)
      × (sr_read s 0x44 reg ≡ Ok 0)
  -- "VCTL keeps bit 0 and flushes nothing"
  pub vctl : (s : SystemState) (v : ℕ) (reg : List ℕ) → sr_written s 0x40 v reg ≡ written (with_vm s (vm_enabled s.vm (bit_set v 0))) reg
  -- "A PTBR write clears its low 12 bits and flushes"
  pub ptbr : (s : SystemState) (v : ℕ) (reg : List ℕ) →
      sr_written s 0x41 v reg
      ≡ written (with_vm s (record { enabled = s.vm.enabled; ptbr = v / 4096 * 4096; vfault = s.vm.vfault; tlb = no_entries; next_victim = 0 })) reg
  -- "flush zeroes all", for any value
  pub tlbflush : (s : SystemState) (v : ℕ) (reg : List ℕ) →
      sr_written s 0x43 v reg
      ≡ written (with_vm s (record { enabled = s.vm.enabled; ptbr = s.vm.ptbr; vfault = s.vm.vfault; tlb = no_entries; next_victim = 0 })) reg
  -- "TLBINV clears only the valid mark of that page's slots": each slot after it, and nothing else
  pub tlbinv : (s : SystemState) (v i : ℕ) (reg : List ℕ) →
      slice_index_or (sr_written s 0x44 v reg).sys.vm.tlb i no_entry
      ≡ mark_dropped ((get_or s.vm.tlb i no_entry).vpn == v / 4096) (slice_index_or s.vm.tlb i no_entry)
  pub tlbinv_else : (s : SystemState) (v : ℕ) (reg : List ℕ) →
      sr_written s 0x44 v reg
      ≡ written (with_vm s (record { enabled = s.vm.enabled; ptbr = s.vm.ptbr; vfault = s.vm.vfault; tlb = (sr_written s 0x44 v reg).sys.vm.tlb; next_victim = s.vm.next_victim })) reg
  -- ---- regions: "inside a region granting that access, ends exclusive"
  pub granted : (g : Region) (a : ℕ) (k : Access) → (g.flags / region_bit k % 2 == 1) ≡ true → g.start ≤ a → a < g.end → grants_of g a k ≡ true
  pub not_granted : (g : Region) (a : ℕ) (k : Access) → (g.flags / region_bit k % 2 == 1) ≡ false → grants_of g a k ≡ false
  pub before_start : (g : Region) (a : ℕ) (k : Access) → a < g.start → grants_of g a k ≡ false
  pub at_end : (g : Region) (a : ℕ) (k : Access) → g.end ≤ a → grants_of g a k ≡ false
  -- "each byte below 0xFFFF0000"
  pub reserved : (l : List Region) (k : Access) (a : ℕ) → 0xFFFF_0000 ≤ a → byte_allowed l k a ≡ false
  -- a user's access is allowed exactly if each of its bytes is; "Addresses step modulo 2^32"
  pub each_byte : (s : SystemState) (a n i : ℕ) (k : Access) → a < 2 ^ 32 → s.user ≡ true → allows_of s a n k ≡ true → i < n →
      byte_allowed s.regions k ((a + i) % 2 ^ 32) ≡ true
  pub all_bytes : (s : SystemState) (a n : ℕ) (k : Access) → a < 2 ^ 32 →
      ((i : ℕ) → i < n → byte_allowed s.regions k ((a + i) % 2 ^ 32) ≡ true) → allows_of s a n k ≡ true
  -- ---- the check: "2, then 1", and nothing moved
  pub check_map : (m : Memory) (s : SystemState) (a n : ℕ) (k : Access) → map_good m ≡ false → check_access m s a n k ≡ access_answered s (Err (Refused Map))
  pub check_size : (m : Memory) (s : SystemState) (a n : ℕ) (k : Access) → map_good m ≡ true → legal_size k n ≡ false →
      check_access m s a n k ≡ access_answered s (Err (Refused Size))
  pub check_answers : (m : Memory) (s : SystemState) (a n : ℕ) (k : Access) (r : Refusal) → map_good m ≡ true → legal_size k n ≡ true →
      (check_access m s a n k).permission ≢ Err (Refused r)
  -- "Supervisor: always allowed"
  pub check_supervisor : (m : Memory) (s : SystemState) (a n : ℕ) (k : Access) → map_good m ≡ true → legal_size k n ≡ true → s.user ≡ false →
      check_access m s a n k ≡ access_answered s (Ok tt)
  -- "User, translation off": the regions decide, and a denied access is a protection fault
  pub check_regions : (m : Memory) (s : SystemState) (a n : ℕ) (k : Access) → map_good m ≡ true → legal_size k n ≡ true → s.user ≡ true → s.vm.enabled ≡ false →
      check_access m s a n k ≡ access_answered s (cond (allows_of s a n k) (Ok tt) (Err (Denied (ProtectionFault k))))
  -- "User, translation on: page by page"
  pub check_pages : (m : Memory) (s : SystemState) (a n : ℕ) (k : Access) → map_good m ≡ true → legal_size k n ≡ true → s.user ≡ true → s.vm.enabled ≡ true →
      check_access m s a n k ≡ from_pages s (check_each m k s.vm (pages_of a n))
  -- ---- data: a load or store "finds each byte by looking up the TLB again"
  pub looked_up : (s : SystemState) (va n i : ℕ) → va < 2 ^ 32 → i < n → slice_index (spots s va n) i ≡ physical_of s ((va + i) % 2 ^ 32)
  -- "If the second page's fill took the first page's slot, the Rust uses physical page 0; so does the port"
  pub stolen : (s : SystemState) (va : ℕ) → translating_of s ≡ true → slot_of s.vm va ≡ None → physical_of s va ≡ va % 4096
  -- "Memory is big-endian"
  pub big_endian_lem : (m : Memory) (p₀ p₁ p₂ p₃ b₀ b₁ b₂ b₃ : ℕ) → map_good m ≡ true →
      byte_at m p₀ ≡ Some b₀ → byte_at m p₁ ≡ Some b₁ → byte_at m p₂ ≡ Some b₂ → byte_at m p₃ ≡ Some b₃ →
      load_at m 4 (p₀ ∷ p₁ ∷ p₂ ∷ p₃ ∷ []) ≡ Ok (big_endian (b₀ ∷ b₁ ∷ b₂ ∷ b₃ ∷ []))
  -- "A load or fetch with any byte outside the map answers bus error and no value"
  pub load_outside : (m : Memory) (n : ℕ) (l : List ℕ) (i : ℕ) → map_good m ≡ true → data_size n ≡ true → i < length l → byte_at m (slice_index l i) ≡ None →
      load_at m n l ≡ Err BusError
  -- "a store writes its inside bytes and answers bus error"
  pub store_outside : (m : Memory) (n : ℕ) (l : List ℕ) → map_good m ≡ true → data_size n ≡ true → all_writable m l ≡ false → store_at m n l ≡ Err BusError
  pub store_puts : (m : Memory) (n : ℕ) (l : List ℕ) (v : ℕ) → map_good m ≡ true → data_size n ≡ true → memory_at m n l v ≡ put_at m l (bytes_of n v)
  pub inside_put : (m : Memory) (a b : ℕ) → writable m a ≡ true → byte_at (put_byte m a b) a ≡ Some b
  pub outside_kept : (m : Memory) (a b : ℕ) → writable m a ≡ false → put_byte m a b ≡ m
  -- ---- "`debug_translate` looks up or walks in any mode .. and checks no permission"
  pub debug_mode : (m : Memory) (s : SystemState) (va : ℕ) (user : Bool) → debug_translated m (with_user s user) va ≡ debug_translated m s va
  pub debug_resident : (m : Memory) (s : SystemState) (va i : ℕ) → map_good m ≡ true → slot_of s.vm va ≡ Some i →
      debug_translated m s va ≡ Ok (mapped_to (slice_index_or s.vm.tlb i no_entry) va true)
  -- "a viewed slot's index [is] read modulo 16"
  pub view_index : (vm : Vm) (i : ℕ) → slot_view vm (i + 16) ≡ slot_view vm i
