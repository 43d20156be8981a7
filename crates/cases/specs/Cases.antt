-- Document 01's corner table, the cases marked P, in its order and words, each for every state that its row leaves open.
--
--   Unknown sr                      == register sr is unknown: in every state a read and a write are refused, and nothing moves
--   Eight s                         == eight regions, as every state has
--   Decided m s                     == the regions decide: a user, translation off, over a good map
--   Holds s n start end flags       == region n of the state is this one
--   NoOther s n a k                 == no other region than n grants the access
--   IsAllowed, IsDenied m s a n k   == the check's whole answer: the state stays, no table word was read
--   Leads m ptbr va w               == a walk for va comes to w as its second word
--   resident va ppn flags           == the entry of va's page
--   controller pending enable level == a controller with these words
--   shown_by, none                  == an output with this number, and no output
use Rattle.std.specs.Prelude.{ℕ, ◌/◌, ◌≡◌, true, false, List, length, get_or, Some, Ok, Err}
use Rattle.cache.specs.Cache.{external_written}
use Rattle.cache.specs.Corners.{drops}
use Rattle.cache.specs.declared.L1Cache.{L1Cache}
use Rattle.common.specs.Refusal.{refusal_number}
use Rattle.common.specs.declared.Refusal.TheVariants.{Register}
use Rattle.irqc.specs.Irqc.{output, output_of}
use Rattle.irqc.specs.declared.IrqController.{IrqController}
use Rattle.irqc.specs.declared.IrqOutput.{IrqOutput}
use Rattle.memory.specs.Gate.{map_good}
use Rattle.memory.specs.Memory.{Memory, read_at, word_spots}
use Rattle.mmu.specs.declared.walk.WalkFault.TheVariants.{Missing}
use Rattle.privilege.specs.declared.check.AccessError.TheVariants.{Denied}
use Rattle.mmu.specs.Exception.{cause_of}
use Rattle.mmu.specs.Walk.{table_ok, spot1, spot2, answered, walk_of}
use Rattle.mmu.specs.declared.exception.Access.{Access}
use Rattle.mmu.specs.declared.exception.Access.TheVariants.{Read, Write, Fetch}
use Rattle.mmu.specs.declared.exception.Exception.TheVariants.{Syscall, PageFault, ProtectionFault}
use Rattle.mmu.specs.declared.tlb.TlbEntry.{TlbEntry}
use Rattle.privilege.specs.Access.{legal_size, access_answered, check_access}
use Rattle.privilege.specs.Corners.{read_back}
use Rattle.privilege.specs.Region.{grants_of}
use Rattle.privilege.specs.Registers.{sr_read, sr_written}
use Rattle.privilege.specs.State.{no_region, new_state}
use Rattle.privilege.specs.Trap.{returned}
use Rattle.privilege.specs.declared.state.SystemState.{SystemState}

abbrev pub Unknown : ℕ → Type 0
Unknown sr =
    (s : SystemState) (reg : List ℕ) →
    (sr_read s sr reg ≡ Err Register) × ((v : ℕ) → sr_written s sr v reg ≡ record { sys = s; reg = reg; answer = Err Register })

abbrev pub Eight : SystemState → Type 0
Eight s = length s.regions ≡ 8

pub record Decided (m : Memory) (s : SystemState) : Type 0 where
  pub map : map_good m ≡ true
  pub user : s.user ≡ true
  pub off : s.vm.enabled ≡ false

abbrev pub Holds : SystemState → ℕ → ℕ → ℕ → ℕ → Type 0
Holds s n start end flags = get_or s.regions n no_region ≡ record { start = start; end = end; flags = flags }

abbrev pub NoOther : SystemState → ℕ → ℕ → Access → Type 0
NoOther s n a k = (j : ℕ) → (j ≡ n → ⊥) → grants_of (get_or s.regions j no_region) a k ≡ false

abbrev pub IsAllowed : Memory → SystemState → ℕ → ℕ → Access → Type 0
IsAllowed m s a n k = check_access m s a n k ≡ access_answered s (Ok tt)

abbrev pub IsDenied : Memory → SystemState → ℕ → ℕ → Access → Type 0
IsDenied m s a n k = check_access m s a n k ≡ access_answered s (Err (Denied (ProtectionFault k)))

pub record Leads (m : Memory) (ptbr va w : ℕ) : Type 0 where
  pub table : ℕ
  pub first : read_at m (word_spots (spot1 ptbr va)) ≡ Some table
  pub followed : table_ok table ≡ true
  pub second : read_at m (word_spots (spot2 table va)) ≡ Some w

abbrev pub resident : ℕ → ℕ → ℕ → TlbEntry
resident va ppn flags = record { valid = true; vpn = va / 4096; ppn = ppn; flags = flags }

abbrev pub controller : ℕ → ℕ → ℕ → IrqController
controller pending enable level = record { pending = pending; enable = enable; source_level = level }

abbrev pub shown_by : ℕ → IrqOutput
shown_by number = output true number

abbrev pub none : IrqOutput
none = output false 0

pub record Cases : Type 0 where
  -- "STATUS at reset 3"
  pub p1 : (reg : List ℕ) → sr_read new_state 0x00 reg ≡ Ok 3
  -- "PTBR written 0x1FFF reads 0x1000"
  pub p2 : (s : SystemState) (reg : List ℕ) → read_back s reg 0x41 0x1FFF ≡ Ok 0x1000
  -- "register 0x13 unknown; 0x2E written 0xFF reads 7; 0x2F and 0x30 unknown"
  pub p3 :
      Unknown 0x13
      × ((s : SystemState) (reg : List ℕ) → Eight s → read_back s reg 0x2E 0xFF ≡ Ok 7)
      × Unknown 0x2F
      × Unknown 0x30
      × (refusal_number Register ≡ 3)
  -- "syscall 0x1234: 0x80031234"
  pub p4 : cause_of (Syscall 0x1234) ≡ 0x8003_1234
  -- "protection page fault on a write: 0x8006000A"
  pub p5 : (addr : ℕ) → cause_of (PageFault Write true addr) ≡ 0x8006_000A
  -- "region 0x1000 to 0x2000 for reading: 0x1FFF allowed, 0x2000 not"
  pub p6 : (m : Memory) (s : SystemState) (n : ℕ) → Decided m s → Holds s n 0x1000 0x2000 1
      → IsAllowed m s 0x1FFF 1 Read × (NoOther s n 0x2000 Read → IsDenied m s 0x2000 1 Read)
  -- "region 0 to 0xFFFFFFFF, flags 7: 0xFFFEFFFF allowed, 0xFFFF0000 not", whatever the other regions are. A fetch has two bytes at least:
  -- it is allowed where 0xFFFEFFFF is its last, and not where 0xFFFF0000 is one of them
  pub p7 : (m : Memory) (s : SystemState) (n : ℕ) → Decided m s → Holds s n 0 0xFFFF_FFFF 7
      → ((k : Access) → legal_size k 1 ≡ true → IsAllowed m s 0xFFFE_FFFF 1 k × IsDenied m s 0xFFFF_0000 1 k)
      × IsAllowed m s 0xFFFE_FFFE 2 Fetch
      × IsDenied m s 0xFFFE_FFFF 2 Fetch
      × IsDenied m s 0xFFFF_0000 2 Fetch
  -- "leaf 0x3005 not present, 0x3013 present"
  pub p8 : (m : Memory) (ptbr va : ℕ) →
      (Leads m ptbr va 0x3005 → walk_of m ptbr va ≡ answered (Err Missing) 2)
      × (Leads m ptbr va 0x3013 → walk_of m ptbr va ≡ answered (Ok (resident va 3 0x12)) 2)
  -- "level 1 0x2003 unmapped"
  pub p9 : (m : Memory) (ptbr va : ℕ) → read_at m (word_spots (spot1 ptbr va)) ≡ Some 0x2003 → walk_of m ptbr va ≡ answered (Err Missing) 1
  -- "pending 0x24: enable 0x20 gives 5, 0x24 gives 2, 0 none"
  pub p10 : (level : ℕ) →
      (output_of (controller 0x24 0x20 level) ≡ shown_by 5)
      × (output_of (controller 0x24 0x24 level) ≡ shown_by 2)
      × (output_of (controller 0x24 0 level) ≡ none)
  -- "external write of length 0: at 0x25 drops index 1, at 0x20 none"
  pub p11 : (c : L1Cache) → (external_written c 0x25 0 ≡ drops c 1) × (external_written c 0x20 0 ≡ c)
  -- "IRET in user mode with PU set keeps R28 to R30"
  pub p12 : (s : SystemState) (reg : List ℕ) → s.user ≡ true → s.pu ≡ true → (returned s reg).reg ≡ reg
