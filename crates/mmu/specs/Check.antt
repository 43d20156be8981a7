-- The check of a user's access with translation on, page by page: document 01, 'Access and translation'; the loop of
-- `check_access` in cpu_privilege.rs.
--
--   page_addr p          == a page number made into an address; what passes 32 bits is dropped
--   permits e k          == e has U and the access bit, and its physical page lies below 0xFFFF0000
--   judged e k va        == allowed, or a protection page fault at va
--   checked vm v n       == an answer of the check: the state, the verdict, and the words read
--   check_with vm k va w == the check of one page, given what a walk for va finds
--   check_page m vm k va == the check of one page, of which va is the first address that is wanted
--   check_each m k vm l  == the checks of the pages l, in order, each given by its fault address; the first that denies decides
--   pages_of addr size   == the fault addresses of an access's pages: its own on the first, else the page's start
use Rattle.std.specs.Prelude.{ℕ, zero, suc, ◌+◌, ◌-◌, ◌*◌, ◌/◌, ◌%◌, ◌^◌, Bool, true, false, cond, ◌&&◌, List, [], ◌∷◌, nat_lt, slice_index_or, Option, Some, None, Result, Ok, Err}
use Rattle.common.specs.Bits.{bit_set}
use Rattle.memory.specs.Memory.{Memory}
use Rattle.mmu.specs.Exception.{access_bit}
use Rattle.mmu.specs.Tlb.{no_entry}
use Rattle.mmu.specs.Vm.{filled, slot_of}
use Rattle.mmu.specs.Walk.{walk_of}
use Rattle.mmu.specs.declared.tlb.TlbEntry.{TlbEntry}
use Rattle.mmu.specs.declared.exception.Exception.{Exception}
use Rattle.mmu.specs.declared.walk.WalkFault.TheVariants as walked
use Rattle.mmu.specs.declared.walk.WalkFault.{WalkFault}
use Rattle.mmu.specs.declared.vm.Vm.{Vm}
use Rattle.mmu.specs.declared.walk.WalkAnswer.{WalkAnswer}
use Rattle.mmu.specs.declared.exception.Access.{Access}
use Rattle.mmu.specs.declared.exception.Exception.TheVariants.{BusError, PageFault}
use Rattle.mmu.specs.declared.check.Checked.{Checked}
pub mod Laws
pub mod Pages

abbrev pub page_addr : ℕ → ℕ
page_addr p = p * 4096 % 2 ^ 32

-- below the addresses that no user may touch
abbrev pub below_reserved : ℕ → Bool
below_reserved a = nat_lt a 0xFFFF_0000

unfoldable pub permits : TlbEntry → Access → Bool
permits e k = bit_set e.flags 4 && bit_set e.flags (access_bit k) && below_reserved (page_addr e.ppn)

abbrev pub faulted : Access → Bool → ℕ → Result (Unit {0}) Exception
faulted k protection va = Err (PageFault k protection va)

unfoldable pub judged : TlbEntry → Access → ℕ → Result (Unit {0}) Exception
judged e k va = cond (permits e k) (Ok tt) (faulted k true va)

-- an answer after n words read
abbrev pub checked : Vm → Result (Unit {0}) Exception → ℕ → Checked
checked vm verdict n = record { vm = vm; verdict = verdict; reads = n }

-- a page that is not resident, by what the walk found: a good leaf fills, even if it is then denied
unfoldable pub by_walk : Vm → Access → ℕ → ℕ → Result TlbEntry WalkFault → Checked
by_walk vm k va n (Ok e) = checked (filled vm e) (judged e k va) n
by_walk vm k va n (Err walked.Missing) = checked vm (faulted k false va) n
by_walk vm k va n (Err walked.BusError) = checked vm (Err BusError) n

-- by where the page is resident
unfoldable pub by_slot : Vm → Access → ℕ → WalkAnswer → Option ℕ → Checked
by_slot vm k va w (Some i) = checked vm (judged (slice_index_or vm.tlb i no_entry) k va) 0
by_slot vm k va w None = by_walk vm k va w.reads w.walked

unfoldable pub check_with : Vm → Access → ℕ → WalkAnswer → Checked
check_with vm k va w =
    cond (below_reserved (page_addr (va / 4096))) (by_slot vm k va w (slot_of vm va))
    (checked vm (faulted k true va) 0)

unfoldable pub check_page : Memory → Vm → Access → ℕ → Checked
check_page m vm k va = check_with vm k va (walk_of m vm.ptbr va)

-- the rest is checked only where this page is allowed; the reads add up
unfoldable pub after_page : Result (Unit {0}) Exception → Checked → Checked → Checked
after_page (Ok tt) page rest = checked rest.vm rest.verdict (page.reads + rest.reads)
after_page (Err e) page rest = page

unfoldable pub check_each : Memory → Access → Vm → List ℕ → Checked
check_each m k vm [] = checked vm (Ok tt) 0
check_each m k vm (va ∷ l) =
    after_page (check_page m vm k va).verdict (check_page m vm k va) (check_each m k (check_page m vm k va).vm l)

-- the starts of the n pages after page p
unfoldable pub pages_after : ℕ → ℕ → List ℕ
pages_after zero p = []
pages_after (suc n) p = page_addr (p + 1) ∷ pages_after n (p + 1)

-- the page of the access's last byte; addresses step modulo 2^32
abbrev pub last_page : ℕ → ℕ → ℕ
last_page addr size = (addr + (size + (2 ^ 32 - 1)) % 2 ^ 32) % 2 ^ 32 / 4096

-- how many pages after page p the page q comes, modulo 2^20
abbrev pub pages_to : ℕ → ℕ → ℕ
pages_to p q = (q + 2 ^ 20 - p) % 2 ^ 20

unfoldable pub pages_of : ℕ → ℕ → List ℕ
pages_of addr size = addr ∷ pages_after (pages_to (addr / 4096) (last_page addr size)) (addr / 4096)
