-- Extension V's state as words that an owner lends.
--
--   vm_words                    == how many words there are; tlb_start, tlb_words: where the TLB's begin, and how many they are
--   entry_at w                  == the entry of four words: the valid bit, the virtual page, the physical page, the flags
--   tlb_at t                    == the sixteen entries of 64 words
--   vm_at l                     == the state of 69 words: the enable bit, PTBR, VFAULT, the next victim's low and high half, the TLB
--   pages_is, no_pages          == an answer of the check of pages: the frame where the verdict allows; and the one where there are not 69 words
--   pages_as r v                == that answer and the state after it, as the check by value gives them
--   CheckedPages m k a n v r v' == the check of the pages of n bytes at a takes v to v' and answers r. Where it is allowed, r's frame is that of
--                                  the last page, and so of an access that stays in its page; a denied one has none
--   CheckedPage, WalkedPage     == the same of one page, and of one that is not resident
--   grant_to p n                == a grant of `grant_page`: the page leads to p, after n words read
--   GrantedBy c va v r v'       == the check c of va's page, made in v, as a grant: where it denies, there is none and the state stays
--   GrantsPage, GrantsWalk      == the same of a page's check, and of one that is not resident
--   with_entry v i e            == the same state with another entry in a slot
--   with_registers v on p f     == the same TLB with other registers
--   dropped_word p vpn w        == the valid word of an entry of page vpn, once page p is dropped
use Rattle.std.specs.Prelude.{◌≡◌, ℕ, ◌+◌, ◌*◌, ◌%◌, ◌^◌, ◌<◌, ◌≤◌, Bool, true, false, cond, List, ◌==◌, nat_lt, slice_set, Option, Some, None, Result, Ok, Err}
use Rattle.std.specs.Result.{result_and}
use Rattle.layout.specs.Records.{records_of}
use Rattle.layout.specs.Words.{part, word_at, on_at}
use Rattle.memory.specs.Memory.{Memory}
use Rattle.mmu.specs.Check.{page_addr, checked, by_slot, check_page, check_each, last_page, pages_of}
use Rattle.mmu.specs.Vm.{with_tlb, slot_of, frame_of}
use Rattle.mmu.specs.Walk.{walk_of}
use Rattle.mmu.specs.declared.check.Checked.{Checked}
use Rattle.mmu.specs.declared.exception.Exception.{Exception}
use Rattle.mmu.specs.declared.exception.Access.{Access}
use Rattle.mmu.specs.declared.exception.Exception.TheVariants.{BusError}
use Rattle.mmu.specs.declared.flat.PageGrant.{PageGrant}
use Rattle.mmu.specs.declared.flat.Pages.{Pages}
use Rattle.mmu.specs.declared.tlb.TlbEntry.{TlbEntry}
use Rattle.mmu.specs.declared.vm.Vm.{Vm}
pub mod Laws

abbrev pub tlb_start : ℕ
tlb_start = 5

abbrev pub tlb_words : ℕ
tlb_words = 64

abbrev pub vm_words : ℕ
vm_words = tlb_start + tlb_words

unfoldable pub entry_at : List ℕ → TlbEntry
entry_at w = record { valid = on_at w 0; vpn = word_at w 1; ppn = word_at w 2; flags = word_at w 3 }

unfoldable pub tlb_at : List ℕ → List TlbEntry
tlb_at t = records_of entry_at 4 16 t

unfoldable pub vm_at : List ℕ → Vm
vm_at l =
    record {
      enabled = on_at l 0;
      ptbr = word_at l 1;
      vfault = word_at l 2;
      tlb = tlb_at (part tlb_start tlb_words l);
      next_victim = word_at l 3 + 2 ^ 32 * word_at l 4;
    }

-- ---- what the check promises

abbrev pub pages_is : Result (Unit {0}) Exception → ℕ → ℕ → Pages
pages_is verdict ppn n = record { frame = result_and verdict (Ok ppn); reads = n }

abbrev pub no_pages : Pages
no_pages = pages_is (Err BusError) 0 0

abbrev pub pages_as : Pages → Vm → Checked
pages_as r v = checked v (result_and r.frame (Ok tt)) r.reads

abbrev pub CheckedPages : Memory → Access → ℕ → ℕ → Vm → Pages → Vm → Type 0
CheckedPages m k addr size v r v' =
    (pages_as r v' ≡ check_each m k v (pages_of addr size))
    × ((ppn : ℕ) → r.frame ≡ Ok ppn → addr % 4096 + size ≤ 4096 → 0 < size → frame_of v' addr ≡ ppn)
    × (r.frame ≡ result_and r.frame (Ok (frame_of v' (page_addr (last_page addr size)))))

abbrev pub CheckedPage : Memory → Access → ℕ → Vm → Pages → Vm → Type 0
CheckedPage m k va v r v' = (pages_as r v' ≡ check_page m v k va) × ((ppn : ℕ) → r.frame ≡ Ok ppn → frame_of v' va ≡ ppn)

abbrev pub WalkedPage : Memory → Access → ℕ → Vm → Pages → Vm → Type 0
WalkedPage m k va v r v' =
    slot_of v va ≡ None → (pages_as r v' ≡ by_slot v k va (walk_of m v.ptbr va) None) × ((ppn : ℕ) → r.frame ≡ Ok ppn → frame_of v' va ≡ ppn)

-- ---- a grant

abbrev pub grant_to : ℕ → ℕ → PageGrant
grant_to ppn n = record { ppn = ppn; reads = n }

-- a grant where the access is allowed
abbrev pub grant_if : Result (Unit {0}) Exception → PageGrant → Option PageGrant
grant_if (Ok tt) g = Some g
grant_if (Err e) g = None

-- the state that a check leaves where it allows, else the one before it
abbrev pub left_if : Result (Unit {0}) Exception → Vm → Vm → Vm
left_if (Ok tt) after before = after
left_if (Err e) after before = before

abbrev pub GrantedBy : Checked → ℕ → Vm → Option PageGrant → Vm → Type 0
GrantedBy c va v r v' = (r ≡ grant_if c.verdict (grant_to (frame_of c.vm va) c.reads)) × (v' ≡ left_if c.verdict c.vm v)

abbrev pub GrantsPage : Memory → Access → ℕ → Vm → Option PageGrant → Vm → Type 0
GrantsPage m k va v r v' = GrantedBy (check_page m v k va) va v r v'

abbrev pub GrantsWalk : Memory → Access → ℕ → Vm → Option PageGrant → Vm → Type 0
GrantsWalk m k va v r v' = slot_of v va ≡ None → GrantedBy (by_slot v k va (walk_of m v.ptbr va) None) va v r v'

-- ---- parts that change

abbrev pub with_entry : Vm → ℕ → TlbEntry → Vm
with_entry v i e = with_tlb v (slice_set v.tlb i e) v.next_victim

abbrev pub with_registers : Vm → Bool → ℕ → ℕ → Vm
with_registers v enabled ptbr vfault = record { enabled = enabled; ptbr = ptbr; vfault = vfault; tlb = v.tlb; next_victim = v.next_victim }

abbrev pub dropped_word : ℕ → ℕ → ℕ → ℕ
dropped_word p vpn w = cond (vpn == p) 0 w
