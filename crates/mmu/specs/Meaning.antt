-- What the MMU's definitions mean: document 01's sentences on TLB, walk and page check as laws.
--
--   entry_in vm i == the entry in slot i
--   Meaning       == the laws, one field a sentence
--   Corners       == a figure, computed; those of document 01's corner table are in the crate `cases`
use Rattle.std.specs.Prelude.{◌≡◌, ℕ, ◌+◌, ◌*◌, ◌/◌, ◌%◌, ◌^◌, ◌<◌, ◌≤◌, true, ◌≢◌, List, length, get_or, ◌==◌, slice_index_or, slice_set, Some, None, Ok}
use Rattle.memory.specs.Memory.{Memory}
use Rattle.mmu.specs.Tlb.{no_entry, dropped_page}
use Rattle.mmu.specs.Tlb.Laws.{mark_dropped}
use Rattle.mmu.specs.Vm.{victim, with_tlb, slot_of}
use Rattle.mmu.specs.Walk.{leaf_entry, walk_of}
use Rattle.mmu.specs.Check.{page_addr, checked, faulted, judged, check_page, check_each}
use Rattle.mmu.specs.Opened.Laws.{TablesAgree, Passed}
use Rattle.mmu.specs.declared.tlb.TlbEntry.{TlbEntry}
use Rattle.mmu.specs.declared.vm.Vm.{Vm}
use Rattle.mmu.specs.declared.exception.Access.{Access}

abbrev pub entry_in : Vm → ℕ → TlbEntry
entry_in vm i = slice_index_or vm.tlb i no_entry

pub record Meaning : Type 0 where
  -- "A virtual page at or above 0xFFFF0000 is a protection page fault", before anything is looked up
  pub reserved : (m : Memory) (vm : Vm) (k : Access) (va : ℕ) → 0xFFFF_0000 ≤ page_addr (va / 4096)
      → check_page m vm k va ≡ checked vm (faulted k true va) 0
  -- "Else the first valid TLB match": it uses no walk read and leaves the state
  pub resident : (m : Memory) (vm : Vm) (k : Access) (va i : ℕ) → page_addr (va / 4096) < 0xFFFF_0000 → slot_of vm va ≡ Some i
      → check_page m vm k va ≡ checked vm (judged (entry_in vm i) k va) 0
  -- "A good leaf fills slot next_victim even if the access is then denied and even if another slot is free"
  pub fills : (m : Memory) (vm : Vm) (k : Access) (va : ℕ) (e : TlbEntry) → page_addr (va / 4096) < 0xFFFF_0000 → slot_of vm va ≡ None
      → (walk_of m vm.ptbr va).walked ≡ Ok e
      → (check_page m vm k va).vm ≡ with_tlb vm (slice_set vm.tlb (victim vm) e) ((victim vm + 1) % 16)
  -- "Then U, the access bit and a physical page below 0xFFFF0000 are needed": of an allowed page the TLB then holds such an entry
  pub allowed : (m : Memory) (vm : Vm) (k : Access) (va : ℕ) → va < 2 ^ 32 → length vm.tlb ≡ 16 → (check_page m vm k va).verdict ≡ Ok tt
      → Passed m vm k va (check_page m vm k va)
  -- W-207: the page loop goes on after an allowed page alone, whose next number is never 0
  pub goes_on : (m : Memory) (vm : Vm) (k : Access) (va : ℕ) → va < 2 ^ 32 → (check_page m vm k va).verdict ≡ Ok tt → (va / 4096 + 1) % 2 ^ 32 ≢ 0
  -- "Walk reads (added) are at most 2 for each page, a failed one included"
  pub few_reads : (m : Memory) (vm : Vm) (k : Access) (va : ℕ) → (check_page m vm k va).reads ≤ 2
  pub few_reads_each : (m : Memory) (k : Access) (vm : Vm) (l : List ℕ) → (check_each m k vm l).reads ≤ 2 * length l
  -- a walk reads page tables alone
  pub tables_only : (m m' : Memory) (ptbr va : ℕ) → va < 2 ^ 32 → TablesAgree m m' ptbr → walk_of m ptbr va ≡ walk_of m' ptbr va
  -- "TLBINV clears only the valid mark of that page's slots"
  pub invalidates : (vpn : ℕ) (l : List TlbEntry) (i : ℕ)
      → slice_index_or (dropped_page vpn l) i no_entry ≡ mark_dropped ((get_or l i no_entry).vpn == vpn) (slice_index_or l i no_entry)

pub record Corners : Type 0 where
  -- a leaf's entry has its frame, and R, W, X and U alone
  pub entry : leaf_entry 0x5FFC 0x0002_1013 ≡ record { valid = true; vpn = 5; ppn = 0x21; flags = 0x12 }
