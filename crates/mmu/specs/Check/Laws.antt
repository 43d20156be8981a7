-- The laws of the page check that others use. Assumes nothing.
--
--   walk_reads, page_reads     == at most two words are read for a page
--   allowed_low                == an allowed page lies below the reserved addresses
--   next_number, next_not_zero == so the number after an allowed page's is a page's, and is not 0
--   permits_bits               == an entry of a low frame permits what its bits say
use Rattle.std.specs.Prelude.{◌≡◌, ℕ, ◌+◌, ◌/◌, ◌%◌, ◌^◌, ◌<◌, ◌≤◌, ◌&&◌, Option, Some, None, Result, Ok, Err}
use Rattle.std.proofs.Math.Bool.{and-true}
use Rattle.std.proofs.Common.{arith, lit≤, ltb-true, lt-ltb}
use Rattle.common.specs.Bits.{bit_set}
use Rattle.common.specs.Cases.{absurd_eq, cond_holds, cond_case}
use Rattle.memory.specs.Memory.{Memory, read_at, word_spots}
use Rattle.mmu.specs.declared.walk.WalkFault.TheVariants as walked
use Rattle.mmu.specs.declared.walk.WalkFault.{WalkFault}
use Rattle.mmu.specs.Vm.{slot_of}
use Rattle.mmu.specs.Walk.{table_ok, leaf_ok, spot1, spot2, walk_leaf, walk_table, walk_of}
use Rattle.mmu.specs.Exception.{access_bit}
use Rattle.mmu.specs.Check.{page_addr, below_reserved, permits, by_walk, by_slot, check_with, check_page}
use Rattle.mmu.specs.declared.tlb.TlbEntry.{TlbEntry}
use Rattle.mmu.specs.declared.vm.Vm.{Vm}
use Rattle.mmu.specs.declared.walk.WalkAnswer.{WalkAnswer}
use Rattle.mmu.specs.declared.exception.Access.{Access}
use Rattle.mmu.specs.declared.check.Checked.{Checked}

leaf_reads : (va : ℕ) (w : Option ℕ) → (walk_leaf va w).reads ≤ 2
unfolding walk_leaf
leaf_reads va None = lit≤ tt
leaf_reads va (Some w) = cond_holds (λ (a : WalkAnswer). a.reads ≤ 2) (leaf_ok w) (lit≤ tt) (lit≤ tt)

table_reads : (m : Memory) (va : ℕ) (w : Option ℕ) → (walk_table m va w).reads ≤ 2
unfolding walk_table
table_reads m va None = lit≤ tt
table_reads m va (Some w) =
    cond_holds (λ (a : WalkAnswer). a.reads ≤ 2) (table_ok w) (leaf_reads va (read_at m (word_spots (spot2 w va)))) (lit≤ tt)

pub walk_reads : (m : Memory) (ptbr va : ℕ) → (walk_of m ptbr va).reads ≤ 2
unfolding walk_of
walk_reads m ptbr va = table_reads m va (read_at m (word_spots (spot1 ptbr va)))

by_walk_reads : (vm : Vm) (k : Access) (va n : ℕ) (w : Result TlbEntry WalkFault) → n ≤ 2 → (by_walk vm k va n w).reads ≤ 2
unfolding by_walk
by_walk_reads vm k va n (Ok e) h = h
by_walk_reads vm k va n (Err walked.Missing) h = h
by_walk_reads vm k va n (Err walked.BusError) h = h

by_slot_reads : (vm : Vm) (k : Access) (va : ℕ) (w : WalkAnswer) (s : Option ℕ) → w.reads ≤ 2 → (by_slot vm k va w s).reads ≤ 2
unfolding by_slot
by_slot_reads vm k va w (Some i) h = lit≤ tt
by_slot_reads vm k va w None h = by_walk_reads vm k va w.reads w.walked h

pub page_reads : (m : Memory) (vm : Vm) (k : Access) (va : ℕ) → (check_page m vm k va).reads ≤ 2
unfolding check_page check_with
page_reads m vm k va =
    cond_holds (λ (c : Checked). c.reads ≤ 2) (below_reserved (page_addr (va / 4096)))
    (by_slot_reads vm k va (walk_of m vm.ptbr va) (slot_of vm va) (walk_reads m vm.ptbr va))
    (lit≤ tt)

pub allowed_low : (m : Memory) (vm : Vm) (k : Access) (va : ℕ) → (check_page m vm k va).verdict ≡ Ok tt → page_addr (va / 4096) < 0xFFFF_0000
unfolding check_page check_with
allowed_low m vm k va =
    cond_case (λ (c : Checked). c.verdict ≡ Ok tt → page_addr (va / 4096) < 0xFFFF_0000) (below_reserved (page_addr (va / 4096)))
    (λ t p. ltb-true (page_addr (va / 4096)) 0xFFFF_0000 t)
    (λ t p. absurd_eq (cc))

-- the page loop comes to the next page only after an allowed one
module _ (m : Memory) (vm : Vm) (k : Access) (va : ℕ) (small : va / 4096 < 2 ^ 20) (a : (check_page m vm k va).verdict ≡ Ok tt) where
  pub next_number : va / 4096 + 1 < 2 ^ 20
  next_number = let l = allowed_low m vm k va a in omega arith

  pub next_not_zero : (va / 4096 + 1) % 2 ^ 32 ≡ 0 → ⊥
  next_not_zero z = omega (arith, next_number)

pub permits_bits : (e : TlbEntry) (k : Access) → e.ppn < 0xFFFF0 → permits e k ≡ (bit_set e.flags 4 && bit_set e.flags (access_bit k))
unfolding permits
permits_bits e k h = rw (lt-ltb (page_addr e.ppn) 0xFFFF_0000 (omega arith)) (and-true _)
