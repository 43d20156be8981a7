-- The ways through the check of one page, and the page loop. Assumes nothing.
use Rattle.std.proofs.Common.{◌≡◌, ℕ, suc, ◌+◌, ◌-◌, ◌*◌, ◌/◌, ◌%◌, ◌^◌, ◌<◌, ◌≤◌, true, false, ◌∷◌, get_or, sym, ap, ◌∙◌, add-zero, add_assoc, arith, le-ltb, lt-ltb, Option, Some, None, Result, Ok, Err}
use Rattle.memory.specs.Memory.{Memory}
use Rattle.mmu.specs.Tlb.{no_entry}
use Rattle.mmu.specs.Vm.{filled, slot_of, frame_of}
use Rattle.mmu.specs.Walk.{walk_of}
use Rattle.mmu.specs.Check.Laws.{page_reads, next_number}
use Rattle.mmu.specs.Check.{page_addr, checked, faulted, judged, by_walk, by_slot, check_with, check_page, after_page, check_each, pages_after, last_page, pages_to, pages_of}
use Rattle.mmu.specs.declared.tlb.TlbEntry.{TlbEntry}
use Rattle.mmu.specs.declared.walk.WalkFault.{WalkFault}
use Rattle.mmu.specs.declared.walk.WalkFault.TheVariants as walked
use Rattle.mmu.specs.declared.vm.Vm.{Vm}
use Rattle.mmu.specs.declared.walk.WalkAnswer.{WalkAnswer}
use Rattle.mmu.specs.declared.exception.Access.{Access}
use Rattle.mmu.specs.declared.exception.Exception.{Exception}
use Rattle.mmu.specs.declared.exception.Exception.TheVariants.{BusError}
use Rattle.mmu.specs.declared.check.Checked.{Checked}

-- `check_walk`, where the walk answered w
module _ (vm : Vm) (k : Access) (va : ℕ) (o w : WalkAnswer) (e : w ≡ o) (c : Checked) where
  pub walk_leaf_lem : (x : TlbEntry) (after : Vm) (v : Result (Unit {0}) Exception) → w.walked ≡ Ok x → after ≡ filled vm x → v ≡ judged x k va
      → c ≡ checked after v w.reads → c ≡ by_slot vm k va o None
  unfolding by_slot by_walk
  walk_leaf_lem x after v p q j is = is ∙ rw (← e, p, q, j)

  pub walk_missing : (f : WalkFault) (v : Result (Unit {0}) Exception) → w.walked ≡ Err f → f ≡ walked.Missing → v ≡ faulted k false va → c ≡ checked vm v w.reads → c ≡ by_slot vm k va o None
  unfolding by_slot by_walk
  walk_missing f v p m q is = is ∙ rw (← e, p, m, q)

  pub walk_bus : (f : WalkFault) → w.walked ≡ Err f → f ≡ walked.BusError → c ≡ checked vm (Err BusError) w.reads → c ≡ by_slot vm k va o None
  unfolding by_slot by_walk
  walk_bus f p m is = is ∙ rw (← e, p, m)

-- `check_page`
module _ (m : Memory) (vm : Vm) (k : Access) (va : ℕ) (c : Checked) where
  pub page_reserved : (v : Result (Unit {0}) Exception) → 0xFFFF_0000 ≤ page_addr (va / 4096) → v ≡ faulted k true va → c ≡ checked vm v 0 → c ≡ check_page m vm k va
  unfolding check_page check_with
  page_reserved v h q is = is ∙ rw (le-ltb _ _ h, q)

  pub page_resident : (s : Option ℕ) (i : ℕ) (v : Result (Unit {0}) Exception) → page_addr (va / 4096) < 0xFFFF_0000 → s ≡ slot_of vm va → s ≡ Some i
      → v ≡ judged (get_or vm.tlb i no_entry) k va → c ≡ checked vm v 0 → c ≡ check_page m vm k va
  unfolding check_page check_with by_slot
  page_resident s i v h p q j is = is ∙ rw (lt-ltb _ _ h, ← p, q, j)

  pub page_walked : (s : Option ℕ) → page_addr (va / 4096) < 0xFFFF_0000 → s ≡ slot_of vm va → s ≡ None
      → c ≡ by_slot vm k va (walk_of m vm.ptbr va) None → c ≡ check_page m vm k va
  unfolding check_page check_with
  page_walked s h p q j = j ∙ rw (lt-ltb _ _ h, ← p, q)

-- ---- where a page leads, where the search answered s

module _ (vm : Vm) (va : ℕ) (s : Option ℕ) (is : s ≡ slot_of vm va) where
  pub resident_frame : (i : ℕ) → s ≡ Some i → (get_or vm.tlb i no_entry).ppn ≡ frame_of vm va
  unfolding frame_of
  resident_frame i e = rw (← is, e)

  pub no_frame : s ≡ None → 0 ≡ frame_of vm va
  unfolding frame_of
  no_frame e = rw (← is, e)

-- ---- the page loop

-- what n reads before these pages come to
abbrev pub plus : ℕ → Checked → Checked
plus n c = checked c.vm c.verdict (n + c.reads)

-- the whole check is the check from page `page` on, of which va is the first address that is wanted, after n reads
abbrev pub From : Memory → Access → ℕ → ℕ → Vm → Vm → ℕ → ℕ → ℕ → Type 0
From m k addr size v₀ v page va n =
    check_each m k v₀ (pages_of addr size) ≡ plus n (check_each m k v (va ∷ pages_after (pages_to page (last_page addr size)) page))

pub from_start : (m : Memory) (k : Access) (addr size : ℕ) (v : Vm) → From m k addr size v v (addr / 4096) addr 0
unfolding pages_of
from_start m k addr size v = ap (checked _ _) (omega arith)

module _ (m : Memory) (k : Access) (addr size : ℕ) (v₀ v : Vm) (page va n : ℕ) (p : From m k addr size v₀ v page va n) (r : Checked) (is : r ≡ check_page m v k va) where
  few : r.reads ≤ 2
  few = rw is (page_reads m v k va)

  pub reads_fit : n ≤ 2 * page → page < 2 ^ 20 → n + r.reads < 2 ^ 32
  reads_fit h g = omega (arith, few)

  pub reads_few : n ≤ 2 * page → n + r.reads ≤ 2 * (page + 1)
  reads_few h = omega (arith, few)

  pub each_denied : (c : Checked) (e : Exception) → r.verdict ≡ Err e → c ≡ checked r.vm (Err e) (n + r.reads) → c ≡ check_each m k v₀ (pages_of addr size)
  unfolding check_each after_page
  each_denied c e d so = so ∙ sym (p ∙ rw (← is, d))

  module _ (last : ℕ) (end : last ≡ last_page addr size) (a : r.verdict ≡ Ok tt) (h : page < 2 ^ 20) where
    pub each_last : (c : Checked) → page ≡ last → c ≡ checked r.vm (Ok tt) (n + r.reads) → c ≡ check_each m k v₀ (pages_of addr size)
    unfolding check_each after_page pages_after
    each_last c e so =
        let none : pages_to page (last_page addr size) ≡ 0 = omega arith in
        so ∙ sym (rw none at p ∙ rw (← is, a, add-zero))

    -- an allowed page lies below the reserved ones: the next number is one of a page
    pub next_low : va / 4096 ≡ page → page + 1 < 2 ^ 20
    next_low here = rw here at (next_number m v k va (rw here h) (rw is at a))

    pub next_page_lem : va / 4096 ≡ page → page_addr (page + 1) / 4096 ≡ page + 1
    next_page_lem here = omega (arith, next_low here)

    pub each_more : last < 2 ^ 20 → (page ≡ last → ⊥) → From m k addr size v₀ r.vm (page + 1) (page_addr (page + 1)) (n + r.reads)
    unfolding check_each after_page pages_after
    each_more g e =
        let more : pages_to page (last_page addr size) ≡ suc (pages_to (page + 1) (last_page addr size)) = omega arith in
        rw more at p ∙ rw (← is, a, add_assoc)

pub ruleset steps = (reads_fit, reads_few, each_denied, each_last, next_low, next_page_lem, each_more)

-- the last byte's page, as the code computes it
less_one : (size s : ℕ) → s < 2 ^ 32 → (s + 1) % 2 ^ 32 ≡ size → (size + (2 ^ 32 - 1)) % 2 ^ 32 ≡ s
less_one size s h p = omega arith

pub last_is : (addr size s r : ℕ) → s < 2 ^ 32 → (s + 1) % 2 ^ 32 ≡ size → r ≡ (addr + s) % 2 ^ 32 → r / 4096 ≡ last_page addr size
last_is addr size s r h p q = sym (rw (less_one size s h p, q))
