-- The laws of the check of several pages. Assumes nothing.
--
--   VmKept vm vm'     == the same VCTL, PTBR and VFAULT, and as many TLB slots
--   pages_keep        == the check of pages leaves these, whatever it answers
--   each_page         == the check of one page alone is that page's
--   pages_reads       == it reads at most two words for each page
--   pages_same        == it depends on memory only through the walks of its pages
use Rattle.std.specs.Prelude.{◌≡◌, ℕ, ◌+◌, ◌*◌, ◌/◌, ◌≤◌, List, [], ◌∷◌, length, refl, Option, Some, None, Result, Ok, Err}
use Rattle.std.proofs.Common.{ap, ◌∙◌, add-zero, arith, lit≤, length-set}
use Rattle.common.specs.Cases.{cond_holds}
use Rattle.common.specs.Lists.{Each}
use Rattle.memory.specs.Memory.{Memory}
use Rattle.mmu.specs.Check.{page_addr, below_reserved, checked, by_walk, by_slot, check_with, check_page, after_page, check_each}
use Rattle.mmu.specs.Check.Laws.{page_reads}
use Rattle.mmu.specs.Vm.{victim, filled, slot_of}
use Rattle.mmu.specs.Walk.{walk_of}
use Rattle.mmu.specs.declared.check.Checked.{Checked}
use Rattle.mmu.specs.declared.exception.Exception.{Exception}
use Rattle.mmu.specs.declared.walk.WalkFault.TheVariants as walked
use Rattle.mmu.specs.declared.walk.WalkFault.{WalkFault}
use Rattle.mmu.specs.declared.exception.Access.{Access}
use Rattle.mmu.specs.declared.tlb.TlbEntry.{TlbEntry}
use Rattle.mmu.specs.declared.vm.Vm.{Vm}
use Rattle.mmu.specs.declared.walk.WalkAnswer.{WalkAnswer}

pub record VmKept (vm vm' : Vm) : Type 0 where
  pub enabled : vm'.enabled ≡ vm.enabled
  pub ptbr : vm'.ptbr ≡ vm.ptbr
  pub vfault : vm'.vfault ≡ vm.vfault
  pub slots : length vm'.tlb ≡ length vm.tlb

pub kept_same : (vm : Vm) → VmKept vm vm
kept_same vm = record { enabled = refl; ptbr = refl; vfault = refl; slots = refl }

kept_then : (a b d : Vm) → VmKept a b → VmKept b d → VmKept a d
kept_then a b d p q =
    record { enabled = q.enabled ∙ p.enabled; ptbr = q.ptbr ∙ p.ptbr; vfault = q.vfault ∙ p.vfault; slots = q.slots ∙ p.slots }

fill_keeps : (vm : Vm) (e : TlbEntry) → VmKept vm (filled vm e)
unfolding filled
fill_keeps vm e = record { enabled = refl; ptbr = refl; vfault = refl; slots = length-set vm.tlb (victim vm) e }

walk_keeps : (vm : Vm) (k : Access) (va n : ℕ) (w : Result TlbEntry WalkFault) → VmKept vm (by_walk vm k va n w).vm
unfolding by_walk
walk_keeps vm k va n (Ok e) = fill_keeps vm e
walk_keeps vm k va n (Err walked.Missing) = kept_same vm
walk_keeps vm k va n (Err walked.BusError) = kept_same vm

slot_keeps : (vm : Vm) (k : Access) (va : ℕ) (w : WalkAnswer) (s : Option ℕ) → VmKept vm (by_slot vm k va w s).vm
unfolding by_slot
slot_keeps vm k va w (Some i) = kept_same vm
slot_keeps vm k va w None = walk_keeps vm k va w.reads w.walked

page_keeps : (m : Memory) (vm : Vm) (k : Access) (va : ℕ) → VmKept vm (check_page m vm k va).vm
unfolding check_page check_with
page_keeps m vm k va =
    cond_holds (λ (c : Checked). VmKept vm c.vm) (below_reserved (page_addr (va / 4096)))
    (slot_keeps vm k va (walk_of m vm.ptbr va) (slot_of vm va)) (kept_same vm)

after_keeps : (vm : Vm) (v : Result (Unit {0}) Exception) (page rest : Checked) → VmKept vm page.vm → VmKept vm rest.vm → VmKept vm (after_page v page rest).vm
unfolding after_page
after_keeps vm (Ok tt) page rest p q = q
after_keeps vm (Err e) page rest p q = p

pub pages_keep : (m : Memory) (k : Access) (vm : Vm) (l : List ℕ) → VmKept vm (check_each m k vm l).vm
unfolding check_each
pages_keep m k vm [] = kept_same vm
pages_keep m k vm (va ∷ l) =
    let page = check_page m vm k va in
    after_keeps vm page.verdict page (check_each m k page.vm l) (page_keeps m vm k va)
    (kept_then vm page.vm (check_each m k page.vm l).vm (page_keeps m vm k va) (pages_keep m k page.vm l))

after_none : (v : Result (Unit {0}) Exception) (page : Checked) → page.verdict ≡ v → after_page v page (checked page.vm (Ok tt) 0) ≡ page
unfolding after_page
after_none (Ok tt) page h = rw (← h, add-zero page.reads)
after_none (Err e) page h = refl

pub each_page : (m : Memory) (k : Access) (vm : Vm) (va : ℕ) → check_each m k vm (va ∷ []) ≡ check_page m vm k va
unfolding check_each
each_page m k vm va = after_none (check_page m vm k va).verdict (check_page m vm k va) refl

after_reads : (v : Result (Unit {0}) Exception) (page rest : Checked) (n : ℕ) → page.reads ≤ 2 → rest.reads ≤ 2 * n → (after_page v page rest).reads ≤ 2 * (1 + n)
unfolding after_page
after_reads (Ok tt) page rest n p q = omega arith
after_reads (Err e) page rest n p q = omega arith

pub pages_reads : (m : Memory) (k : Access) (vm : Vm) (l : List ℕ) → (check_each m k vm l).reads ≤ 2 * length l
unfolding check_each
pages_reads m k vm [] = lit≤ tt
pages_reads m k vm (va ∷ l) =
    let page = check_page m vm k va in
    omega (arith, after_reads page.verdict page (check_each m k page.vm l) (length l) (page_reads m vm k va) (pages_reads m k page.vm l))

-- ---- what a check depends on

abbrev pub SameWalks : Memory → Memory → ℕ → List ℕ → Type 0
SameWalks m m' ptbr l = Each (λ va. walk_of m ptbr va ≡ walk_of m' ptbr va) l

page_same : (m m' : Memory) (vm : Vm) (k : Access) (va : ℕ) → walk_of m vm.ptbr va ≡ walk_of m' vm.ptbr va → check_page m vm k va ≡ check_page m' vm k va
unfolding check_page
page_same m m' vm k va e = ap (check_with vm k va) e

pub pages_same : (m m' : Memory) (k : Access) (vm : Vm) (l : List ℕ) → SameWalks m m' vm.ptbr l → check_each m k vm l ≡ check_each m' k vm l
unfolding check_each
pages_same m m' k vm [] h = refl
pages_same m m' k vm (va ∷ l) h =
    let page = check_page m vm k va in
    let rest = pages_same m m' k page.vm l (rw (page_keeps m vm k va).ptbr h.1) in
    ap (λ (c : Checked). after_page page.verdict page c) rest
    ∙ ap (λ (c : Checked). after_page c.verdict c (check_each m' k c.vm l)) (page_same m m' vm k va h.0)
