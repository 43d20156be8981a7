-- TLB, walk and page check: two outcomes that a contract of `mmu` admits coincide (`Settled.antt`).
use borrow.Fn.Read.{r_last}
use Rattle.contracts.specs.Settled.{Settled, SettledAs, Claim, 𝓛, mem, run}
use Rattle.contracts.specs.Words.{SameWords}
use Rattle.mmu.specs.contracts as mmu
use Rattle.mmu.specs.Flat.{vm_words, vm_at}

pub record Mmu : Type 0 where
  pub check_page : Settled mmu.vm.Vm.check_page.ended (λ κs a r e. Claim ((mmu.vm.Vm.check_page.clauses 𝓛 mem run κs a).ensures tt r e) (r_last _))
  pub check_pages : Settled mmu.vm.Vm.check_pages.ended (λ κs a r e. Claim ((mmu.vm.Vm.check_pages.clauses 𝓛 mem run κs a).ensures tt r e) (r_last _))
  pub region_bit : Settled mmu.exception.region_bit.ended (λ κs a r e. Claim ((mmu.exception.region_bit.clauses 𝓛 mem run κs a).ensures tt r e) (r_last _))
  pub pte_bit : Settled mmu.exception.pte_bit.ended (λ κs a r e. Claim ((mmu.exception.pte_bit.clauses 𝓛 mem run κs a).ensures tt r e) (r_last _))
  pub cause : Settled mmu.exception.Exception.cause.ended (λ κs a r e. Claim ((mmu.exception.Exception.cause.clauses 𝓛 mem run κs a).ensures tt r e) (r_last _))
  pub vector : Settled mmu.exception.Exception.vector.ended (λ κs a r e. Claim ((mmu.exception.Exception.vector.clauses 𝓛 mem run κs a).ensures tt r e) (r_last _))
  pub tlb_lookup : Settled mmu.tlb.lookup.ended (λ κs a r e. Claim ((mmu.tlb.lookup.clauses 𝓛 mem run κs a).ensures tt r e) (r_last _))
  pub tlb_fill : Settled mmu.tlb.fill.ended (λ κs a r e. Claim ((mmu.tlb.fill.clauses 𝓛 mem run κs a).ensures tt r e) (r_last _))
  pub tlb_invalidate : Settled mmu.tlb.invalidate.ended (λ κs a r e. Claim ((mmu.tlb.invalidate.clauses 𝓛 mem run κs a).ensures tt r e) (r_last _))
  pub empty : Settled mmu.tlb.empty.ended (λ κs a r e. Claim ((mmu.tlb.empty.clauses 𝓛 mem run κs a).ensures tt r e) (r_last _))
  pub tlb_flush : Settled mmu.tlb.flush.ended (λ κs a r e. Claim ((mmu.tlb.flush.clauses 𝓛 mem run κs a).ensures tt r e) (r_last _))
  pub new : Settled mmu.vm.Vm.new.ended (λ κs a r e. Claim ((mmu.vm.Vm.new.clauses 𝓛 mem run κs a).ensures tt r e) (r_last _))
  pub vm_flush : Settled mmu.vm.Vm.flush.ended (λ κs a r e. Claim ((mmu.vm.Vm.flush.clauses 𝓛 mem run κs a).ensures tt r e) (r_last _))
  pub vm_invalidate : Settled mmu.vm.Vm.invalidate.ended (λ κs a r e. Claim ((mmu.vm.Vm.invalidate.clauses 𝓛 mem run κs a).ensures tt r e) (r_last _))
  pub vm_lookup : Settled mmu.vm.Vm.lookup.ended (λ κs a r e. Claim ((mmu.vm.Vm.lookup.clauses 𝓛 mem run κs a).ensures tt r e) (r_last _))
  pub vm_fill : Settled mmu.vm.Vm.fill.ended (λ κs a r e. Claim ((mmu.vm.Vm.fill.clauses 𝓛 mem run κs a).ensures tt r e) (r_last _))
  pub walk : Settled mmu.walk.walk.ended (λ κs a r e. Claim ((mmu.walk.walk.clauses 𝓛 mem run κs a).ensures tt r e) (r_last _))
  pub vm_frame_of : Settled mmu.vm.Vm.frame_of.ended (λ κs a r e. Claim ((mmu.vm.Vm.frame_of.clauses 𝓛 mem run κs a).ensures tt r e) (r_last _))

-- where the words of Extension V's state stand
pub record MmuFlat : Type 0 where
  pub check_pages : SettledAs mmu.flat.check_pages.ended (λ κs a r e. Claim ((mmu.flat.check_pages.clauses 𝓛 mem run κs a).ensures tt r e) (r_last _)) (λ κs a. SameWords vm_words vm_at a.0.now)
  pub grant_page : SettledAs mmu.flat.grant_page.ended (λ κs a r e. Claim ((mmu.flat.grant_page.clauses 𝓛 mem run κs a).ensures tt r e) (r_last _)) (λ κs a. SameWords vm_words vm_at a.0.now)
  pub frame_of : Settled mmu.flat.frame_of.ended (λ κs a r e. Claim ((mmu.flat.frame_of.clauses 𝓛 mem run κs a).ensures tt r e) (r_last _))
  pub flush : SettledAs mmu.flat.flush.ended (λ κs a r e. Claim ((mmu.flat.flush.clauses 𝓛 mem run κs a).ensures tt r e) (r_last _)) (λ κs a. SameWords vm_words vm_at a.0.now)
  pub invalidate : SettledAs mmu.flat.invalidate.ended (λ κs a r e. Claim ((mmu.flat.invalidate.clauses 𝓛 mem run κs a).ensures tt r e) (r_last _)) (λ κs a. SameWords vm_words vm_at a.0.now)
  pub pack : SettledAs mmu.flat.pack.ended (λ κs a r e. Claim ((mmu.flat.pack.clauses 𝓛 mem run κs a).ensures tt r e) (r_last _)) (λ κs a. SameWords vm_words vm_at a.0.now)
  pub unpack : Settled mmu.flat.unpack.ended (λ κs a r e. Claim ((mmu.flat.unpack.clauses 𝓛 mem run κs a).ensures tt r e) (r_last _))
