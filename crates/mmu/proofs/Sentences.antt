-- Document 01's sentences on the MMU, and its figures, proved of the definitions. Assumes nothing.
use Rattle.std.proofs.Common.{refl, arith, le-ltb, lt-ltb}
use Rattle.mmu.specs.Tlb.Laws.{dropped_at}
use Rattle.mmu.specs.Vm.{filled}
use Rattle.mmu.specs.Walk.{leaf_entry}
use Rattle.mmu.specs.Check.{by_walk, by_slot, check_with, check_page}
use Rattle.mmu.specs.Check.Laws.{page_reads, next_not_zero}
use Rattle.mmu.specs.Check.Pages.{pages_reads}
use Rattle.mmu.specs.Opened.Laws.{walk_same, passed}
use Rattle.mmu.specs.Meaning.{Meaning, Corners}

pub meaning_holds : Meaning
unfolding check_page check_with by_slot by_walk filled
meaning_holds =
    record {
      reserved = λ m vm k va h. rw (le-ltb _ _ h);
      resident = λ m vm k va i h p. rw (lt-ltb _ _ h, p);
      fills = λ m vm k va e h p w. rw (lt-ltb _ _ h, p, w);
      allowed = passed;
      goes_on = λ m vm k va h. next_not_zero m vm k va (omega arith);
      few_reads = page_reads;
      few_reads_each = pages_reads;
      tables_only = λ m m' ptbr va h same. walk_same m m' ptbr same va h;
      invalidates = dropped_at;
    }

pub corners_hold : Corners
unfolding leaf_entry
corners_hold = record { entry = refl }
