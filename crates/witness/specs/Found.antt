-- What a walk that finds a leaf has read. Assumes nothing.
--
--   Found m ptbr va e     == the two words, that the walk follows them, and that e is the second one's entry
--   walk_found            == a walk that finds the leaf e has found it so
--   zero_table, zero_leaf == a word of 0 names no table and is no leaf
--   leaf_frame            == the frame of a leaf's entry
use Rattle.std.specs.Prelude.{ℕ, ◌/◌, ◌≡◌, true, false, Option, Some, None, Ok}
use Rattle.std.proofs.Math.Path.{refl}
use Rattle.common.specs.Bits.{bit_set}
use Rattle.common.specs.Cases.{absurd_eq, cond_case}
use Rattle.memory.specs.Memory.{Memory, read_at, word_spots}
use Rattle.mmu.specs.Check.{page_addr}
use Rattle.mmu.specs.Opened.{entry_frame}
use Rattle.mmu.specs.Walk.{table_ok, leaf_ok, spot1, spot2, leaf_entry, walk_leaf, walk_table, walk_of}
use Rattle.mmu.specs.declared.tlb.TlbEntry.{TlbEntry}
use Rattle.mmu.specs.declared.walk.WalkAnswer.{WalkAnswer}

pub record Found (m : Memory) (ptbr va : ℕ) (e : TlbEntry) : Type 0 where
  pub table : ℕ
  pub first : read_at m (word_spots (spot1 ptbr va)) ≡ Some table
  pub follows : table_ok table ≡ true
  pub word : ℕ
  pub second : read_at m (word_spots (spot2 table va)) ≡ Some word
  pub good : leaf_ok word ≡ true
  pub entry : e ≡ leaf_entry va word

module _ (m : Memory) (ptbr va : ℕ) (e : TlbEntry) where
  by_second : (t : ℕ) → read_at m (word_spots (spot1 ptbr va)) ≡ Some t → table_ok t ≡ true → (o : Option ℕ) → read_at m (word_spots (spot2 t va)) ≡ o
      → (walk_leaf va o).walked ≡ Ok e → Found m ptbr va e
  unfolding walk_leaf
  by_second t r g None s = λ h. absurd_eq (cc)
  by_second t r g (Some w) s =
      cond_case (λ (x : WalkAnswer). x.walked ≡ Ok e → Found m ptbr va e) (leaf_ok w)
      (λ k h. record { table = t; first = r; follows = g; word = w; second = s; good = k; entry = cc })
      (λ k h. absurd_eq (cc))

  by_first : (o : Option ℕ) → read_at m (word_spots (spot1 ptbr va)) ≡ o → (walk_table m va o).walked ≡ Ok e → Found m ptbr va e
  unfolding walk_table
  by_first None r = λ h. absurd_eq (cc)
  by_first (Some t) r =
      cond_case (λ (x : WalkAnswer). x.walked ≡ Ok e → Found m ptbr va e) (table_ok t)
      (λ g h. by_second t r g _ refl h)
      (λ g h. absurd_eq (cc))

  pub walk_found : (walk_of m ptbr va).walked ≡ Ok e → Found m ptbr va e
  unfolding walk_of
  walk_found h = by_first _ refl h

pub zero_table : table_ok 0 ≡ false
unfolding table_ok bit_set
zero_table = refl

pub zero_leaf : leaf_ok 0 ≡ false
unfolding leaf_ok bit_set
zero_leaf = refl

pub leaf_frame : (va w : ℕ) → entry_frame (leaf_entry va w) ≡ page_addr (w / 4096) / 4096
unfolding leaf_entry
leaf_frame va w = refl
