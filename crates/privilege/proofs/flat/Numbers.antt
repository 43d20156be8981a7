-- The system registers on the state's words: what each way of a read or a write answers and leaves. Assumes nothing.
use Rattle.std.proofs.Common.{◌≡◌, ℕ, zero, suc, ◌+◌, ◌/◌, ◌%◌, ◌^◌, ◌<◌, Bool, true, false, eqb, List, length, get_or, set, sym, refl, ap, ◌∙◌, arith, length-set, eq-eqb, ne_eqb, eqb-true, Option, Some, None, Result, Ok, Err, ok_or, bit_and}
use Rattle.std.proofs.lemmas.Bool.{eqb-false}
use Rattle.common.specs.Bits.{bit_set}
use Rattle.common.specs.Cases.{cond_case}
use Rattle.common.specs.declared.Refusal.TheVariants as refusal
use Rattle.layout.specs.Words.{part, put, on_at, Over, part_length, part_get, over_none, over_all, reads_none, reads_all, put_length}
use Rattle.mmu.specs.Flat.{vm_at}
use Rattle.mmu.specs.Flat.Laws.{vm_enabled_lem, vm_ptbr_lem, vm_vfault}
use Rattle.mmu.specs.Vm.{flushed, invalidated}
use Rattle.mmu.specs.declared.vm.Vm.{Vm}
use Rattle.privilege.specs.Flat.{regions_from, vm_from, system_words, regions_at, sys_at, reg_at, Becomes, Leaves, ReadsSr, WritesSr}
use Rattle.privilege.specs.Flat.Laws.{ten, sys_vm, reg_vm, sys_regions, reg_regions, sys_reg, reg_set, reg_get, sys_vm_set, reg_vm_set}
use Rattle.privilege.specs.Region.{field_of, field_written}
use Rattle.privilege.specs.Registers.{region_field, user_read, user_written, region_read, region_written, written, sr_read, sr_written, vm_ptbr}
use Rattle.privilege.specs.State.{is_short, mode_of, bit_if, no_region, status_bits, status_of, status_set, with_epc, with_cause, with_other, with_vm}
use Rattle.privilege.specs.declared.region.Region.{Region}
use Rattle.common.specs.declared.Refusal.{Refusal}
use Rattle.privilege.specs.declared.registers.SrWritten.{SrWritten}
use Rattle.privilege.specs.declared.state.SystemState.{SystemState}
use Rattle.privilege.proofs.flat.Banks.{user_at}
use Rattle.privilege.proofs.Numbers.{Unnamed, field_bound, page_start, read_unknown, read_field, read_live, read_saved, read_other, write_unknown, write_live, write_saved, write_other}

-- ---- STATUS

short_back : (b : Bool) → is_short (mode_of b) ≡ b
short_back true = refl
short_back false = refl

pub status_words : (l : List ℕ) (w : ℕ) → w ≡ status_bits (on_at l 0) (on_at l 1) (on_at l 2) (on_at l 3) (on_at l 4) → w ≡ status_of (sys_at l)
unfolding status_of sys_at
status_words l w e = e ∙ rw (short_back (on_at l 4))

pub set_status_words : (l : List ℕ) (v : ℕ) → length l ≡ system_words
    → Becomes l (set (set (set (set l 0 (v % 2)) 1 (v / 2 % 2)) 3 (v / 8 % 2)) 4 (v / 16 % 2)) (status_set (sys_at l) v) (reg_at l)
unfolding sys_at reg_at status_set bit_set
set_status_words l v n =
    let e0 : v % 2 % 2 ≡ v / 1 % 2 = omega arith in
    let e1 : v / 2 % 2 % 2 ≡ v / 2 % 2 = omega arith in
    let e3 : v / 8 % 2 % 2 ≡ v / 8 % 2 = omega arith in
    let e4 : v / 16 % 2 % 2 ≡ v / 16 % 2 = omega arith in
    ten
    (λ (l : List ℕ). Becomes l (set (set (set (set l 0 (v % 2)) 1 (v / 2 % 2)) 3 (v / 8 % 2)) 4 (v / 16 % 2)) (status_set (sys_at l) v) (reg_at l))
    (λ q r s t u w x y z k m. (refl, rw (e0, e1, e3, e4), refl)) l (omega arith)

-- ---- EPC and CAUSE

module _ (l : List ℕ) (v : ℕ) (n : length l ≡ system_words) where
  epc_word : Becomes l (set l 5 v) (with_epc (sys_at l) v) (reg_at l)
  unfolding sys_at reg_at
  epc_word = ten (λ (l : List ℕ). Becomes l (set l 5 v) (with_epc (sys_at l) v) (reg_at l)) (λ q r s t u w x y z k m. (refl, refl, refl)) l (omega arith)

  cause_word : Becomes l (set l 6 v) (with_cause (sys_at l) v) (reg_at l)
  unfolding sys_at reg_at
  cause_word = ten (λ (l : List ℕ). Becomes l (set l 6 v) (with_cause (sys_at l) v) (reg_at l)) (λ q r s t u w x y z k m. (refl, refl, refl)) l (omega arith)

-- ---- the user's bank

bank_get : (l : List ℕ) (i : ℕ) → i < 3 → get_or (sys_at l).other_bank i 0 ≡ get_or l (7 + i) 0
unfolding sys_at
bank_get l zero h = refl
bank_get l (suc zero) h = refl
bank_get l (suc (suc zero)) h = refl
bank_get l (suc (suc (suc i))) h = absurd (omega arith)

bank_set : (l : List ℕ) (i v : ℕ) → length l ≡ system_words → i < 3
    → Becomes l (set l (7 + i) v) (with_other (sys_at l) (set (sys_at l).other_bank i v)) (reg_at l)
unfolding sys_at reg_at
bank_set l zero v n h =
    ten (λ (l : List ℕ). Becomes l (set l 7 v) (with_other (sys_at l) (set (sys_at l).other_bank 0 v)) (reg_at l)) (λ q r s t u w x y z k m. (refl, refl, refl)) l (omega arith)
bank_set l (suc zero) v n h =
    ten (λ (l : List ℕ). Becomes l (set l 8 v) (with_other (sys_at l) (set (sys_at l).other_bank 1 v)) (reg_at l)) (λ q r s t u w x y z k m. (refl, refl, refl)) l (omega arith)
bank_set l (suc (suc zero)) v n h =
    ten (λ (l : List ℕ). Becomes l (set l 9 v) (with_other (sys_at l) (set (sys_at l).other_bank 2 v)) (reg_at l)) (λ q r s t u w x y z k m. (refl, refl, refl)) l (omega arith)
bank_set l (suc (suc (suc i))) v n h = absurd (omega arith)

module _ (l : List ℕ) (i : ℕ) (h : i < 3) where
  live_place : 131 + i ≡ 103 + (28 + i)
  live_place = omega arith

  module _ (u : get_or l 2 0 % 2 ≡ 1) where
    in_user_lem : (sys_at l).user ≡ true
    in_user_lem = user_at l true (eq-eqb (get_or l 2 0 % 2) 1 u)

    pub user_live : get_or l (131 + i) 0 ≡ user_read (sys_at l) i (reg_at l)
    user_live = rw (live_place, ← reg_get l (28 + i) (omega arith)) (read_live (sys_at l) i (reg_at l) in_user_lem)

    pub user_set_live : (v : ℕ) → Leaves (set l (131 + i) v) (Ok tt) (user_written (sys_at l) i v (reg_at l))
    user_set_live v =
        write_live (sys_at l) i (reg_at l) v _ in_user_lem (rw (live_place, sys_reg l (28 + i) v, reg_set l (28 + i) v (omega arith)))

  module _ (u : get_or l 2 0 % 2 ≡ 1 → ⊥) where
    no_user : (sys_at l).user ≡ false
    no_user = user_at l false (ne_eqb (get_or l 2 0 % 2) 1 u)

    pub user_saved : get_or l (7 + i) 0 ≡ user_read (sys_at l) i (reg_at l)
    user_saved = rw (← bank_get l i h) (read_saved (sys_at l) i (reg_at l) no_user)

    pub user_set_saved : (v : ℕ) → length l ≡ system_words → Leaves (set l (7 + i) v) (Ok tt) (user_written (sys_at l) i v (reg_at l))
    user_set_saved v n =
        let w = bank_set l i v n h in
        write_saved (sys_at l) i (reg_at l) v _ no_user (rw (w.1, w.2))

-- ---- a region's register, where decoding its number answered p

module _ (sr : ℕ) (p : Option (ℕ × ℕ)) (is : p ≡ region_field sr) where
  pub region_bound : (n f : ℕ) → p ≡ Some (n, f) → n < 8
  region_bound n f e = field_bound sr n f (sym is ∙ e)

  module _ (l : List ℕ) where
    pub region_unknown : (r : Refusal) → p ≡ None → Err r ≡ ok_or p refusal.Register → Err r ≡ region_read (sys_at l) (region_field sr)
    region_unknown = read_unknown (sys_at l) sr p is

    pub region_read_lem : (n f v : ℕ) (g : Region) → p ≡ Some (n, f) → g ≡ get_or (regions_at (part regions_from 24 l)) n no_region → v ≡ field_of g f
        → Ok v ≡ region_read (sys_at l) (region_field sr)
    unfolding sys_at
    region_read_lem n f v g e w q = read_field (sys_at l) sr p is n f v e (q ∙ ap (λ (x : Region). field_of x f) w)

    pub region_kept : (v : ℕ) (r : Refusal) → p ≡ None → Err r ≡ ok_or p refusal.Register → Leaves l (Err r) (region_written (sys_at l) (reg_at l) v (region_field sr))
    region_kept v r e q =
        let z : r ≡ refusal.Register = cc in
        rw z (write_unknown (sys_at l) sr p is (reg_at l) v e)

    pub region_written_lem : (v n f : ℕ) (new : List ℕ) → length l ≡ system_words → p ≡ Some (n, f) → length new ≡ length (part regions_from 24 l)
        → regions_at new ≡ field_written (regions_at (part regions_from 24 l)) n f v
        → Leaves (put regions_from 24 l new) (Ok tt) (region_written (sys_at l) (reg_at l) v (region_field sr))
    unfolding sys_at
    region_written_lem v n f new long e same q =
        let s : length new ≡ 24 = same ∙ part_length l regions_from 24 (omega arith) in
        rw (sys_regions l new long s, reg_regions l new long s, q, ← is, e)

-- ---- translation

module _ (l new : List ℕ) (long : length l ≡ system_words) (same : length new ≡ length (part vm_from 69 l)) where
  lent_vm : (v : Vm) → vm_at new ≡ v → Becomes l (put vm_from 69 l new) (with_vm (sys_at l) v) (reg_at l)
  lent_vm v e =
      let p : length (part vm_from 69 l) ≡ 69 = part_length l vm_from 69 (omega arith) in
      let s : length new ≡ 69 = same ∙ p in
      (put_length l new vm_from 69 (omega arith) s, sys_vm l new long s ∙ rw e, reg_vm l new long s)

  pub flush_words : (r : Unit {0}) → Over 69 (part vm_from 69 l) new r r (vm_at new ≡ flushed (vm_at (part vm_from 69 l)))
      → Becomes l (put vm_from 69 l new) (with_vm (sys_at l) (flushed (sys_at l).vm)) (reg_at l)
  unfolding sys_at
  flush_words r o = lent_vm _ (o.0 (part_length l vm_from 69 (omega arith))).1

  pub invalidate_words : (v : ℕ) (r : Unit {0}) → Over 69 (part vm_from 69 l) new r r (vm_at new ≡ invalidated (vm_at (part vm_from 69 l)) v)
      → Becomes l (put vm_from 69 l new) (with_vm (sys_at l) (invalidated (sys_at l).vm v)) (reg_at l)
  unfolding sys_at
  invalidate_words v r o = lent_vm _ (o.0 (part_length l vm_from 69 (omega arith))).1

pub ruleset parts = (status_words, set_status_words, user_live, user_set_live, user_saved, user_set_saved, region_bound, region_unknown, region_read_lem, region_kept, region_written_lem, flush_words)

-- ---- a read

-- a truth value's word without its upper bits is its number
bit_number : (w : ℕ) → w % 2 ≡ bit_if (eqb (w % 2) 1) 1
bit_number w =
    cond_case (λ (x : ℕ). w % 2 ≡ x) (eqb (w % 2) 1) (λ t. eqb-true (w % 2) 1 t) (λ t. let z : w % 2 ≡ 1 → ⊥ = eqb-false (w % 2) 1 t in omega arith)

module _ (l : List ℕ) where
  pub read_short : (sr : ℕ) → (length l ≡ system_words → ⊥) → ReadsSr l sr (Err refusal.Register)
  read_short sr h = reads_none system_words l _ _ _ h refl

  vm_word : (i : ℕ) → i < 69 → get_or (part vm_from 69 l) i 0 ≡ get_or l (vm_from + i) 0
  vm_word i h = part_get l vm_from 69 i h

  enabled_word : get_or l 34 0 % 2 ≡ bit_if (sys_at l).vm.enabled 1
  unfolding sys_at vm_at
  enabled_word = rw (vm_word 0 (omega arith)) (bit_number (get_or l 34 0))

  ptbr_word : get_or l 35 0 ≡ (sys_at l).vm.ptbr
  unfolding sys_at vm_at
  ptbr_word = sym (vm_word 1 (omega arith))

  vfault_word : get_or l 36 0 ≡ (sys_at l).vm.vfault
  unfolding sys_at vm_at
  vfault_word = sym (vm_word 2 (omega arith))

  module _ (sr : ℕ) (long : length l ≡ system_words) where
    answers : (r : Result ℕ Refusal) → r ≡ sr_read (sys_at l) sr (reg_at l) → ReadsSr l sr r
    answers r e = reads_all system_words l r _ _ long e

    pub read_status : (w : ℕ) → sr ≡ 0x00 → w ≡ status_of (sys_at l) → ReadsSr l sr (Ok w)
    unfolding sr_read
    read_status w h e = answers _ (rw (h, e))

    pub read_epc : sr ≡ 0x01 → ReadsSr l sr (Ok (get_or l 5 0))
    unfolding sr_read sys_at
    read_epc h = answers _ (rw h)

    pub read_cause : sr ≡ 0x02 → ReadsSr l sr (Ok (get_or l 6 0))
    unfolding sr_read sys_at
    read_cause h = answers _ (rw h)

    module _ (w : ℕ) where
      pub read_usp : sr ≡ 0x08 → w ≡ user_read (sys_at l) 0 (reg_at l) → ReadsSr l sr (Ok w)
      unfolding sr_read
      read_usp h e = answers _ (rw (h, e))

      pub read_ufp : sr ≡ 0x09 → w ≡ user_read (sys_at l) 1 (reg_at l) → ReadsSr l sr (Ok w)
      unfolding sr_read
      read_ufp h e = answers _ (rw (h, e))

      pub read_ugp : sr ≡ 0x0A → w ≡ user_read (sys_at l) 2 (reg_at l) → ReadsSr l sr (Ok w)
      unfolding sr_read
      read_ugp h e = answers _ (rw (h, e))

    pub read_unnamed : (r : Result ℕ Refusal) → Unnamed sr → r ≡ region_read (sys_at l) (region_field sr) → ReadsSr l sr r
    read_unnamed r u e = answers r (e ∙ sym (read_other (sys_at l) sr (reg_at l) u))

    pub read_vctl : sr ≡ 0x40 → ReadsSr l sr (Ok (get_or l 34 0 % 2))
    unfolding sr_read
    read_vctl h = answers _ (rw (h, enabled_word))

    pub read_ptbr : sr ≡ 0x41 → ReadsSr l sr (Ok (get_or l 35 0))
    unfolding sr_read
    read_ptbr h = answers _ (rw (h, ptbr_word))

    pub read_vfault : sr ≡ 0x42 → ReadsSr l sr (Ok (get_or l 36 0))
    unfolding sr_read
    read_vfault h = answers _ (rw (h, vfault_word))

    pub read_tlbflush : sr ≡ 0x43 → ReadsSr l sr (Ok 0)
    unfolding sr_read
    read_tlbflush h = answers _ (rw h)

    pub read_tlbinv : sr ≡ 0x44 → ReadsSr l sr (Ok 0)
    unfolding sr_read
    read_tlbinv h = answers _ (rw h)

pub ruleset reads = (read_short, read_status, read_epc, read_cause, read_usp, read_ufp, read_ugp, read_unnamed, read_vctl, read_ptbr, read_vfault, read_tlbflush, read_tlbinv)

-- ---- a write

pub write_short : (l : List ℕ) (sr v : ℕ) → (length l ≡ system_words → ⊥) → WritesSr l l sr v (Err refusal.Register)
write_short l sr v h = over_none system_words l _ _ _ h refl

module _ (l : List ℕ) (sr v : ℕ) (long : length l ≡ system_words) where
  -- the write is done: what it left is the definition's
  settled : (l' : List ℕ) (s : SystemState) (reg : List ℕ) → Becomes l l' s reg → written s reg ≡ sr_written (sys_at l) sr v (reg_at l) → WritesSr l l' sr v (Ok tt)
  settled l' s reg b e = over_all system_words l _ _ l' _ long b.0 (rw (b.1, b.2) e)

  -- of one of translation's words
  vm_settled : (i w : ℕ) (vm : Vm) → i < 69 → vm_at (set (part vm_from 69 l) i w) ≡ vm → written (with_vm (sys_at l) vm) (reg_at l) ≡ sr_written (sys_at l) sr v (reg_at l)
      → WritesSr l (set l (vm_from + i) w) sr v (Ok tt)
  vm_settled i w vm h e q =
      settled (set l (vm_from + i) w) (with_vm (sys_at l) vm) (reg_at l) (simp length-set, sys_vm_set l i w h ∙ rw e, reg_vm_set l i w h) q

  inner : length (part vm_from 69 l) ≡ 69
  inner = part_length l vm_from 69 (omega arith)

  pub write_status : (l' : List ℕ) → sr ≡ 0x00 → Becomes l l' (status_set (sys_at l) v) (reg_at l) → WritesSr l l' sr v (Ok tt)
  unfolding sr_written
  write_status l' h b = settled l' _ _ b (rw h)

  pub write_epc : sr ≡ 0x01 → WritesSr l (set l 5 v) sr v (Ok tt)
  unfolding sr_written
  write_epc h = settled _ _ _ (epc_word l v long) (rw h)

  pub write_cause : sr ≡ 0x02 → WritesSr l (set l 6 v) sr v (Ok tt)
  unfolding sr_written
  write_cause h = settled _ _ _ (cause_word l v long) (rw h)

  module _ (l' : List ℕ) (r : Result (Unit {0}) Refusal) (same : length l' ≡ length l) where
    left : (w : SrWritten) → Leaves l' r w → w ≡ sr_written (sys_at l) sr v (reg_at l) → WritesSr l l' sr v r
    left w e q = over_all system_words l r _ l' _ long same (e ∙ q)

    pub write_usp : sr ≡ 0x08 → Leaves l' r (user_written (sys_at l) 0 v (reg_at l)) → WritesSr l l' sr v r
    unfolding sr_written
    write_usp h e = left _ e (rw h)

    pub write_ufp : sr ≡ 0x09 → Leaves l' r (user_written (sys_at l) 1 v (reg_at l)) → WritesSr l l' sr v r
    unfolding sr_written
    write_ufp h e = left _ e (rw h)

    pub write_ugp : sr ≡ 0x0A → Leaves l' r (user_written (sys_at l) 2 v (reg_at l)) → WritesSr l l' sr v r
    unfolding sr_written
    write_ugp h e = left _ e (rw h)

    pub write_unnamed : Unnamed sr → Leaves l' r (region_written (sys_at l) (reg_at l) v (region_field sr)) → WritesSr l l' sr v r
    write_unnamed u e = left _ e (sym (write_other (sys_at l) sr (reg_at l) u v))

  pub write_vctl : sr ≡ 0x40 → WritesSr l (set l 34 (v % 2)) sr v (Ok tt)
  unfolding sr_written bit_set sys_at
  write_vctl h =
      let e : v % 2 % 2 ≡ v / 1 % 2 = omega arith in
      vm_settled 0 (v % 2) _ (omega arith) (vm_enabled_lem (part vm_from 69 l) inner (v % 2)) (rw (h, e))

  pub write_vfault : sr ≡ 0x42 → WritesSr l (set l 36 v) sr v (Ok tt)
  unfolding sr_written sys_at
  write_vfault h = vm_settled 2 v _ (omega arith) (vm_vfault (part vm_from 69 l) inner v) (rw h)

  ptbr_set : (w : ℕ) → sys_at (set l 35 w) ≡ with_vm (sys_at l) (vm_ptbr (sys_at l).vm w)
  unfolding sys_at
  ptbr_set w = sys_vm_set l 1 w (omega arith) ∙ rw (vm_ptbr_lem (part vm_from 69 l) inner w)

  pub write_ptbr : (l' : List ℕ) → sr ≡ 0x41 → v < 2 ^ 32
      → Becomes (set l 35 (bit_and v 0xFFFF_F000)) l'
      (with_vm (sys_at (set l 35 (bit_and v 0xFFFF_F000))) (flushed (sys_at (set l 35 (bit_and v 0xFFFF_F000))).vm)) (reg_at (set l 35 (bit_and v 0xFFFF_F000)))
      → WritesSr l l' sr v (Ok tt)
  unfolding sr_written
  write_ptbr l' h small b =
      let w : ℕ = bit_and v 0xFFFF_F000 in
      settled l' (with_vm (sys_at l) (flushed (vm_ptbr (sys_at l).vm w))) (reg_at l)
      (b.0 ∙ simp length-set, b.1 ∙ rw (ptbr_set w), b.2 ∙ reg_vm_set l 1 w (omega arith))
      (rw (h, page_start v small))

  pub write_tlbflush : (l' : List ℕ) → sr ≡ 0x43 → Becomes l l' (with_vm (sys_at l) (flushed (sys_at l).vm)) (reg_at l) → WritesSr l l' sr v (Ok tt)
  unfolding sr_written
  write_tlbflush l' h b = settled l' _ _ b (rw h)

  pub write_tlbinv : (new : List ℕ) (r : Unit {0}) → sr ≡ 0x44 → length new ≡ length (part vm_from 69 l)
      → Over 69 (part vm_from 69 l) new r r (vm_at new ≡ invalidated (vm_at (part vm_from 69 l)) v) → WritesSr l (put vm_from 69 l new) sr v (Ok tt)
  unfolding sr_written
  write_tlbinv new r h same o = settled _ _ _ (invalidate_words l new long same v r o) (rw h)

pub ruleset writes = (write_short, write_status, write_epc, write_cause, write_usp, write_ufp, write_ugp, write_unnamed, write_vctl, write_vfault, write_ptbr, write_tlbflush, write_tlbinv)

-- what is said of words is said of the same words
pub writes_as : (l m l' : List ℕ) (sr v : ℕ) (r : Result (Unit {0}) Refusal) → l ≡ m → WritesSr l l' sr v r → WritesSr m l' sr v r
writes_as l m l' sr v r e w = rw (← e) w

pub reads_as : (l m : List ℕ) (sr : ℕ) (r : Result ℕ Refusal) → l ≡ m → ReadsSr l sr r → ReadsSr m sr r
reads_as l m sr r e w = rw (← e) w
