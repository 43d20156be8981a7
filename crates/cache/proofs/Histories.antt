-- The counts tell the history. What each operation does to a bank's total is a law of the bank (`Tally`); a sequence of
-- operations is an induction over it. Assumes nothing.
use Rattle.std.proofs.Common.{◌≡◌, ℕ, zero, suc, ◌+◌, ◌/◌, ◌%◌, ◌^◌, ◌<◌, ◌≤◌, Bool, true, false, cond, not, ◌&&◌, eqb, List, [], ◌∷◌, ◌++◌, sym, refl, ap, ◌∙◌, ⊎_elim, add-zero, add_assoc, zero-add, arith, lit≤, ne_eqb, eqb-true}
use native.Mathlib.Nat.{mod-mod}
use Rattle.std.proofs.lemmas.Bool.{eqb-false, not-true}
use Rattle.common.specs.Bits.{bit_set}
use Rattle.common.specs.Cases.{bool_is, cond_holds, and_left, and_right}
use Rattle.cache.specs.Bank.{holds, accessed, line_dropped, enabled_to, controlled, swept}
use Rattle.cache.specs.Cache.{Side, i_bank, d_bank, bank_of, with_banks, new_cache, cacheable_at, counts, bank_after, fetched, loaded, stored, external_written, ctrl_word, reg_read, reg_written, word_of, with_byte, merged}
use Rattle.cache.specs.History.{Op, fetch, load, store, external, write_reg, write_byte, clear_stats, reset, stepped, ran, total, counted, clearing, none_clears, made, since, History}
use Rattle.cache.specs.declared.Bank.{Bank}
use Rattle.cache.specs.declared.BankAccess.{BankAccess}
use Rattle.cache.specs.declared.L1Cache.{L1Cache}

-- ---- one operation, at one bank

-- b becomes b' and its total starts again, if it clears, or grows by k
abbrev Tally : Bool → ℕ → Bank → Bank → Type 0
Tally clears k b b' = (n : ℕ) → total b ≡ n % 2 ^ 32 → total b' ≡ cond clears 0 (n + k) % 2 ^ 32

-- the counts stay; they are cleared
tally_same : (b b' : Bank) → b.hits ≡ b'.hits → b.misses ≡ b'.misses → Tally false 0 b b'
tally_same b b' p q n h = omega arith

-- an access is one hit or one miss
one_access : (b : Bank) (pa : ℕ) → Tally false 1 b (accessed b pa).bank
unfolding accessed
one_access b pa n h = cond_holds (λ (a : BankAccess). total a.bank ≡ (n + 1) % 2 ^ 32) (holds b pa) (omega arith) (omega arith)

tally_access : (c : L1Cache) (b : Bank) (pa : ℕ) → Tally false (cond (counts c b pa) 1 0) b (bank_after c b pa)
tally_access c b pa = by (counts c b pa)
  where
    by : (t : Bool) → Tally false (cond t 1 0) b (cond t (accessed b pa).bank b)
    by true = one_access b pa
    by false = tally_same b b refl refl

-- a dropped line counts nothing
tally_drop : (t : Bool) (b : Bank) (pa : ℕ) → Tally false 0 b (cond t (line_dropped b pa) b)
unfolding line_dropped
tally_drop t b pa =
    cond_holds (Tally false 0 b) t
    (cond_holds (Tally false 0 b) (holds b pa) (tally_same b b refl refl) (tally_same b b refl refl))
    (tally_same b b refl refl)

-- a write of control clears the counts by its strobe alone
tally_control : (b : Bank) (on drop clear : Bool) → Tally clear 0 b (controlled b on drop clear)
unfolding controlled enabled_to
tally_control b on drop true n h = refl
tally_control b on true false n h = tally_same b b refl refl n h
tally_control b on false false n h = tally_same b b refl refl n h

-- ---- one operation, of either bank

-- an offset that is control's, or not
tally_write : (s : Side) (c : L1Cache) (offset v : ℕ) → Tally (eqb offset 0x04 && bit_set v 10) 0 (bank_of s c) (bank_of s (reg_written c offset v))
unfolding reg_written
tally_write s c offset v = by s (eqb offset 0x04)
  where
    by : (s : Side) (t : Bool) →
        Tally (t && bit_set v 10) 0 (bank_of s c)
        (bank_of s
        (cond t
        (with_banks c
        (controlled c.i (bit_set v 0) (bit_set v 8) (bit_set v 10))
        (controlled c.d (bit_set v 1) (bit_set v 9) (bit_set v 10)))
        c))
    by i_bank true = tally_control c.i (bit_set v 0) (bit_set v 8) (bit_set v 10)
    by d_bank true = tally_control c.d (bit_set v 1) (bit_set v 9) (bit_set v 10)
    by i_bank false = tally_same c.i c.i refl refl
    by d_bank false = tally_same c.d c.d refl refl

step_tally : (s : Side) (c : L1Cache) (o : Op) → Tally (clearing c o) (cond (counted s c o) 1 0) (bank_of s c) (bank_of s (stepped c o))
unfolding fetched loaded stored external_written swept
step_tally i_bank c (fetch pa) = tally_access c c.i pa
step_tally d_bank c (fetch pa) = tally_same c.d c.d refl refl
step_tally i_bank c (load pa) = tally_same c.i c.i refl refl
step_tally d_bank c (load pa) = tally_access c c.d pa
step_tally i_bank c (store pa) = tally_drop (cacheable_at c pa) c.i pa
step_tally d_bank c (store pa) = tally_same c.d c.d refl refl
step_tally i_bank c (external pa len) = tally_same c.i c.i refl refl
step_tally d_bank c (external pa len) = tally_same c.d c.d refl refl
step_tally s c (write_reg offset v) = tally_write s c offset v
step_tally s c (write_byte addr v) = tally_write s c (word_of addr) (merged (reg_read c (word_of addr)) addr v)
step_tally i_bank c clear_stats = λ n h. refl
step_tally d_bank c clear_stats = λ n h. refl
step_tally i_bank c reset = λ n h. refl
step_tally d_bank c reset = λ n h. refl

-- ---- a sequence

since_holds : (s : Side) (c : L1Cache) (n : ℕ) (os : List Op) → total (bank_of s c) ≡ n % 2 ^ 32 → total (bank_of s (ran c os)) ≡ since s c n os % 2 ^ 32
since_holds s c n [] h = h
since_holds s c n (o ∷ os) h = since_holds s (stepped c o) (cond (clearing c o) 0 (n + cond (counted s c o) 1 0)) os (step_tally s c o n h)

from_any : (s : Side) (c : L1Cache) (os : List Op) → total (bank_of s (ran c os)) ≡ since s c (total (bank_of s c)) os % 2 ^ 32
from_any s c os = since_holds s c (total (bank_of s c)) os (sym (mod-mod ((bank_of s c).hits + (bank_of s c).misses) (2 ^ 32)))

new_total : (s : Side) (start size : ℕ) → total (bank_of s (new_cache start size)) ≡ 0
new_total i_bank start size = refl
new_total d_bank start size = refl

from_new : (s : Side) (start size : ℕ) (os : List Op) → total (bank_of s (ran (new_cache start size) os)) ≡ since s (new_cache start size) 0 os % 2 ^ 32
from_new s start size os = since_holds s (new_cache start size) 0 os (new_total s start size)

-- ---- the sentence word by word

-- where none clears, what counts is added up
none_clears_lem : (s : Side) (c : L1Cache) (n : ℕ) (os : List Op) → none_clears c os ≡ true → since s c n os ≡ n + made s c os
none_clears_lem s c n [] h = sym (add-zero n)
none_clears_lem s c n (o ∷ os) h =
    let kept : clearing c o ≡ false = not-true (clearing c o) (and_left (not (clearing c o)) (none_clears (stepped c o) os) h) in
    rw kept
    (none_clears_lem s (stepped c o) (n + cond (counted s c o) 1 0) os (and_right (not (clearing c o)) (none_clears (stepped c o) os) h)
    ∙ add_assoc n (cond (counted s c o) 1 0) (made s (stepped c o) os))

ran_append : (c : L1Cache) (xs ys : List Op) → ran c (xs ++ ys) ≡ ran (ran c xs) ys
ran_append c [] ys = refl
ran_append c (x ∷ xs) ys = ran_append (stepped c x) xs ys

cleared_total : (s : Side) (c : L1Cache) (o : Op) → clearing c o ≡ true → total (bank_of s (stepped c o)) ≡ 0
cleared_total s c o h =
    step_tally s c o ((bank_of s c).hits + (bank_of s c).misses) refl
    ∙ ap (λ (t : Bool). cond t 0 ((bank_of s c).hits + (bank_of s c).misses + cond (counted s c o) 1 0) % 2 ^ 32) h

since_clear : (s : Side) (c : L1Cache) (before : List Op) (o : Op) (after : List Op)
    → clearing (ran c before) o ≡ true → none_clears (stepped (ran c before) o) after ≡ true
    → total (bank_of s (ran c (before ++ o ∷ after))) ≡ made s (stepped (ran c before) o) after % 2 ^ 32
since_clear s c before o after h k =
    ap (λ (x : L1Cache). total (bank_of s x)) (ran_append c before (o ∷ after))
    ∙ since_holds s (stepped (ran c before) o) 0 after (cleared_total s (ran c before) o h)
    ∙ ap (λ (n : ℕ). n % 2 ^ 32) (none_clears_lem s (stepped (ran c before) o) 0 after k ∙ zero-add _)

since_none : (s : Side) (c : L1Cache) (os : List Op) → total (bank_of s c) ≡ 0 → none_clears c os ≡ true → total (bank_of s (ran c os)) ≡ made s c os % 2 ^ 32
since_none s c os z k = from_any s c os ∙ ap (λ (n : ℕ). n % 2 ^ 32) (rw z (none_clears_lem s c 0 os k ∙ zero-add _))

since_new : (s : Side) (start size : ℕ) (os : List Op) → none_clears (new_cache start size) os ≡ true
    → total (bank_of s (ran (new_cache start size) os)) ≡ made s (new_cache start size) os % 2 ^ 32
since_new s start size os k =
    from_new s start size os ∙ ap (λ (n : ℕ). n % 2 ^ 32) (none_clears_lem s (new_cache start size) 0 os k ∙ zero-add _)

-- ---- a clear by byte lane

-- control reads as one of 0 to 3, so that a byte merged into it has bit 10 only from the byte at 6
ctrl_small : (c : L1Cache) → ctrl_word c ≤ 3
unfolding ctrl_word
ctrl_small c = by c.i.enabled c.d.enabled
  where
    by : (i d : Bool) → cond i 1 0 + cond d 2 0 ≤ 3
    by true true = lit≤ tt
    by true false = lit≤ tt
    by false true = lit≤ tt
    by false false = lit≤ tt

control_read : (c : L1Cache) → reg_read c 0x04 ≡ ctrl_word c
unfolding reg_read
control_read c = refl

lane_clears : (w l v : ℕ) → w ≤ 3 → l < 4 → v < 256 → bit_set (merged w (4 + l) v) 10 ≡ (eqb (4 + l) 6 && bit_set v 2)
unfolding merged bit_set
lane_clears w zero v hw hl hv = let e : with_byte w 24 v / 2 ^ 10 % 2 ≡ 0 = omega arith in ap (λ (x : ℕ). eqb x 1) e
lane_clears w (suc zero) v hw hl hv = let e : with_byte w 16 v / 2 ^ 10 % 2 ≡ 0 = omega arith in ap (λ (x : ℕ). eqb x 1) e
lane_clears w (suc (suc zero)) v hw hl hv = let e : with_byte w 8 v / 2 ^ 10 % 2 ≡ v / 2 ^ 2 % 2 = omega arith in ap (λ (x : ℕ). eqb x 1) e
lane_clears w (suc (suc (suc zero))) v hw hl hv = let e : with_byte w 0 v / 2 ^ 10 % 2 ≡ 0 = omega arith in ap (λ (x : ℕ). eqb x 1) e
lane_clears w (suc (suc (suc (suc l)))) v hw hl hv = absurd (omega arith)

byte_clears : (c : L1Cache) (addr v : ℕ) → v < 256 → clearing c (write_byte addr v) ≡ (eqb addr 6 && bit_set v 2)
byte_clears c addr v h = ⊎_elim at_control elsewhere (bool_is (eqb (word_of addr) 0x04))
  where
    at_lane : (a l : ℕ) → a ≡ 4 + l → l < 4 → bit_set (merged (ctrl_word c) a v) 10 ≡ (eqb a 6 && bit_set v 2)
    at_lane a l e hl = rw e (lane_clears (ctrl_word c) l v (ctrl_small c) hl h)

    at_control : eqb (word_of addr) 0x04 ≡ true → clearing c (write_byte addr v) ≡ (eqb addr 6 && bit_set v 2)
    at_control t =
        let e : word_of addr ≡ 4 = eqb-true _ _ t in
        let r : reg_read c (word_of addr) ≡ ctrl_word c = ap (reg_read c) e ∙ control_read c in
        simp (t, r) (at_lane addr (addr % 4) (omega arith) (omega arith))

    elsewhere : eqb (word_of addr) 0x04 ≡ false → clearing c (write_byte addr v) ≡ (eqb addr 6 && bit_set v 2)
    elsewhere t =
        let ne : addr ≡ 6 → ⊥ = λ q. eqb-false (word_of addr) 4 t (omega arith) in
        simp (t, ne_eqb _ _ ne)

pub history_holds : History
history_holds =
    record { from_new = from_new; from_any = from_any; since_clear = since_clear; since_new = since_new; since_none = since_none; byte_clears = byte_clears }
