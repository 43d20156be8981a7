-- The sweep of an external write. Its loop counts the lines that it visits, at most 256; the definition drops all. Assumes nothing.
use Rattle.std.proofs.Common.{◌≡◌, ℕ, zero, suc, ◌+◌, ◌-◌, ◌%◌, ◌<◌, ◌≤◌, true, false, cond, eqb, leb, List, length, get_or, set, replicate, sym, refl, ap, ◌∙◌, ⊎_elim, arith, length-set, get_or-set_other, get_or-set_same, ext_get_or, eqb-true, leb-false, leb-true}
use Rattle.std.proofs.lemmas.Bool.{eqb-false}
use Rattle.std.proofs.lemmas.List.{get_or-replicate}
use Rattle.common.specs.Cases.{bool_is, cond_holds}
use Rattle.cache.specs.Bank.{line_of, line_stop, index_of, no_tag, no_tags, with_tags, drop_lines, visited, swept_tags, swept}
use Rattle.cache.specs.declared.Bank.{Bank}

-- a bank whose tags are swept
pub bank_swept : (b : Bank) (ts : List ℕ) (k stop : ℕ) → ts ≡ swept_tags b.tags k stop → with_tags b ts ≡ swept b k stop
unfolding swept
bank_swept b ts k stop e = ap (with_tags b) e

-- ---- what a sweep leaves at each index

-- one index of a list of which one is set
pub set_is : (l : List ℕ) (i j a : ℕ) → i < length l → get_or (set l i a) j 0 ≡ cond (eqb i j) a (get_or l j 0)
set_is l i j a h =
    ⊎_elim
    (λ (t : eqb i j ≡ true). let e : i ≡ j = eqb-true i j t in rw t (ap (λ (k : ℕ). get_or (set l i a) k 0) (sym e) ∙ get_or-set_same l i a 0 h))
    (λ (t : eqb i j ≡ false). rw t (get_or-set_other l i j a 0 (λ q. eqb-false i j t (sym q))))
    (bool_is (eqb i j))

-- an empty index stays empty
stays_empty : (n k : ℕ) (ts : List ℕ) (j : ℕ) → length ts ≡ 256 → get_or ts j 0 ≡ no_tag → get_or (drop_lines n k ts) j 0 ≡ no_tag
unfolding drop_lines
stays_empty zero k ts j l e = e
stays_empty (suc n) k ts j l e =
    stays_empty n (k + 1) (set ts (k % 256) no_tag) j (length-set ts (k % 256) no_tag ∙ l)
    (set_is ts (k % 256) j no_tag (omega arith) ∙ cond_holds (λ (x : ℕ). x ≡ no_tag) (eqb (k % 256) j) refl e)

-- the index of each line of the sweep is empty after it
pub line_dropped_lem : (n k : ℕ) (ts : List ℕ) (j m : ℕ) → length ts ≡ 256 → m < n → (k + m) % 256 ≡ j → get_or (drop_lines n k ts) j 0 ≡ no_tag
unfolding drop_lines
line_dropped_lem zero k ts j m l h e = absurd (omega arith)
line_dropped_lem (suc n) k ts j zero l h e =
    let i : k % 256 ≡ j = omega arith in
    stays_empty n (k + 1) (set ts (k % 256) no_tag) j (length-set ts (k % 256) no_tag ∙ l)
    (rw i (get_or-set_same ts j no_tag 0 (omega arith)))
line_dropped_lem (suc n) k ts j (suc m) l h e =
    line_dropped_lem n (k + 1) (set ts (k % 256) no_tag) j m (length-set ts (k % 256) no_tag ∙ l) (omega arith) (omega arith)

-- and no other
pub others_kept : (n k : ℕ) (ts : List ℕ) (j : ℕ) → ((m : ℕ) → m < n → (k + m) % 256 ≡ j → ⊥) → get_or (drop_lines n k ts) j 0 ≡ get_or ts j 0
unfolding drop_lines
others_kept zero k ts j free = refl
others_kept (suc n) k ts j free =
    others_kept n (k + 1) (set ts (k % 256) no_tag) j (λ m h e. free (suc m) (omega arith) (omega arith))
    ∙ get_or-set_other ts (k % 256) j no_tag 0 (λ (q : j ≡ k % 256). free 0 (omega arith) (omega arith))

-- ---- 256 lines are enough

drop_length : (n k : ℕ) (ts : List ℕ) → length (drop_lines n k ts) ≡ length ts
unfolding drop_lines
drop_length zero k ts = refl
drop_length (suc n) k ts = drop_length n (k + 1) (set ts (k % 256) no_tag) ∙ length-set ts (k % 256) no_tag

-- so many consecutive lines have every index among them
all_dropped : (n k : ℕ) (ts : List ℕ) → length ts ≡ 256 → 256 ≤ n → drop_lines n k ts ≡ no_tags
unfolding no_tags
all_dropped n k ts l h =
    ext_get_or 0 (drop_lines n k ts) (replicate 256 no_tag) (drop_length n k ts ∙ l)
    (λ (j : ℕ) (p : j < length (drop_lines n k ts)).
    let q : j < 256 = omega (arith, drop_length n k ts) in
    line_dropped_lem n k ts j ((j + 256 - k % 256) % 256) l (omega arith) (omega arith) ∙ sym (get_or-replicate 256 j no_tag 0 q))

-- and the rest of the sweep changes nothing
pub visited_enough : (ts : List ℕ) (k stop : ℕ) → length ts ≡ 256 → drop_lines (visited k stop) k ts ≡ swept_tags ts k stop
visited_enough ts k stop l = ⊎_elim more fewer (bool_is (leb 256 (stop - k)))
  where
    more : leb 256 (stop - k) ≡ true → drop_lines (visited k stop) k ts ≡ swept_tags ts k stop
    more t =
        let h : 256 ≤ stop - k = leb-true _ _ t in
        all_dropped (visited k stop) k ts l (omega arith) ∙ sym (all_dropped (stop - k) k ts l h)

    fewer : leb 256 (stop - k) ≡ false → drop_lines (visited k stop) k ts ≡ swept_tags ts k stop
    fewer t =
        let h : stop - k < 256 = leb-false _ _ t in
        let e : visited k stop ≡ stop - k = omega arith in
        rw e

-- ---- the loop

-- after n of its turns: the rest of them leave what the whole sweep does
abbrev pub At : List ℕ → ℕ → ℕ → ℕ → List ℕ → Type 0
At ts pa turns n whole = drop_lines (turns - n) (line_of pa + n) ts ≡ whole

pub sweep_starts : (ts : List ℕ) (pa end turns : ℕ) → length ts ≡ 256 → turns ≡ visited (line_of pa) (line_stop end)
    → At ts pa turns 0 (swept_tags ts (line_of pa) (line_stop end))
sweep_starts ts pa end turns l e =
    let n : turns - 0 ≡ visited (line_of pa) (line_stop end) = omega arith in
    let k : line_of pa + 0 ≡ line_of pa = omega arith in
    rw (n, k) (visited_enough ts (line_of pa) (line_stop end) l)

-- one line less, and none left
one_dropped : (ts : List ℕ) (n m k : ℕ) → n ≡ suc m → drop_lines n k ts ≡ drop_lines m (k + 1) (set ts (k % 256) no_tag)
unfolding drop_lines
one_dropped ts n m k e = rw e

none_left : (ts : List ℕ) (n k : ℕ) → n ≡ 0 → drop_lines n k ts ≡ ts
unfolding drop_lines
none_left ts n k e = rw e

-- one turn less
pub sweep_on : (ts whole : List ℕ) (pa turns n first : ℕ) → At ts pa turns n whole → n < turns → first ≡ index_of pa
    → At (set ts ((first + n) % 256) no_tag) pa turns (n + 1) whole
sweep_on ts whole pa turns n first at h e =
    let i : (first + n) % 256 ≡ (line_of pa + n) % 256 = omega arith in
    let k : line_of pa + (n + 1) ≡ line_of pa + n + 1 = omega arith in
    rw (i, k) (sym (one_dropped ts (turns - n) (turns - (n + 1)) (line_of pa + n) (omega arith)) ∙ at)

pub sweep_over : (ts whole : List ℕ) (pa turns n : ℕ) → At ts pa turns n whole → turns ≤ n → ts ≡ whole
sweep_over ts whole pa turns n at h = sym (none_left ts (turns - n) (line_of pa + n) (omega arith)) ∙ at

pub ruleset sweeps = (sweep_starts, sweep_on, sweep_over)
