-- The laws of extension V's state as words. Assumes nothing.
--
--   tlb_slots                                         == there are sixteen entries, whatever the words are
--   bit_on                                            == the word of a truth value stands for it
--   entry_is                                          == the entry in a slot, by its words
--   vm_enabled_lem, vm_ptbr_lem, vm_vfault, vm_victim == what a register's words set do
--   vm_word                                           == what a word of an entry set does
--   vm_entry                                          == all four of them set: the entry stands in its slot
--   grant_open, grant_none                            == what a grant says of the check that it stands for, and what none says
use Rattle.std.specs.Prelude.{◌≡◌, ℕ, ◌+◌, ◌*◌, ◌%◌, ◌^◌, ◌<◌, Bool, true, false, List, [], ◌∷◌, length, set, ◌==◌, slice_index, slice_index_or, slice_set, refl, Option, Some, None, Result, Ok, Err}
use Rattle.std.proofs.Common.{sym, ap, ◌∙◌, arith, set-set}
use Rattle.std.proofs.Math.ListN.{length-set}
use Rattle.std.proofs.Math.Seq.{get_or-set_same, get_or-set_other}
use Rattle.std.proofs.lemmas.List.{set-get_or}
use Rattle.common.specs.Cases.{absurd_eq}
use Rattle.layout.specs.Records.{records_length, records_get, records_set}
use Rattle.layout.specs.Words.{part, word_at, on_at, bit_word, part_length, part_get, part_set_in, part_set_below}
use Rattle.mmu.specs.Flat.{tlb_start, tlb_words, vm_words, grant_to, grant_if, left_if, GrantedBy, entry_at, tlb_at, vm_at, with_entry}
use Rattle.mmu.specs.Tlb.{no_entry}
use Rattle.mmu.specs.Vm.{with_tlb, frame_of}
use Rattle.mmu.specs.declared.check.Checked.{Checked}
use Rattle.mmu.specs.declared.exception.Exception.{Exception}
use Rattle.mmu.specs.declared.flat.PageGrant.{PageGrant}
use Rattle.mmu.specs.declared.tlb.TlbEntry.{TlbEntry}
use Rattle.mmu.specs.declared.vm.Vm.{Vm}

pub tlb_slots : (l : List ℕ) → length (vm_at l).tlb ≡ 16
unfolding vm_at tlb_at
tlb_slots l = records_length entry_at 4 16 (part tlb_start tlb_words l)

pub bit_on : (b : Bool) → (bit_word b % 2 == 1) ≡ b
bit_on true = refl
bit_on false = refl

-- ---- one entry

-- the words of slot i
abbrev pub words_of : ℕ → List ℕ → List ℕ
words_of i l = part (4 * i) 4 (part tlb_start tlb_words l)

pub word_is : (l : List ℕ) (i j k : ℕ) → i < 16 → j < 4 → k ≡ tlb_start + 4 * i + j → slice_index (words_of i l) j ≡ slice_index l k
word_is l i j k h b e =
    let at : tlb_start + (4 * i + j) ≡ k = omega arith in
    part_get (part tlb_start tlb_words l) (4 * i) 4 j b ∙ part_get l tlb_start tlb_words (4 * i + j) (omega arith) ∙ ap (λ (n : ℕ). slice_index l n) at

pub slot_is : (l : List ℕ) (i : ℕ) → i < 16 → slice_index_or (vm_at l).tlb i no_entry ≡ entry_at (words_of i l)
unfolding vm_at tlb_at
slot_is l i h = records_get entry_at 4 16 (part tlb_start tlb_words l) i no_entry h

pub entry_is : (l : List ℕ) (i : ℕ) → i < 16
    → slice_index_or (vm_at l).tlb i no_entry ≡ record { valid = on_at l (tlb_start + 4 * i); vpn = word_at l (tlb_start + 4 * i + 1); ppn = word_at l (tlb_start + 4 * i + 2); flags = word_at l (tlb_start + 4 * i + 3) }
unfolding entry_at
entry_is l i h =
    slot_is l i h
    ∙ rw (
      word_is l i 0 (tlb_start + 4 * i) h (omega arith) (omega arith),
      word_is l i 1 (tlb_start + 4 * i + 1) h (omega arith) refl,
      word_is l i 2 (tlb_start + 4 * i + 2) h (omega arith) refl,
      word_is l i 3 (tlb_start + 4 * i + 3) h (omega arith) refl,
    )

-- ---- the registers

module _ (l : List ℕ) (long : length l ≡ vm_words) where
  pub vm_enabled_lem : (w : ℕ)
      → vm_at (slice_set l 0 w) ≡ record { enabled = (w % 2 == 1); ptbr = (vm_at l).ptbr; vfault = (vm_at l).vfault; tlb = (vm_at l).tlb; next_victim = (vm_at l).next_victim }
  unfolding vm_at
  vm_enabled_lem w =
      rw (
        part_set_below l tlb_start tlb_words 0 w (omega arith),
        get_or-set_same l 0 w 0 (omega arith),
        get_or-set_other l 0 1 w 0 (omega arith),
        get_or-set_other l 0 2 w 0 (omega arith),
        get_or-set_other l 0 3 w 0 (omega arith),
        get_or-set_other l 0 4 w 0 (omega arith),
      )

  pub vm_ptbr_lem : (w : ℕ)
      → vm_at (slice_set l 1 w) ≡ record { enabled = (vm_at l).enabled; ptbr = w; vfault = (vm_at l).vfault; tlb = (vm_at l).tlb; next_victim = (vm_at l).next_victim }
  unfolding vm_at
  vm_ptbr_lem w =
      rw (
        part_set_below l tlb_start tlb_words 1 w (omega arith),
        get_or-set_same l 1 w 0 (omega arith),
        get_or-set_other l 1 0 w 0 (omega arith),
        get_or-set_other l 1 2 w 0 (omega arith),
        get_or-set_other l 1 3 w 0 (omega arith),
        get_or-set_other l 1 4 w 0 (omega arith),
      )

  pub vm_vfault : (w : ℕ)
      → vm_at (slice_set l 2 w) ≡ record { enabled = (vm_at l).enabled; ptbr = (vm_at l).ptbr; vfault = w; tlb = (vm_at l).tlb; next_victim = (vm_at l).next_victim }
  unfolding vm_at
  vm_vfault w =
      rw (
        part_set_below l tlb_start tlb_words 2 w (omega arith),
        get_or-set_same l 2 w 0 (omega arith),
        get_or-set_other l 2 0 w 0 (omega arith),
        get_or-set_other l 2 1 w 0 (omega arith),
        get_or-set_other l 2 3 w 0 (omega arith),
        get_or-set_other l 2 4 w 0 (omega arith),
      )

  pub vm_victim : (low high : ℕ) → vm_at (slice_set (slice_set l 3 low) 4 high) ≡ with_tlb (vm_at l) (vm_at l).tlb (low + 2 ^ 32 * high)
  unfolding vm_at
  vm_victim low high =
      let m : List ℕ = set l 3 low in
      rw (
        part_set_below m tlb_start tlb_words 4 high (omega arith),
        part_set_below l tlb_start tlb_words 3 low (omega arith),
        get_or-set_same m 4 high 0 (omega (arith, length-set l 3 low)),
        get_or-set_other m 4 3 high 0 (omega arith),
        get_or-set_same l 3 low 0 (omega arith),
        kept 0 (omega arith),
        kept 1 (omega arith),
        kept 2 (omega arith),
      )
    where
      kept : (j : ℕ) → j < 3 → slice_index (slice_set (slice_set l 3 low) 4 high) j ≡ slice_index l j
      kept j h = get_or-set_other (slice_set l 3 low) 4 j high 0 (omega arith) ∙ get_or-set_other l 3 j low 0 (omega arith)

-- ---- a slot's words

pub vm_word : (l : List ℕ) (i j k v : ℕ) → i < 16 → j < 4 → k ≡ tlb_start + 4 * i + j → vm_at (slice_set l k v) ≡ with_entry (vm_at l) i (entry_at (slice_set (words_of i l) j v))
unfolding vm_at tlb_at
vm_word l i j k v h b e =
    let at : k ≡ tlb_start + (4 * i + j) = omega arith in
    let t : part tlb_start tlb_words (slice_set l k v) ≡ set (part tlb_start tlb_words l) (4 * i + j) v = rw at (part_set_in l tlb_start tlb_words (4 * i + j) v (omega arith)) in
    rw (
      t,
      records_set entry_at 4 16 (part tlb_start tlb_words l) i j v h b,
      kept 0 (omega arith),
      kept 1 (omega arith),
      kept 2 (omega arith),
      kept 3 (omega arith),
      kept 4 (omega arith),
    )
  where
    kept : (n : ℕ) → n < 5 → slice_index (slice_set l k v) n ≡ slice_index l n
    kept n g = get_or-set_other l k n v 0 (omega arith)

-- the words l' are l but for slot i, which has the words w
abbrev Written : List ℕ → ℕ → List ℕ → List ℕ → Type 0
Written l i l' w = (vm_at l' ≡ with_entry (vm_at l) i (entry_at w)) × (words_of i l' ≡ w)

module _ (l : List ℕ) (i : ℕ) (h : i < 16) where
  as_was : Written l i l (words_of i l)
  as_was = (ap (λ (t : List TlbEntry). with_tlb (vm_at l) t (vm_at l).next_victim) (sym (rw (slot_is l i h) at (set-get_or (vm_at l).tlb i no_entry))), refl)

  and_word : (l' w : List ℕ) (j k v : ℕ) → Written l i l' w → j < 4 → k ≡ tlb_start + 4 * i + j → Written l i (slice_set l' k v) (slice_set w j v)
  and_word l' w j k v p b e =
      let at : k ≡ tlb_start + (4 * i + j) = omega arith in
      let words : words_of i (slice_set l' k v) ≡ set (words_of i l') j v =
      rw at (ap (part (4 * i) 4) (part_set_in l' tlb_start tlb_words (4 * i + j) v (omega arith)) ∙ part_set_in (part tlb_start tlb_words l') (4 * i) 4 j v b) in
      (vm_word l' i j k v h b e ∙ rw (p.0, p.1, set-set (vm_at l).tlb i (entry_at w) (entry_at (slice_set w j v))), words ∙ ap (λ (t : List ℕ). set t j v) p.1)

four : (w : List ℕ) (a b c d : ℕ) → length w ≡ 4 → entry_at (slice_set (slice_set (slice_set (slice_set w 0 a) 1 b) 2 c) 3 d) ≡ record { valid = (a % 2 == 1); vpn = b; ppn = c; flags = d }
unfolding entry_at
four [] a b c d h = absurd (omega arith)
four (x ∷ []) a b c d h = absurd (omega arith)
four (x ∷ y ∷ []) a b c d h = absurd (omega arith)
four (x ∷ y ∷ z ∷ []) a b c d h = absurd (omega arith)
four (x ∷ y ∷ z ∷ u ∷ []) a b c d h = refl
four (x ∷ y ∷ z ∷ u ∷ r ∷ t) a b c d h = absurd (omega arith)

pub vm_entry : (l : List ℕ) (i a b c d : ℕ) → length l ≡ vm_words → i < 16
    → vm_at (slice_set (slice_set (slice_set (slice_set l (tlb_start + 4 * i) a) (tlb_start + 4 * i + 1) b) (tlb_start + 4 * i + 2) c) (tlb_start + 4 * i + 3) d)
    ≡ with_entry (vm_at l) i (record { valid = (a % 2 == 1); vpn = b; ppn = c; flags = d })
vm_entry l i a b c d long h =
    let w = words_of i l in
    let one = and_word l i h l w 0 (tlb_start + 4 * i) a (as_was l i h) (omega arith) (omega arith) in
    let two = and_word l i h _ _ 1 (tlb_start + 4 * i + 1) b one (omega arith) refl in
    let three = and_word l i h _ _ 2 (tlb_start + 4 * i + 2) c two (omega arith) refl in
    let all = and_word l i h _ _ 3 (tlb_start + 4 * i + 3) d three (omega arith) refl in
    let inner : length (part tlb_start tlb_words l) ≡ tlb_words = part_length l tlb_start tlb_words (omega arith) in
    all.0 ∙ ap (with_entry (vm_at l) i) (four w a b c d (part_length (part tlb_start tlb_words l) (4 * i) 4 (omega arith)))

-- ---- a grant

-- what a grant r and the state v' after it say of the check c, by its verdict
abbrev Granted : Checked → ℕ → Vm → Option PageGrant → Vm → Result (Unit {0}) Exception → Type 0
Granted c va v r v' d = (r ≡ grant_if d (grant_to (frame_of c.vm va) c.reads)) × (v' ≡ left_if d c.vm v)

abbrev pub Opens : Checked → ℕ → PageGrant → Vm → Type 0
Opens c va r v' = (c.verdict ≡ Ok tt) × (r.ppn ≡ frame_of c.vm va) × (r.reads ≡ c.reads) × (v' ≡ c.vm)

opens_by : (c : Checked) (va : ℕ) (v : Vm) (r : Option PageGrant) (g : PageGrant) (v' : Vm) (d : Result (Unit {0}) Exception) → c.verdict ≡ d → Granted c va v r v' d → r ≡ Some g
    → Opens c va g v'
opens_by c va v r g v' (Ok tt) e w h = let is : g ≡ grant_to (frame_of c.vm va) c.reads = cc in (e, ap (λ (x : PageGrant). x.ppn) is, ap (λ (x : PageGrant). x.reads) is, w.1)
opens_by c va v r g v' (Err x) e w h = absurd_eq (cc)

pub grant_open : (c : Checked) (va : ℕ) (v : Vm) (r : Option PageGrant) (g : PageGrant) (v' : Vm) → GrantedBy c va v r v' → r ≡ Some g → Opens c va g v'
grant_open c va v r g v' w h = opens_by c va v r g v' c.verdict refl w h

abbrev pub Shuts : Checked → Vm → Vm → Type 0
Shuts c v v' = ((e : Exception) × (c.verdict ≡ Err e)) × (v' ≡ v)

shuts_by : (c : Checked) (va : ℕ) (v : Vm) (r : Option PageGrant) (v' : Vm) (d : Result (Unit {0}) Exception) → c.verdict ≡ d → Granted c va v r v' d → r ≡ None → Shuts c v v'
shuts_by c va v r v' (Ok tt) e w h = absurd_eq (cc)
shuts_by c va v r v' (Err x) e w h = ((x, e), w.1)

pub grant_none : (c : Checked) (va : ℕ) (v : Vm) (r : Option PageGrant) (v' : Vm) → GrantedBy c va v r v' → r ≡ None → Shuts c v v'
grant_none c va v r v' w h = shuts_by c va v r v' c.verdict refl w h
