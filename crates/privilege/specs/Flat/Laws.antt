-- The laws of the state's words. Assumes nothing.
--
--   regions_length            == the regions are eight
--   region_at_lem, region_put == region n of the words, and its words written
--   ten                       == what holds of any first ten words holds of all the words
--   sys_vm, sys_regions       == the state after translation's words or the regions' are replaced; R0 to R31 stay (reg_vm, reg_regions)
--   sys_regs, reg_regs        == the same of R0 to R31
--   sys_reg, reg_set, reg_get == a register written, and read
--   sys_vm_set, reg_vm_set    == the state after one of translation's words is set
use Rattle.std.specs.Prelude.{◌≡◌, ℕ, ◌+◌, ◌*◌, ◌<◌, ◌≤◌, List, [], ◌∷◌, ◌++◌, length, take, drop, set, slice_index, slice_index_or, slice_set}
use Rattle.std.proofs.Math.Path.{refl, sym}
use Rattle.std.proofs.Common.{◌∙◌, length-take-le, get_or-take, arith}
use Rattle.std.proofs.Math.ListN.{get_or-append}
use Rattle.std.proofs.Math.Seq.{set-set, get_or-set_other}
use Rattle.layout.specs.Records.{records_of, records_length, records_get, records_set}
use Rattle.layout.specs.Words.{part, put, part_length, part_get, part_set_in, part_set_below, part_set_above, put_same, put_below, put_above}
use Rattle.mmu.specs.Flat.{vm_at}
use Rattle.privilege.specs.Flat.{regions_from, vm_from, reg_from, system_words, region_at, regions_at, sys_at, reg_at}
use Rattle.privilege.specs.State.{no_region, with_rest, with_regions, with_vm}
use Rattle.privilege.specs.declared.region.Region.{Region}
use Rattle.privilege.specs.declared.state.SystemState.{SystemState}

-- ---- regions

pub regions_length : (l : List ℕ) → length (regions_at l) ≡ 8
unfolding regions_at
regions_length l = records_length region_at 3 8 l

-- three words written are the region
three : (p : List ℕ) (g : Region) → length p ≡ 3 → region_at (slice_set (slice_set (slice_set p 0 g.start) 1 g.end) 2 g.flags) ≡ g
three [] g h = absurd (omega arith)
three (a ∷ []) g h = absurd (omega arith)
three (a ∷ b ∷ []) g h = absurd (omega arith)
three (a ∷ b ∷ c ∷ p) g h = refl

module _ (l : List ℕ) (n : ℕ) (h : n < 8) where
  pub region_at_lem : record { start = slice_index l (3 * n); end = slice_index l (3 * n + 1); flags = slice_index l (3 * n + 2) } ≡ slice_index_or (regions_at l) n no_region
  unfolding regions_at
  region_at_lem =
      let z : 3 * n + 0 ≡ 3 * n = omega arith in
      sym (records_get region_at 3 8 l n no_region h
      ∙ rw (part_get l (3 * n) 3 0 (omega arith), part_get l (3 * n) 3 1 (omega arith), part_get l (3 * n) 3 2 (omega arith), z))

  -- word j of region n, at place k
  module _ (m : List ℕ) (j k v : ℕ) (small : j < 3) (is : k ≡ 3 * n + j) where
    word_set : records_of region_at 3 8 (slice_set m k v) ≡ slice_set (records_of region_at 3 8 m) n (region_at (slice_set (part (3 * n) 3 m) j v))
    word_set = rw is (records_set region_at 3 8 m n j v h small)

    part_set : part (3 * n) 3 (slice_set m k v) ≡ slice_set (part (3 * n) 3 m) j v
    part_set = rw is (part_set_in m (3 * n) 3 j v small)

  pub region_put : (g : Region) → length l ≡ 24
      → regions_at (slice_set (slice_set (slice_set l (3 * n) g.start) (3 * n + 1) g.end) (3 * n + 2) g.flags) ≡ slice_set (regions_at l) n g
  unfolding regions_at
  region_put g long =
      let z : 3 * n ≡ 3 * n + 0 = omega arith in
      let l1 : List ℕ = set l (3 * n) g.start in
      let l2 : List ℕ = set l1 (3 * n + 1) g.end in
      let R : List Region = records_of region_at 3 8 l in
      word_set l2 2 (3 * n + 2) g.flags (omega arith) refl
      ∙ rw (
        part_set l1 1 (3 * n + 1) g.end (omega arith) refl,
        part_set l 0 (3 * n) g.start (omega arith) z,
        three (part (3 * n) 3 l) g (part_length l (3 * n) 3 (omega arith)),
        word_set l1 1 (3 * n + 1) g.end (omega arith) refl,
        word_set l 0 (3 * n) g.start (omega arith) z,
        set-set,
        set-set,
      )

-- ---- the first ten words

pub ten : (P : List ℕ → Type 0) → ((a b c d e f g h i j : ℕ) (t : List ℕ) → P (a ∷ b ∷ c ∷ d ∷ e ∷ f ∷ g ∷ h ∷ i ∷ j ∷ t))
    → (l : List ℕ) → 10 ≤ length l → P l
ten P k [] n = absurd (omega arith)
ten P k (a ∷ []) n = absurd (omega arith)
ten P k (a ∷ b ∷ []) n = absurd (omega arith)
ten P k (a ∷ b ∷ c ∷ []) n = absurd (omega arith)
ten P k (a ∷ b ∷ c ∷ d ∷ []) n = absurd (omega arith)
ten P k (a ∷ b ∷ c ∷ d ∷ e ∷ []) n = absurd (omega arith)
ten P k (a ∷ b ∷ c ∷ d ∷ e ∷ f ∷ []) n = absurd (omega arith)
ten P k (a ∷ b ∷ c ∷ d ∷ e ∷ f ∷ g ∷ []) n = absurd (omega arith)
ten P k (a ∷ b ∷ c ∷ d ∷ e ∷ f ∷ g ∷ h ∷ []) n = absurd (omega arith)
ten P k (a ∷ b ∷ c ∷ d ∷ e ∷ f ∷ g ∷ h ∷ i ∷ []) n = absurd (omega arith)
ten P k (a ∷ b ∷ c ∷ d ∷ e ∷ f ∷ g ∷ h ∷ i ∷ j ∷ t) n = k a b c d e f g h i j t

-- ---- a part replaced

abbrev tail : SystemState → List ℕ → SystemState
tail s l = with_rest s s.epc s.cause s.other_bank (regions_at (part regions_from 24 l)) (vm_at (part vm_from 69 l))

-- words with the same first ten stand for the same but for regions and translation
same_ten : (l l' : List ℕ) → ((k : ℕ) → k < 10 → slice_index l' k ≡ slice_index l k) → sys_at l' ≡ tail (sys_at l) l'
unfolding sys_at
same_ten l l' w =
    rw (
      w 0 (omega arith),
      w 1 (omega arith),
      w 2 (omega arith),
      w 3 (omega arith),
      w 4 (omega arith),
      w 5 (omega arith),
      w 6 (omega arith),
      w 7 (omega arith),
      w 8 (omega arith),
      w 9 (omega arith),
    )

front : (l new : List ℕ) (a n k : ℕ) → a ≤ length l → k < a → slice_index (put a n l new) k ≡ slice_index l k
front l new a n k h g =
    get_or-append (take a l) (new ++ drop n (drop a l)) 0 k (omega (arith, length-take-le a l h)) ∙ get_or-take a l k 0 g

module _ (l new : List ℕ) (long : length l ≡ system_words) where
  pub sys_vm : length new ≡ 69 → sys_at (put vm_from 69 l new) ≡ with_vm (sys_at l) (vm_at new)
  unfolding sys_at
  sys_vm same =
      same_ten l (put vm_from 69 l new) (λ k h. front l new vm_from 69 k (omega arith) (omega arith))
      ∙ rw (put_below l new vm_from 69 (omega arith) same regions_from 24 (omega arith), put_same l new vm_from 69 (omega arith) same)

  pub reg_vm : length new ≡ 69 → reg_at (put vm_from 69 l new) ≡ reg_at l
  unfolding reg_at
  reg_vm same = put_above l new vm_from 69 (omega arith) same reg_from 32 (omega arith)

  pub sys_regions : length new ≡ 24 → sys_at (put regions_from 24 l new) ≡ with_regions (sys_at l) (regions_at new)
  unfolding sys_at
  sys_regions same =
      same_ten l (put regions_from 24 l new) (λ k h. front l new regions_from 24 k (omega arith) (omega arith))
      ∙ rw (put_above l new regions_from 24 (omega arith) same vm_from 69 (omega arith), put_same l new regions_from 24 (omega arith) same)

  pub reg_regions : length new ≡ 24 → reg_at (put regions_from 24 l new) ≡ reg_at l
  unfolding reg_at
  reg_regions same = put_above l new regions_from 24 (omega arith) same reg_from 32 (omega arith)

-- ---- R0 to R31

module _ (l new : List ℕ) (long : length l ≡ system_words) (same : length new ≡ 32) where
  pub sys_regs : sys_at (put reg_from 32 l new) ≡ sys_at l
  unfolding sys_at
  sys_regs =
      same_ten l (put reg_from 32 l new) (λ k h. front l new reg_from 32 k (omega arith) (omega arith))
      ∙ rw (put_below l new reg_from 32 (omega arith) same regions_from 24 (omega arith), put_below l new reg_from 32 (omega arith) same vm_from 69 (omega arith))

  pub reg_regs : reg_at (put reg_from 32 l new) ≡ new
  unfolding reg_at
  reg_regs = put_same l new reg_from 32 (omega arith) same

module _ (l : List ℕ) (i : ℕ) where
  pub sys_reg : (v : ℕ) → sys_at (slice_set l (reg_from + i) v) ≡ sys_at l
  unfolding sys_at
  sys_reg v =
      same_ten l (slice_set l (reg_from + i) v) (λ k h. get_or-set_other l (reg_from + i) k v 0 (λ e. omega arith))
      ∙ rw (part_set_above l regions_from 24 (reg_from + i) v (omega arith), part_set_above l vm_from 69 (reg_from + i) v (omega arith))

  pub reg_set : (v : ℕ) → i < 32 → reg_at (slice_set l (reg_from + i) v) ≡ slice_set (reg_at l) i v
  unfolding reg_at
  reg_set v h = part_set_in l reg_from 32 i v h

  pub reg_get : i < 32 → slice_index (reg_at l) i ≡ slice_index l (reg_from + i)
  unfolding reg_at
  reg_get h = part_get l reg_from 32 i h

-- ---- a word of translation's

module _ (l : List ℕ) (i v : ℕ) (h : i < 69) where
  pub sys_vm_set : sys_at (slice_set l (vm_from + i) v) ≡ with_vm (sys_at l) (vm_at (slice_set (part vm_from 69 l) i v))
  unfolding sys_at
  sys_vm_set =
      same_ten l (slice_set l (vm_from + i) v) (λ k g. get_or-set_other l (vm_from + i) k v 0 (λ e. omega arith))
      ∙ rw (part_set_above l regions_from 24 (vm_from + i) v (omega arith), part_set_in l vm_from 69 i v h)

  pub reg_vm_set : reg_at (slice_set l (vm_from + i) v) ≡ reg_at l
  unfolding reg_at
  reg_vm_set = part_set_below l reg_from 32 (vm_from + i) v (omega arith)
