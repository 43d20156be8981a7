-- A region's test, the search through the regions, and the loop over an access's bytes. Assumes nothing.
use Rattle.std.proofs.Common.{◌≡◌, ◌&&◌, ℕ, suc, ◌+◌, ◌-◌, ◌/◌, ◌%◌, ◌^◌, ◌<◌, ◌≤◌, Bool, true, false, eqb, ltb, List, length, get_or, drop, sym, ◌∙◌, add-one, arith, drop_of_length-le, drop-cons, le-ltb, lt-ltb, le-leb, bit_and}
use Rattle.std.proofs.lemmas.Bool.{lt-leb}
use Rattle.common.specs.Bits.{bit_set}
use Rattle.common.specs.Bits.Laws.{clear_bit, set_bit}
use Rattle.mmu.specs.Exception.{region_bit}
use Rattle.mmu.specs.declared.exception.Access.{Access}
use Rattle.mmu.specs.declared.exception.Access.TheVariants.{Read, Write, Fetch}
use Rattle.privilege.specs.Addresses.{addresses}
use Rattle.privilege.specs.Region.{grants_of, some_grants, byte_allowed, all_allowed}
use Rattle.privilege.specs.State.{no_region}
use Rattle.privilege.specs.declared.region.Region.{Region}

-- an access's bit of the flags, by its mask
flag_clear : (x : ℕ) (k : Access) → bit_and x (region_bit k) ≡ 0 → eqb (x / region_bit k % 2) 1 ≡ false
unfolding bit_set
flag_clear x Read h = clear_bit x 0 h
flag_clear x Write h = clear_bit x 1 h
flag_clear x Fetch h = clear_bit x 2 h

flag_set : (x : ℕ) (k : Access) → (bit_and x (region_bit k) ≡ 0 → ⊥) → eqb (x / region_bit k % 2) 1 ≡ true
unfolding bit_set
flag_set x Read h = set_bit x 0 h
flag_set x Write h = set_bit x 1 h
flag_set x Fetch h = set_bit x 2 h

-- the three ways through `grants`, where the access's bit is b
module _ (g : Region) (a : ℕ) (k : Access) (b : ℕ) (is : b ≡ region_bit k) where
  pub not_granted : bit_and g.flags b ≡ 0 → false ≡ grants_of g a k
  unfolding grants_of
  not_granted h = rw (flag_clear g.flags k (rw is at h))

  pub before_start : (bit_and g.flags b ≡ 0 → ⊥) → a < g.start → false ≡ grants_of g a k
  unfolding grants_of
  before_start h l = rw (flag_set g.flags k (rw is at h), lt-leb g.start a l)

  pub by_end : (bit_and g.flags b ≡ 0 → ⊥) → g.start ≤ a → ltb a g.end ≡ grants_of g a k
  unfolding grants_of
  by_end h l = rw (flag_set g.flags k (rw is at h), le-leb g.start a l)

-- the search, from region i on
module _ (z : Bool) (l : List Region) (a : ℕ) (k : Access) (i : ℕ) (p : z ≡ some_grants (drop i l) a k) where
  pub none_left : length l ≤ i → false ≡ z
  unfolding some_grants
  none_left h = sym (p ∙ rw (drop_of_length-le l h))

  pub granted_here : (r : Bool) → i < length l → r ≡ grants_of (get_or l i no_region) a k → r ≡ true → true ≡ z
  unfolding some_grants
  granted_here r h e t = sym (p ∙ rw (drop-cons l i no_region h, ← e, t))

  pub not_here : (r : Bool) → i < length l → r ≡ grants_of (get_or l i no_region) a k → r ≡ false → z ≡ some_grants (drop (i + 1) l) a k
  unfolding some_grants
  not_here r h e t = p ∙ rw (drop-cons l i no_region h, ← e, t, add-one)

-- one byte
module _ (l : List Region) (a : ℕ) (k : Access) where
  pub byte_reserved : 0xFFFF_0000 ≤ a → false ≡ byte_allowed l k a
  byte_reserved h = rw (le-ltb a 0xFFFF_0000 h)

  pub byte_by_regions : (r : Bool) → a < 0xFFFF_0000 → r ≡ some_grants l a k → r ≡ byte_allowed l k a
  byte_by_regions r h e = rw (lt-ltb a 0xFFFF_0000 h, ← e)

-- the loop over the bytes: n - i are left
module _ (z : Bool) (l : List Region) (k : Access) (a n i : ℕ) (p : z ≡ all_allowed l k (addresses (n - i) ((a + i) % 2 ^ 32))) where
  pub no_byte_left : n ≤ i → true ≡ z
  unfolding all_allowed addresses
  no_byte_left h = let m : n - i ≡ 0 = omega arith in sym (p ∙ rw m)

  module _ (b : ℕ) (r : Bool) (more : i < n) (at : b ≡ (a + i) % 2 ^ 32) (e : r ≡ byte_allowed l k b) where
    first : z ≡ (r && all_allowed l k (addresses (n - (i + 1)) ((a + (i + 1)) % 2 ^ 32)))
    unfolding all_allowed addresses
    first =
        let m : n - i ≡ suc (n - (i + 1)) = omega arith in
        let step : ((a + i) % 2 ^ 32 + 1) % 2 ^ 32 ≡ (a + (i + 1)) % 2 ^ 32 = omega arith in
        rw m at p ∙ rw (step, e, at)

    pub byte_allowed_lem : r ≡ true → z ≡ all_allowed l k (addresses (n - (i + 1)) ((a + (i + 1)) % 2 ^ 32))
    byte_allowed_lem t = first ∙ rw t

    pub byte_denied : r ≡ false → false ≡ z
    byte_denied t = sym (first ∙ rw t)
