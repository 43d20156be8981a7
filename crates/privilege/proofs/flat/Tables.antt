-- Regions as words: their search, and eight regions written and read. Assumes nothing.
use Rattle.std.proofs.Common.{◌≡◌, ℕ, ◌+◌, ◌-◌, ◌*◌, ◌<◌, ◌≤◌, Bool, true, false, List, length, get_or, drop, set, sym, refl, ap, ◌∙◌, arith}
use Rattle.common.specs.Lists.{over_to, over_to_none, over_to_next, over_to_done}
use Rattle.mmu.specs.declared.exception.Access.{Access}
use Rattle.privilege.specs.Addresses.{addresses}
use Rattle.privilege.specs.Flat.{regions_at}
use Rattle.privilege.specs.Flat.Laws.{regions_length, region_at_lem}
use Rattle.privilege.specs.Region.{grants_of, some_grants, all_allowed, with_field, field_written}
use Rattle.privilege.specs.Region.Laws.{one_grants}
use Rattle.privilege.specs.State.{no_region}
use Rattle.privilege.specs.declared.region.Region.{Region}
use Rattle.privilege.proofs.Regions.{none_left, granted_here, not_here}

-- ---- the search, from region i on

module _ (z : Bool) (l : List ℕ) (a : ℕ) (k : Access) (i : ℕ) (p : z ≡ some_grants (drop i (regions_at l)) a k) where
  pub none_in : 8 ≤ i → false ≡ z
  none_in h = none_left z (regions_at l) a k i p (omega (arith, regions_length l))

  module _ (g : Region) (r : Bool) (h : i < 8) (is : g ≡ get_or (regions_at l) i no_region) (e : r ≡ grants_of g a k) where
    pub granted_in : r ≡ true → true ≡ z
    granted_in t = granted_here z (regions_at l) a k i p r (omega (arith, regions_length l)) (e ∙ ap (λ (x : Region). grants_of x a k) is) t

    pub not_in : r ≡ false → z ≡ some_grants (drop (i + 1) (regions_at l)) a k
    not_in t = not_here z (regions_at l) a k i p r (omega (arith, regions_length l)) (e ∙ ap (λ (x : Region). grants_of x a k) is) t

-- where a region ends
pub region_end : (l : List ℕ) (n : ℕ) → n < 8 → get_or l (3 * n + 1) 0 ≡ (get_or (regions_at l) n no_region).end
region_end l n h = ap (λ (x : Region). x.end) (region_at_lem l n h)

-- one region that grants the whole access
pub granted_whole : (l : List ℕ) (a n : ℕ) (k : Access) (i : ℕ) (z : ℕ) (g : Region) (r : Bool) → z ≡ (get_or (regions_at l) i no_region).end → g ≡ get_or (regions_at l) i no_region → r ≡ grants_of g a k
    → r ≡ true → a + n ≤ z → n ≤ 0xFFFF_0000 → a ≤ 0xFFFF_0000 - n → true ≡ true → all_allowed (regions_at l) k (addresses n a) ≡ true
granted_whole l a n k i z g r at is e t end small low h =
    let ends : g.end ≡ z = ap (λ (x : Region). x.end) is ∙ sym at in
    one_grants (regions_at l) i g k n a is (sym e ∙ t) (omega (arith, ends, end)) (omega arith)

-- regions that were put into words
pub allowed_in : (r : Bool) (rs : List Region) (l : List ℕ) (k : Access) (at : List ℕ) → regions_at l ≡ rs → r ≡ all_allowed (regions_at l) k at → r ≡ all_allowed rs k at
allowed_in r rs l k at p e = e ∙ rw p

-- ---- the table written

pub written_in : (l l' : List ℕ) (n f v : ℕ) (g h : Region) → g ≡ get_or (regions_at l) n no_region → h ≡ with_field g f v
    → regions_at l' ≡ set (regions_at l) n h → regions_at l' ≡ field_written (regions_at l) n f v
written_in l l' n f v g h p q e = e ∙ rw (q, p)

module _ (rs : List Region) (long : length rs ≡ 8) (l : List ℕ) where
  pub put_none : regions_at l ≡ over_to 0 rs (regions_at l)
  put_none = sym (over_to_none rs (regions_at l))

  module _ (m : List ℕ) (i : ℕ) (e : regions_at m ≡ over_to i rs (regions_at l)) where
    pub put_next : (m' : List ℕ) → i < 8 → regions_at m' ≡ set (regions_at m) i (get_or rs i no_region) → regions_at m' ≡ over_to (i + 1) rs (regions_at l)
    put_next m' h p = p ∙ over_to_next rs (regions_at l) (regions_at m) i no_region (get_or rs i no_region) (omega arith) e refl

    pub put_done : 8 ≤ i → regions_at m ≡ rs
    put_done h = over_to_done rs (regions_at l) (regions_at m) i (omega arith) (regions_length l ∙ sym long) e

-- ---- and read

module _ (l : List ℕ) (rs : List Region) where
  pub take_none : rs ≡ over_to 0 (regions_at l) rs
  take_none = sym (over_to_none (regions_at l) rs)

  module _ (now : List Region) (i : ℕ) (e : now ≡ over_to i (regions_at l) rs) where
    pub take_next : (g : Region) → i < 8 → g ≡ get_or (regions_at l) i no_region → set now i g ≡ over_to (i + 1) (regions_at l) rs
    take_next g h p = over_to_next (regions_at l) rs now i no_region g (omega (arith, regions_length l)) e p

    pub take_done : 8 ≤ i → length rs ≡ 8 → now ≡ regions_at l
    take_done h long = over_to_done (regions_at l) rs now i (omega (arith, regions_length l)) (long ∙ sym (regions_length l)) e
