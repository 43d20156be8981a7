-- The laws of regions. Assumes nothing.
--
--   some_granted    == what a region of the table grants, the search finds
--   none_granted    == where no region of the table grants the access, it finds none
--   one_grants      == a region that grants an access's first byte and ends behind its last grants each of its bytes
use Rattle.std.specs.Prelude.{◌≡◌, ℕ, zero, suc, ◌+◌, ◌/◌, ◌%◌, ◌^◌, ◌≤◌, true, false, ◌&&◌, List, [], ◌∷◌, nat_eq, nat_le, nat_lt, slice_index_or}
use Rattle.std.proofs.Math.Path.{refl}
use Rattle.std.proofs.Common.{sym, ◌∙◌, arith}
use Rattle.std.proofs.Math.Bool.{or-true}
use Rattle.std.proofs.lemmas.Bool.{leb-true, lt-ltb, le-leb}
use Rattle.common.specs.Cases.{and_left, and_right}
use Rattle.mmu.specs.Exception.{region_bit}
use Rattle.mmu.specs.declared.exception.Access.{Access}
use Rattle.mmu.specs.declared.exception.Access.TheVariants.{Read, Write, Fetch}
use Rattle.privilege.specs.Addresses.{addresses}
use Rattle.privilege.specs.Region.{grants_of, some_grants, all_allowed}
use Rattle.privilege.specs.State.{no_region}
use Rattle.privilege.specs.declared.region.Region.{Region}

-- a region of zeros grants nothing
nothing_granted : (a : ℕ) (k : Access) → grants_of no_region a k ≡ false
unfolding grants_of
nothing_granted a Read = refl
nothing_granted a Write = refl
nothing_granted a Fetch = refl

pub some_granted : (l : List Region) (n a : ℕ) (k : Access) → grants_of (slice_index_or l n no_region) a k ≡ true → some_grants l a k ≡ true
unfolding some_grants
some_granted [] n a k h = sym (nothing_granted a k) ∙ h
some_granted (g ∷ l) zero a k h = simp h
some_granted (g ∷ l) (suc n) a k h = simp (some_granted l n a k h) (or-true (grants_of g a k))

pub none_granted : (l : List Region) (a : ℕ) (k : Access) → ((j : ℕ) → grants_of (slice_index_or l j no_region) a k ≡ false) → some_grants l a k ≡ false
unfolding some_grants
none_granted [] a k h = refl
none_granted (g ∷ l) a k h = simp (h 0) (none_granted l a k (λ j. h (suc j)))

-- ---- an access in one region

module _ (l : List Region) (i : ℕ) (g : Region) (is : g ≡ slice_index_or l i no_region) (k : Access) (flag : nat_eq (g.flags / region_bit k % 2) 1 ≡ true) where
  each_granted : (n a : ℕ) → g.start ≤ a → a + n ≤ g.end → a + n ≤ 0xFFFF_0000 → all_allowed l k (addresses n a) ≡ true
  unfolding all_allowed addresses grants_of
  each_granted zero a s e h = refl
  each_granted (suc n) a s e h =
      let here : grants_of g a k ≡ true = rw (flag, le-leb g.start a s, lt-ltb a g.end (omega arith)) in
      let found : some_grants l a k ≡ true = some_granted l i a k (rw is at here) in
      let next : (a + 1) % 2 ^ 32 ≡ a + 1 = omega arith in
      rw (lt-ltb a 0xFFFF_0000 (omega arith), found, next) (each_granted n (a + 1) (omega arith) (omega arith) (omega arith))

pub one_grants : (l : List Region) (i : ℕ) (g : Region) (k : Access) (n a : ℕ) → g ≡ slice_index_or l i no_region → grants_of g a k ≡ true → a + n ≤ g.end → a + n ≤ 0xFFFF_0000
    → all_allowed l k (addresses n a) ≡ true
unfolding grants_of
one_grants l i g k n a is h e low =
    let flag = nat_eq (g.flags / region_bit k % 2) 1 in
    let both = and_left (flag && nat_le g.start a) (nat_lt a g.end) h in
    each_granted l i g is k (and_left flag (nat_le g.start a) both) n a (leb-true g.start a (and_right flag (nat_le g.start a) both)) e low
