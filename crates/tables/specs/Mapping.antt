-- Mappings and the list of them: W-201, "a list of mappings (virtual and physical page number, R, W, X, U), ascending by virtual page, at
-- most 512".
--
--   mapping v p b      == a mapping of virtual page v to physical page p; of b R is 2, W 4, X 8 and U 16, as in a leaf
--   mappings vs ps bs  == the mappings that three lists make, element by element
--   leaf_of x          == the leaf's word: frame, listed bits and V
--   only_listed b      == no bit but R, W, X and U
--   good_bits b        == no other bit, and a walk accepts a leaf of these bits
--   good_mapping x     == a walk accepts the leaf and both pages start below 0xFFFF0000
--   all_good l         == every mapping of l is good: refusal 10 else
--   ascending_from n l == every page of l is above the one before it, the first is at least n
--   good_list vs ps bs == at most 512, ascending without a repeat, and the three lists of one length: refusal 9 else
--   leaf_at v l        == the leaf of virtual page v, or 0 where l has no such page
--
-- Choices that a reader may question. Whether a walk accepts a leaf is asked of the walk's own `leaf_ok`. A number in the list of bits
-- that has another bit than R, W, X and U is no leaf of W-201's and is refused as one: written, it would not be "all else zero", and
-- ignored, two lists would say the same. Page numbers above 20 bits fall under "a page starting at or above 0xFFFF0000", by true products.
use Rattle.std.specs.Prelude.{ℕ, ◌+◌, ◌*◌, ◌%◌, Bool, true, cond, ◌&&◌, List, [], ◌∷◌, leb, ltb, eqb, length}
use Rattle.mmu.specs.Walk.{leaf_ok}
use Rattle.mmu.specs.Check.{page_addr}
use Rattle.tables.specs.declared.mapping.Mapping.{Mapping}
pub mod Laws

abbrev pub mapping : ℕ → ℕ → ℕ → Mapping
mapping v p b = record { vpn = v; ppn = p; bits = b }

unfoldable pub mappings : List ℕ → List ℕ → List ℕ → List Mapping
mappings [] ps bs = []
mappings (v ∷ vs) [] bs = []
mappings (v ∷ vs) (p ∷ ps) [] = []
mappings (v ∷ vs) (p ∷ ps) (b ∷ bs) = mapping v p b ∷ mappings vs ps bs

abbrev pub leaf_of : Mapping → ℕ
leaf_of x = page_addr x.ppn + x.bits + 1

abbrev pub only_listed : ℕ → Bool
only_listed b = eqb (b % 2) 0 && ltb b 32

unfoldable pub good_bits : ℕ → Bool
good_bits b = only_listed b && leaf_ok (b + 1)

-- "a page starting at or above 0xFFFF0000" is not
abbrev pub good_page : ℕ → Bool
good_page p = ltb (p * 4096) 0xFFFF_0000

unfoldable pub good_mapping : Mapping → Bool
good_mapping x = good_page x.vpn && good_page x.ppn && only_listed x.bits && leaf_ok (leaf_of x)

unfoldable pub all_good : List Mapping → Bool
all_good [] = true
all_good (x ∷ l) = good_mapping x && all_good l

unfoldable pub ascending_from : ℕ → List ℕ → Bool
ascending_from n [] = true
ascending_from n (v ∷ l) = leb n v && ascending_from (v + 1) l

unfoldable pub good_list : List ℕ → List ℕ → List ℕ → Bool
good_list vs ps bs = leb (length vs) 512 && eqb (length ps) (length vs) && eqb (length bs) (length vs) && ascending_from 0 vs

unfoldable pub leaf_at : ℕ → List Mapping → ℕ
leaf_at v [] = 0
leaf_at v (x ∷ l) = cond (eqb x.vpn v) (leaf_of x) (leaf_at v l)
