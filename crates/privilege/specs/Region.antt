-- Regions: document 01, 'Access and translation'; `Region::grants` and the body of `allows` of cpu_privilege.rs.
--
--   grants_of g a k       == the region grants the access, and a is in [START, END): `grants`
--   some_grants l a k     == some region does
--   byte_allowed l k a    == "each byte below 0xFFFF0000 and inside a region granting that access, ends exclusive"
--   all_allowed l k at    == so for every address
--   field_of, with_field  == a region's START, END or FLAGS, the fields 0, 1, 2; "flags masked to 7"
--   field_written l n f v == the table with field f of region n written; past the table nothing is
use Rattle.std.specs.Prelude.{ℕ, ◌/◌, ◌%◌, Bool, true, false, cond, ◌&&◌, ◌||◌, List, [], ◌∷◌, ◌==◌, nat_le, nat_lt, slice_index_or, slice_set}
use Rattle.mmu.specs.Check.{below_reserved}
use Rattle.mmu.specs.Exception.{region_bit}
use Rattle.mmu.specs.declared.exception.Access.{Access}
use Rattle.privilege.specs.State.{no_region}
use Rattle.privilege.specs.declared.region.Region.{Region}
pub mod Laws

unfoldable pub grants_of : Region → ℕ → Access → Bool
grants_of g a k = g.flags / region_bit k % 2 == 1 && nat_le g.start a && nat_lt a g.end

unfoldable pub some_grants : List Region → ℕ → Access → Bool
some_grants [] a k = false
some_grants (g ∷ l) a k = grants_of g a k || some_grants l a k

abbrev pub byte_allowed : List Region → Access → ℕ → Bool
byte_allowed l k a = below_reserved a && some_grants l a k

unfoldable pub all_allowed : List Region → Access → List ℕ → Bool
all_allowed l k [] = true
all_allowed l k (a ∷ rest) = byte_allowed l k a && all_allowed l k rest

unfoldable pub field_of : Region → ℕ → ℕ
field_of g f = cond (f == 0) g.start (cond (f == 1) g.end g.flags)

unfoldable pub with_field : Region → ℕ → ℕ → Region
with_field g f v =
    cond (f == 0) (record { start = v; end = g.end; flags = g.flags })
    (cond (f == 1) (record { start = g.start; end = v; flags = g.flags })
    (record { start = g.start; end = g.end; flags = v % 8 }))

abbrev pub field_written : List Region → ℕ → ℕ → ℕ → List Region
field_written l n f v = slice_set l n (with_field (slice_index_or l n no_region) f v)
