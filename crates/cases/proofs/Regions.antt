-- The rows of the table that regions decide, P6 and P7.
--
--   decided    == the check's whole answer where the regions decide
-- Assumes nothing.
use Rattle.std.proofs.Common.{◌≡◌, ℕ, ◌/◌, ◌%◌, ◌<◌, Bool, true, false, cond, ◌&&◌, eqb, ltb, leb, get_or, Ok, Err, refl, ◌∙◌, ⊎_elim, arith, lt-ltb, eqb-true, le-leb}
use borrow.Author.Tests.{eqb-false}
use Rattle.common.specs.Cases.{bool_is}
use Rattle.memory.specs.Memory.{Memory}
use Rattle.mmu.specs.Exception.{region_bit}
use Rattle.mmu.specs.declared.exception.Access.{Access}
use Rattle.mmu.specs.declared.exception.Access.TheVariants.{Read, Write, Fetch}
use Rattle.mmu.specs.declared.exception.Exception.TheVariants.{ProtectionFault}
use Rattle.privilege.specs.Access.{fetch_size, data_size, legal_size, access_answered, check_access}
use Rattle.privilege.specs.Access.Laws.{regions_decide}
use Rattle.privilege.specs.Addresses.{addresses}
use Rattle.privilege.specs.Region.{grants_of, some_grants, all_allowed}
use Rattle.privilege.specs.Region.Laws.{some_granted, none_granted}
use Rattle.privilege.specs.State.{no_region}
use Rattle.privilege.specs.declared.check.AccessError.TheVariants.{Denied}
use Rattle.privilege.specs.declared.state.SystemState.{SystemState}
use Rattle.cases.specs.Cases.{Decided, Holds, NoOther, IsAllowed, IsDenied}

module _ (m : Memory) (s : SystemState) (d : Decided m s) where
  decided : (a n : ℕ) (k : Access) (b : Bool) → legal_size k n ≡ true → all_allowed s.regions k (addresses n a) ≡ b
      → check_access m s a n k ≡ access_answered s (cond b (Ok tt) (Err (Denied (ProtectionFault k))))
  decided a n k b legal h = regions_decide m s a n k d.map legal d.user d.off ∙ rw h

  pub p6_allowed : (n : ℕ) → Holds s n 0x1000 0x2000 1 → IsAllowed m s 0x1FFF 1 Read
  unfolding legal_size data_size fetch_size grants_of all_allowed addresses
  p6_allowed n h = decided 0x1FFF 1 Read true refl (simp (some_granted s.regions n 0x1FFF Read (rw h)))

  pub p6_denied : (n : ℕ) → Holds s n 0x1000 0x2000 1 → NoOther s n 0x2000 Read → IsDenied m s 0x2000 1 Read
  unfolding legal_size data_size fetch_size grants_of all_allowed addresses
  p6_denied n h g = decided 0x2000 1 Read false refl (simp (none_granted s.regions 0x2000 Read each))
    where
      each : (j : ℕ) → grants_of (get_or s.regions j no_region) 0x2000 Read ≡ false
      each j =
          ⊎_elim
          (λ (t : eqb j n ≡ true). let e = eqb-true j n t in rw (e, h))
          (λ (t : eqb j n ≡ false). g j (eqb-false j n t))
          (bool_is (eqb j n))

  -- the region grants every access to every byte below its end
  all_granted : (n : ℕ) → Holds s n 0 0xFFFF_FFFF 7 → (a : ℕ) (k : Access) → a < 0xFFFF_FFFF → some_grants s.regions a k ≡ true
  unfolding grants_of
  all_granted n h a k l = some_granted s.regions n a k (rw h (by k))
    where
      by : (k : Access) → eqb (7 / region_bit k % 2) 1 && leb 0 a && ltb a 0xFFFF_FFFF ≡ true
      by Read = simp (le-leb 0 a (omega arith), lt-ltb a 0xFFFF_FFFF l)
      by Write = simp (le-leb 0 a (omega arith), lt-ltb a 0xFFFF_FFFF l)
      by Fetch = simp (le-leb 0 a (omega arith), lt-ltb a 0xFFFF_FFFF l)

  pub p7_allowed : (n : ℕ) → Holds s n 0 0xFFFF_FFFF 7 → (k : Access) → legal_size k 1 ≡ true → IsAllowed m s 0xFFFE_FFFF 1 k
  unfolding all_allowed addresses
  p7_allowed n h k legal = decided 0xFFFE_FFFF 1 k true legal (simp (all_granted n h 0xFFFE_FFFF k (omega arith)))

  pub p7_denied : (k : Access) → legal_size k 1 ≡ true → IsDenied m s 0xFFFF_0000 1 k
  unfolding all_allowed addresses
  p7_denied k legal = decided 0xFFFF_0000 1 k false legal refl

  pub p7_fetch : (n : ℕ) → Holds s n 0 0xFFFF_FFFF 7
      → IsAllowed m s 0xFFFE_FFFE 2 Fetch × IsDenied m s 0xFFFE_FFFF 2 Fetch × IsDenied m s 0xFFFF_0000 2 Fetch
  unfolding legal_size fetch_size all_allowed addresses
  p7_fetch n h = (
    decided 0xFFFE_FFFE 2 Fetch true refl
        (simp (all_granted n h 0xFFFE_FFFE Fetch (omega arith), all_granted n h 0xFFFE_FFFF Fetch (omega arith))),
    decided 0xFFFE_FFFF 2 Fetch false refl (simp (all_granted n h 0xFFFE_FFFF Fetch (omega arith))),
    decided 0xFFFF_0000 2 Fetch false refl refl,
  )
