-- The check of an access where the state's words stand, and where the access's bytes are.
--
--   place_at at a n           == where n bytes at a are, each where `at` says: the first one and, over two pages, the second page's first
--   permit_at p at a n reads  == the permit of an access of n bytes at a, whose bytes are where `at` says: their place where it is allowed
--   permit_of C a n           == the permit that the check C comes to, by the lookups of the state that it leaves
--   bare_permit a n           == the permit of an allowed access that is not translated
--   regions_permit rs a n k   == a user's that is not translated, by the regions rs
--   pages_permit d a n        == a translated access's, by the check d of its pages
--   refused_as r              == a refusal
--   Translated m l a n k r l' == the check of a translated access takes translation's words l to l' and answers r
--   Answers C l a n r l'      == the check C takes the words l to l' and answers r; R0 to R31 stay
--   Permits m l a n k r l'    == what `check_access` promises over any words
--   grant_at p n              == the grant of `grant_word`: the word is at p, after n table words read
--   permit_for g              == the permit of a word that is granted
--   at_once s a               == the words that it is asked for: inside their page, a supervisor's or translated
--   GrantedBy c l a r l'      == the check c as a grant: where it allows; elsewhere there is none, and the state stays
--   Grants m l a k r l'       == what `grant_word` promises over any words
use Rattle.std.specs.Prelude.{◌≡◌, ℕ, ◌%◌, Bool, true, false, cond, not, ◌&&◌, ◌||◌, List, nat_lt, Option, Some, None, Result, Ok, Err}
use Rattle.std.specs.Result.{result_and}
use Rattle.common.specs.declared.Refusal.{Refusal}
use Rattle.common.specs.declared.Refusal.TheVariants.{Map}
use Rattle.layout.specs.Words.{Over}
use Rattle.memory.specs.Memory.{Memory}
use Rattle.mmu.specs.Check.{check_each, pages_of}
use Rattle.mmu.specs.Flat.{vm_at}
use Rattle.mmu.specs.Vm.{frame_of}
use Rattle.mmu.specs.declared.check.Checked.{Checked}
use Rattle.mmu.specs.declared.exception.Access.{Access}
use Rattle.mmu.specs.declared.exception.Exception.TheVariants.{ProtectionFault}
use Rattle.privilege.specs.Access.{permission_of, check_legal, check_access}
use Rattle.privilege.specs.Addresses.{addresses}
use Rattle.privilege.specs.Flat.{system_words, sys_at, reg_at}
use Rattle.privilege.specs.Region.{all_allowed}
use Rattle.privilege.specs.Rows.{room_of, next_page}
use Rattle.privilege.specs.Transfer.{joined_to, physical_of}
use Rattle.privilege.specs.declared.check.AccessChecked.{AccessChecked}
use Rattle.privilege.specs.declared.check.AccessError.TheVariants.{Denied, Refused}
use Rattle.privilege.specs.declared.check.AccessError.{AccessError}
use Rattle.privilege.specs.declared.flat.access.Grant.{Grant}
use Rattle.privilege.specs.declared.flat.access.Permit.{Permit}
use Rattle.privilege.specs.declared.flat.access.Place.{Place}
use Rattle.privilege.specs.declared.region.Region.{Region}
use Rattle.privilege.specs.declared.state.SystemState.{SystemState}
pub mod Laws

-- what is said of the second page is 0 where there is none
abbrev pub if_apart : ℕ → ℕ → ℕ → ℕ
if_apart a n x = cond (nat_lt (room_of a) n) x 0

abbrev pub place_at : (ℕ → ℕ) → ℕ → ℕ → Place
place_at at a n = record { pa = at a; pb = if_apart a n (at (next_page a)) }

abbrev pub permit_at : Result (Unit {0}) AccessError → (ℕ → ℕ) → ℕ → ℕ → ℕ → Permit
permit_at p at a n reads = record { place = result_and p (Ok (place_at at a n)); reads = reads }

abbrev pub permit_of : AccessChecked → ℕ → ℕ → Permit
permit_of c a n = permit_at c.permission (physical_of c.sys) a n c.reads

abbrev pub pages_permit : Checked → ℕ → ℕ → Permit
pages_permit d a n = permit_at (permission_of d.verdict) (λ (x : ℕ). joined_to (frame_of d.vm x) x) a n d.reads

abbrev pub bare_permit : ℕ → ℕ → Permit
bare_permit a n = permit_at (Ok tt) (λ (x : ℕ). x) a n 0

abbrev pub regions_permit : List Region → ℕ → ℕ → Access → Permit
regions_permit rs a n k = cond (all_allowed rs k (addresses n a)) (bare_permit a n) (record { place = Err (Denied (ProtectionFault k)); reads = 0 })

abbrev pub refused_as : Refusal → Permit
refused_as r = record { place = Err (Refused r); reads = 0 }

abbrev pub Translated : Memory → List ℕ → ℕ → ℕ → Access → Permit → List ℕ → Type 0
Translated m l a n k r l' =
    (r ≡ pages_permit (check_each m k (vm_at l) (pages_of a n)) a n) × (vm_at l' ≡ (check_each m k (vm_at l) (pages_of a n)).vm)

abbrev pub Answers : AccessChecked → List ℕ → ℕ → ℕ → Permit → List ℕ → Type 0
Answers c l a n r l' = (r ≡ permit_of c a n) × (sys_at l' ≡ c.sys) × (reg_at l' ≡ reg_at l)

abbrev pub Permits : Memory → List ℕ → ℕ → ℕ → Access → Permit → List ℕ → Type 0
Permits m l a n k r l' = Over system_words l l' r (refused_as Map) (Answers (check_access m (sys_at l) a n k) l a n r l')

-- ---- a grant

abbrev pub grant_at : ℕ → ℕ → Grant
grant_at pa n = record { pa = pa; reads = n }

abbrev pub permit_for : Grant → Permit
permit_for g = record { place = Ok (record { pa = g.pa; pb = 0 }); reads = g.reads }

abbrev pub grant_if : Result (Unit {0}) AccessError → Grant → Option Grant
grant_if (Ok tt) g = Some g
grant_if (Err e) g = None

-- the state that a check leaves where it allows, else the one before it
abbrev pub left_if : Result (Unit {0}) AccessError → SystemState → SystemState → SystemState
left_if (Ok tt) after before = after
left_if (Err e) after before = before

abbrev pub GrantedBy : AccessChecked → List ℕ → ℕ → Option Grant → List ℕ → Type 0
GrantedBy c l a r l' =
    (r ≡ grant_if c.permission (grant_at (physical_of c.sys a) c.reads))
    × (sys_at l' ≡ left_if c.permission c.sys (sys_at l))
    × (reg_at l' ≡ reg_at l)

abbrev pub at_once : SystemState → ℕ → Bool
at_once s a = not (nat_lt 4092 (a % 4096)) && (not s.user || s.vm.enabled)

abbrev pub GrantsWord : Memory → List ℕ → ℕ → Access → Option Grant → List ℕ → Type 0
GrantsWord m l a k r l' =
    (at_once (sys_at l) a ≡ true → GrantedBy (check_legal m (sys_at l) a 4 k) l a r l')
    × (at_once (sys_at l) a ≡ false → (r ≡ None) × (sys_at l' ≡ sys_at l) × (reg_at l' ≡ reg_at l))

abbrev pub Grants : Memory → List ℕ → ℕ → Access → Option Grant → List ℕ → Type 0
Grants m l a k r l' = Over system_words l l' r None (GrantsWord m l a k r l')
