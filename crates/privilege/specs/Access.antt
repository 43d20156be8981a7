-- The check of an access in any mode: document 01, 'Access and translation' and 'Numbered refusals'; `translating`, `allows` and
-- `check_access` of cpu_privilege.rs.
--
--   fetch_size, data_size n == a fetch has 2 or 4 bytes, a load or store 1, 2 or 4
--   legal_size k n          == the sizes of an access
--   translating_of s        == a user's accesses are translated: `translating`
--   allows_of s a n k       == "Supervisor: always allowed. User, translation off: each byte ..": `allows`
--   check_access m s a n k  == the check: `check_access`
use Rattle.std.specs.Prelude.{ℕ, Bool, cond, not, ◌&&◌, ◌||◌, ◌==◌, Result, Ok, Err}
use Rattle.common.specs.declared.Refusal.{Refusal}
use Rattle.memory.specs.Gate.{gated, access_gate}
use Rattle.memory.specs.Memory.{Memory}
use Rattle.mmu.specs.Check.{check_each, pages_of}
use Rattle.mmu.specs.declared.check.Checked.{Checked}
use Rattle.mmu.specs.declared.exception.Exception.{Exception}
use Rattle.privilege.specs.declared.check.AccessError.TheVariants.{Denied, Refused}
use Rattle.privilege.specs.declared.check.AccessError.{AccessError}
use Rattle.mmu.specs.declared.exception.Access.{Access}
use Rattle.mmu.specs.declared.exception.Access.TheVariants.{Read, Write, Fetch}
use Rattle.mmu.specs.declared.exception.Exception.TheVariants.{ProtectionFault}
use Rattle.privilege.specs.Addresses.{addresses}
use Rattle.privilege.specs.Region.{all_allowed}
use Rattle.privilege.specs.State.{with_vm}
use Rattle.privilege.specs.declared.check.AccessChecked.{AccessChecked}
use Rattle.privilege.specs.declared.state.SystemState.{SystemState}
pub mod Laws

unfoldable pub fetch_size : ℕ → Bool
fetch_size n = n == 2 || n == 4

unfoldable pub data_size : ℕ → Bool
data_size n = n == 1 || fetch_size n

unfoldable pub legal_size : Access → ℕ → Bool
legal_size Read n = data_size n
legal_size Write n = data_size n
legal_size Fetch n = fetch_size n

unfoldable pub translating_of : SystemState → Bool
translating_of s = s.user && s.vm.enabled

unfoldable pub allows_of : SystemState → ℕ → ℕ → Access → Bool
allows_of s a n k = not s.user || all_allowed s.regions k (addresses n a)

abbrev pub permission_of : Result (Unit {0}) Exception → Result (Unit {0}) AccessError
permission_of (Ok tt) = Ok tt
permission_of (Err e) = Err (Denied e)

-- an answer that read no table word and left the state as it was
abbrev pub access_answered : SystemState → Result (Unit {0}) AccessError → AccessChecked
access_answered s p = record { sys = s; permission = p; reads = 0 }

-- what the check of the pages comes to
abbrev pub from_pages : SystemState → Checked → AccessChecked
from_pages s c = record { sys = with_vm s c.vm; permission = permission_of c.verdict; reads = c.reads }

abbrev pub by_regions : SystemState → ℕ → ℕ → Access → AccessChecked
by_regions s a n k = access_answered s (cond (allows_of s a n k) (Ok tt) (Err (Denied (ProtectionFault k))))

unfoldable pub check_legal : Memory → SystemState → ℕ → ℕ → Access → AccessChecked
check_legal m s a n k = cond (translating_of s) (from_pages s (check_each m k s.vm (pages_of a n))) (by_regions s a n k)

unfoldable pub check_access : Memory → SystemState → ℕ → ℕ → Access → AccessChecked
check_access m s a n k = gated (access_gate m (legal_size k n)) (check_legal m s a n k) (λ (r : Refusal). access_answered s (Err (Refused r)))
