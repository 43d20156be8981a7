-- Exceptions as numbers: document 01, 'Traps and registers'; `Access`, `Exception::cause` and `Exception::vector` of cpu_privilege.rs.
--
--   region_bit k     == an access as a number: R 1, W 2, X 4, in a region's FLAGS and in CAUSE
--   access_bit k     == the number of the bit that grants it in a leaf and in a TLB entry: R is bit 1, W 2, X 3
--   cause_of e       == CAUSE: 0x80000000 + 65,536 x code + detail
--   vector_of e      == which vector word: illegal (also for privileged), syscall, else bus
use Rattle.std.specs.Prelude.{ℕ, ◌+◌, ◌*◌, cond}
use Rattle.mmu.specs.declared.exception.Access.{Access}
use Rattle.mmu.specs.declared.exception.Access.TheVariants.{Read, Write, Fetch}
use Rattle.mmu.specs.declared.exception.Exception.{Exception}
use Rattle.mmu.specs.declared.exception.Exception.TheVariants.{IllegalInstruction, BusError, Syscall, PrivilegedInstruction, ProtectionFault, PageFault}
use Rattle.mmu.specs.declared.exception.Vector.{Vector}
use Rattle.mmu.specs.declared.exception.Vector.TheVariants as vector

abbrev pub region_bit : Access → ℕ
region_bit Read = 1
region_bit Write = 2
region_bit Fetch = 4

abbrev pub access_bit : Access → ℕ
access_bit Read = 1
access_bit Write = 2
access_bit Fetch = 3

abbrev pub coded : ℕ → ℕ → ℕ
coded code detail = 0x8000_0000 + 65536 * code + detail

-- "illegal 1; bus error 2; syscall 3 with its imm16; privileged 4; protection fault 5 with R 1, W 2, X 4; page fault 6 with the
-- same, plus 8 for protection"
unfoldable pub cause_of : Exception → ℕ
cause_of IllegalInstruction = coded 1 0
cause_of BusError = coded 2 0
cause_of (Syscall imm) = coded 3 imm
cause_of PrivilegedInstruction = coded 4 0
cause_of (ProtectionFault k) = coded 5 (region_bit k)
cause_of (PageFault k protection addr) = coded 6 (region_bit k + cond protection 8 0)

unfoldable pub vector_of : Exception → Vector
vector_of IllegalInstruction = vector.Illegal
vector_of BusError = vector.Bus
vector_of (Syscall imm) = vector.Syscall
vector_of PrivilegedInstruction = vector.Illegal
vector_of (ProtectionFault k) = vector.Bus
vector_of (PageFault k protection addr) = vector.Bus
