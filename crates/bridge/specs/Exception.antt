-- Exceptions and vectors as numbers.
--
--   exception_of n imm k protection addr == the exception that a number names, with the fields that it has: 0 illegal, 1 bus error, 2 syscall,
--                                          3 privileged, 4 protection fault, any other a page fault
--   vector_number v                      == 0 illegal, 1 bus, 2 syscall
use Rattle.std.specs.Prelude.{ℕ, Bool, cond, eqb}
use Rattle.mmu.specs.declared.exception.Access.{Access}
use Rattle.mmu.specs.declared.exception.Exception.{Exception}
use Rattle.mmu.specs.declared.exception.Exception.TheVariants.{IllegalInstruction, BusError, Syscall, PrivilegedInstruction, ProtectionFault, PageFault}
use Rattle.mmu.specs.declared.exception.Vector.{Vector}
use Rattle.mmu.specs.declared.exception.Vector.TheVariants as vector

unfoldable pub exception_of : ℕ → ℕ → Access → Bool → ℕ → Exception
exception_of n imm k protection addr =
    cond (eqb n 0) IllegalInstruction
    (cond (eqb n 1) BusError
    (cond (eqb n 2) (Syscall imm)
    (cond (eqb n 3) PrivilegedInstruction
    (cond (eqb n 4) (ProtectionFault k) (PageFault k protection addr)))))

unfoldable pub vector_number : Vector → ℕ
vector_number vector.Illegal = 0
vector_number vector.Bus = 1
vector_number vector.Syscall = 2
