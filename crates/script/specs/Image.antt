-- The image, the first content of the memory, as the script has it.
--
--   bytes_from s at n     == n bytes of s from place `at` on; a byte past the end is 0
use Rattle.std.specs.Prelude.{ℕ, zero, suc, List, [], ◌∷◌, slice_index}
pub mod Laws

unfoldable pub bytes_from : List ℕ → ℕ → ℕ → List ℕ
bytes_from s at zero = []
bytes_from s at (suc n) = slice_index s at ∷ bytes_from s (suc at) n
