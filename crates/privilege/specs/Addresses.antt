-- The addresses of an access's bytes: "Addresses step modulo 2^32", document 01, 'Access and translation'.
--
--   addresses n a    == the n addresses from a on
use Rattle.std.specs.Prelude.{ℕ, zero, suc, ◌+◌, ◌%◌, ◌^◌, List, [], ◌∷◌}

unfoldable pub addresses : ℕ → ℕ → List ℕ
addresses zero a = []
addresses (suc n) a = a ∷ addresses n ((a + 1) % 2 ^ 32)
