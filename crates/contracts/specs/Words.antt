-- When two outcomes of a function over lent words are taken for the same: the words stand for the same.
--
--   SameState at o o'     == of an array, which has its length by its type: what its words stand for is fixed, and all else
--   SameWords n at l o o' == of n words that stand for something by `at`: what they stand for is fixed, and how many they are. Where l has not n
--                            words, the words themselves are. The answer and all else that was lent is fixed always
--
-- A word has 32 bits, and a truth value is its lowest one; so a contract over words fixes what they stand for, and `SettledAs` says that with these
-- relations alone. An outcome is the answer, the words at exit, and the last content of the other parameters.
use Rattle.std.specs.Prelude.{ℕ, ◌≡◌, List, length}

pub record SameWords {A R M : Type 0} (n : ℕ) (at : List ℕ → A) (l : List ℕ) (o o' : R × (List ℕ × M)) : Type 0 where
  pub stand : length l ≡ n → (length o.1.0 ≡ length o'.1.0) × (at o.1.0 ≡ at o'.1.0)
  pub stay : (length l ≡ n → ⊥) → o.1.0 ≡ o'.1.0
  pub rest : ◌≡◌ {A = R × M} (o.0, o.1.1) (o'.0, o'.1.1)

pub record SameState {A R M : Type 0} (at : List ℕ → A) (o o' : R × (List ℕ × M)) : Type 0 where
  pub stand : at o.1.0 ≡ at o'.1.0
  pub rest : ◌≡◌ {A = R × M} (o.0, o.1.1) (o'.0, o'.1.1)
