-- Words in lent memory.
--
--   put_word m a w        == m with the word w at a, high byte first
--   put_words m a ws      == m with the words ws from a on
--   words_of f i n        == the words f i, f (i + 1) and so on, n of them
use Rattle.std.specs.Prelude.{ℕ, zero, suc, ◌+◌, List, [], ◌∷◌}
use Rattle.common.specs.Bytes.{bytes_of}
use Rattle.memory.specs.Memory.{Memory, put_at, word_spots}
pub mod Laws

unfoldable pub put_word : Memory → ℕ → ℕ → Memory
put_word m a w = put_at m (word_spots a) (bytes_of 4 w)

unfoldable pub put_words : Memory → ℕ → List ℕ → Memory
put_words m a [] = m
put_words m a (w ∷ ws) = put_words (put_word m a w) (a + 4) ws

unfoldable pub words_of : (ℕ → ℕ) → ℕ → ℕ → List ℕ
words_of f i zero = []
words_of f i (suc n) = f i ∷ words_of f (i + 1) n
