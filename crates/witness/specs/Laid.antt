-- A memory given by its words, from address 0 on.
--
--   Word       == a word's number, which is a quarter of its address, and the word
--   laid p l   == p pages of zeros with the words of l written into them, the last of l first
use Rattle.std.specs.Prelude.{ℕ, ◌*◌, List, [], ◌∷◌, replicate}
use Rattle.common.specs.Bytes.{bytes_of}
use Rattle.memory.specs.Memory.{Memory, lent, put_at, word_spots}
pub mod Laws

abbrev pub Word : Type 0
Word = ℕ × ℕ

unfoldable pub laid : ℕ → List Word → Memory
laid p [] = lent 0 (replicate (p * 4096) 0)
laid p (w ∷ l) = put_at (laid p l) (word_spots (w.0 * 4)) (bytes_of 4 w.1)
