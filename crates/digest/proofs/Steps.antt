-- One word or one byte more of a digest. Assumes nothing.
use Rattle.std.proofs.Common.{ℕ, ◌+◌, ◌≤◌, ◌<◌, ◌≡◌, List, length, get_or, drop, sym, arith, ◌∙◌, add-one, drop-cons, drop_of_length-le, div-one, refl, w32}
use Rattle.std.specs.Int.{to_be_bytes}
use Rattle.common.specs.Bytes.{bytes_of}
use Rattle.digest.specs.Digest.{fnv_byte, fnv_bytes, fnv_word, fnv_words}

-- one byte more of a word's four, and none left
module _ (h w sum k : ℕ) (bytes : List ℕ) (e : bytes ≡ to_be_bytes w32 w) (p : fnv_bytes h bytes ≡ fnv_bytes sum (drop k bytes)) where
  four : length bytes ≡ 4
  four = rw e

  pub bytes_next : (sum' : ℕ) → k < 4 → sum' ≡ fnv_byte sum (get_or bytes k 0) → fnv_bytes h bytes ≡ fnv_bytes sum' (drop (k + 1) bytes)
  bytes_next sum' g q =
      let in-range : k < length bytes = omega (arith, four) in
      p ∙ rw (drop-cons bytes k 0 in-range, add-one, q)

  pub bytes_done : 4 ≤ k → sum ≡ fnv_word h w
  unfolding fnv_word bytes_of
  bytes_done g =
      let past : length bytes ≤ k = omega (arith, four) in
      let all : fnv_bytes h bytes ≡ sum = p ∙ rw (drop_of_length-le bytes past) in
      let of-word : fnv_bytes h bytes ≡ fnv_word h w = rw e (rw (div-one w) refl) in
      sym all ∙ of-word

-- one word more of a list that is taken word by word, and none left
pub words_next : (z sum sum' k : ℕ) (words : List ℕ) → k < length words → z ≡ fnv_words sum (drop k words) → sum' ≡ fnv_word sum (get_or words k 0)
    → z ≡ fnv_words sum' (drop (k + 1) words)
unfolding fnv_words
words_next z sum sum' k words h p q = p ∙ rw (drop-cons words k 0 h, add-one, q)

pub words_done : (z sum k : ℕ) (words : List ℕ) → length words ≤ k → z ≡ fnv_words sum (drop k words) → sum ≡ z
unfolding fnv_words
words_done z sum k words h p = sym (p ∙ rw (drop_of_length-le words h))
