-- Numbers and events by their bytes. Assumes nothing.
use Rattle.std.proofs.Common.{◌≡◌, ℕ, ◌+◌, ◌<◌, List, [], ◌∷◌, get_or, arith}
use Rattle.common.specs.Bytes.{big_endian}
use Rattle.script.specs.declared.Event.{Event}
use Rattle.script.specs.Event.{half_of, word_of, event_at}
use Rattle.script.specs.Image.{bytes_from}
use Rattle.script.specs.Image.Laws.{bytes_get_d}

pub event_of_bytes : (s : List ℕ) (half word word' : ℕ) → half ≡ big_endian (get_or s 2 0 ∷ get_or s 3 0 ∷ [])
    → word ≡ big_endian (get_or s 4 0 ∷ get_or s 5 0 ∷ get_or s 6 0 ∷ get_or s 7 0 ∷ [])
    → word' ≡ big_endian (get_or s 8 0 ∷ get_or s 9 0 ∷ get_or s 10 0 ∷ get_or s 11 0 ∷ [])
    → ◌≡◌ {A = Event} (record { kind = get_or s 0 0; size = get_or s 1 0; aux = half; a = word; b = word' }) (event_at s 0)
unfolding half_of word_of event_at
event_of_bytes s half word word' h w w' =
    rw (h, w, w')

module _ (s : List ℕ) (at : ℕ) where
  get : (n k : ℕ) → k < n → get_or (bytes_from s at n) k 0 ≡ get_or s (at + k) 0
  get n k h = bytes_get_d s at n k h

  pub event_padded : event_at (bytes_from s at 12) 0 ≡ event_at s at
  unfolding half_of word_of event_at
  event_padded =
      rw (get 12 0 (omega arith), get 12 1 (omega arith), get 12 2 (omega arith), get 12 3 (omega arith), get 12 4 (omega arith), get 12 5 (omega arith), get 12 6 (omega arith), get 12 7 (omega arith), get 12 8 (omega arith), get 12 9 (omega arith), get 12 10 (omega arith), get 12 11 (omega arith))

  pub word_padded : (b : List ℕ) → b ≡ bytes_from s at 4 → big_endian (get_or b 0 0 ∷ get_or b 1 0 ∷ get_or b 2 0 ∷ get_or b 3 0 ∷ []) ≡ word_of s at 0
  unfolding word_of
  word_padded b e =
      rw (e, get 4 0 (omega arith), get 4 1 (omega arith), get 4 2 (omega arith), get 4 3 (omega arith))
