-- The ways through loads and stores of rows. Assumes nothing.
use Rattle.std.specs.Int.{w32, to_be_bytes}
use Rattle.std.proofs.Common.{◌≡◌, ℕ, zero, suc, get_or, ◌+◌, ◌-◌, ◌*◌, ◌/◌, ◌%◌, ◌^◌, ◌<◌, ◌≤◌, Bool, true, false, ◌&&◌, List, [], ◌∷◌, sym, refl, ap, ◌∙◌, ⊎_elim, div-one, arith, Option, Some, None}
use Rattle.std.proofs.Math.Bool.{and-true, and_assoc}
use Rattle.common.specs.Bytes.{bytes_of}
use Rattle.common.specs.Cases.{bool_is}
use Rattle.memory.specs.Memory.{Memory, lent, inside, writable, byte_at, gathered, read_at, word_spots, put_byte, put_at, all_writable}
use Rattle.memory.specs.Memory.Bytewise.{read_on, read_whole, read_none, read_value, read_outside, put_none, put_next, writable_none, writable_next}
use Rattle.memory.specs.Memory.Laws.{good_map_end, inside_bounds, byte_outside, put_out, lent_put, put_map, all_writable_same}
use Rattle.memory.specs.Span.{half_spots}
use Rattle.memory.specs.Gate.{map_good}
use Rattle.privilege.specs.Rows.{room_of, place_of, places_by, rows_of}
use Rattle.privilege.specs.Rows.Laws.{places_none, places_next, place_first, place_second, rows_word, rows_half, rows_byte, spot, spots_places}
use Rattle.privilege.specs.Transfer.{spots}
use Rattle.privilege.specs.declared.state.SystemState.{SystemState}
use Rattle.privilege.proofs.Transfers.{next_small, next_fits, bytes_next}

-- a place in either page
module _ (a pa pb i : ℕ) where
  pub in_first : i < room_of a → pa + i ≡ place_of a pa pb i
  in_first h = sym (place_first a pa pb i h)

  pub in_second : room_of a ≤ i → pb + (i - room_of a) ≡ place_of a pa pb i
  in_second h = sym (place_second a pa pb i h)

-- past a good map
module _ (m : Memory) (at : ℕ) (good : map_good m ≡ true) (past : 0xFFFF_0000 ≤ at) where
  pub out : false ≡ inside m at
  out =
      ⊎_elim
      (λ (t : inside m at ≡ true). absurd (omega (arith, good_map_end m.base _ good, (inside_bounds m at t).1)))
      (λ (t : inside m at ≡ false). sym t)
      (bool_is (inside m at))

  pub read_out : None ≡ byte_at m at
  read_out = sym (byte_outside m at (sym out))

pub put_past : (base : ℕ) (l : List ℕ) (at b : ℕ) → map_good (lent base l) ≡ true → 0xFFFF_0000 ≤ at → l ≡ (put_byte (lent base l) at b).bytes
put_past base l at b good past = ap (λ (m : Memory). m.bytes) (sym (put_out (lent base l) at b (sym (out (lent base l) at good past))))

-- ---- before the first byte

module _ (m : Memory) (f : ℕ → ℕ) (n : ℕ) where
  all_left : n - 0 ≡ n
  all_left = omega arith

  pub read_start : read_at m (places_by f 0 n) ≡ read_on m 0 (places_by f 0 (n - 0))
  read_start = rw all_left (read_whole m (places_by f 0 n))

  pub put_start : (v : ℕ) → put_at m (places_by f 0 n) (bytes_of n v) ≡ put_at m (places_by f 0 (n - 0)) (bytes_of (n - 0) v)
  put_start v = rw all_left

  pub inside_start : all_writable m (places_by f 0 n) ≡ (true && all_writable m (places_by f 0 (n - 0)))
  inside_start = rw all_left

-- ---- a load byte by byte: n - i bytes are left

module _ (n i value : ℕ) (h : n ≤ 4) (more : i < n) (small : value < 256 ^ i) where
  pub room_for : value * 256 < 2 ^ 32
  room_for = omega (arith, next_fits i value 0 (omega arith) small (omega arith))

  module _ (b : ℕ) (low : b < 256) where
    pub value_fits : value * 256 + b < 2 ^ 32
    value_fits = next_fits i value b (omega arith) small low

    pub value_small : value * 256 + b < 256 ^ (i + 1)
    value_small = next_small i value b small low

module _ (m : Memory) (f : ℕ → ℕ) (n : ℕ) (z : Option ℕ) (value i : ℕ) (p : z ≡ read_on m value (places_by f i (n - i))) where
  pub all_read : n ≤ i → Some value ≡ z
  all_read h = let e : n - i ≡ 0 = omega arith in sym (p ∙ rw (e, places_none, read_none))

  module _ (at : ℕ) (c : Option ℕ) (more : i < n) (here : at ≡ f i) (is : c ≡ byte_at m at) where
    first : z ≡ read_on m value (at ∷ places_by f (i + 1) (n - (i + 1)))
    first = let e : n - i ≡ suc (n - (i + 1)) = omega arith in rw e at p ∙ rw (places_next, here)

    pub byte_read_lem : (b : ℕ) → c ≡ Some b → z ≡ read_on m (value * 256 + b) (places_by f (i + 1) (n - (i + 1)))
    byte_read_lem b e = first ∙ read_value m value at b (places_by f (i + 1) (n - (i + 1))) (sym is ∙ e)

    pub byte_missing : c ≡ None → None ≡ z
    byte_missing e = sym (first ∙ read_outside m value at (places_by f (i + 1) (n - (i + 1))) (sym is ∙ e))

-- ---- a store byte by byte

-- a byte of a word, by its place from either end
pub byte_is : (v j k : ℕ) → j + k ≡ 3 → get_or (to_be_bytes w32 v) j 0 ≡ v / 256 ^ k % 256
byte_is v zero k h = let e : k ≡ 3 = omega arith in rw e
byte_is v (suc zero) k h = let e : k ≡ 2 = omega arith in rw e
byte_is v (suc (suc zero)) k h = let e : k ≡ 1 = omega arith in rw e
byte_is v (suc (suc (suc zero))) k h = let e : k ≡ 0 = omega arith in rw (e, div-one)
byte_is v (suc (suc (suc (suc j)))) k h = absurd (omega arith)

module _ (base : ℕ) (l : List ℕ) (f : ℕ → ℕ) (n v i : ℕ) (at b : ℕ) (after : List ℕ) (more : i < n) (here : at ≡ f i)
    (byte : b ≡ v / 256 ^ (n - i - 1) % 256) (put : after ≡ (put_byte (lent base l) at b).bytes) where
  len : n - i ≡ suc (n - (i + 1))
  len = omega arith

  low : n - i - 1 ≡ n - (i + 1)
  low = omega arith

  memory : lent base after ≡ put_byte (lent base l) at b
  memory = rw put (lent_put (lent base l) at b)

  pub put_on : (z : Memory) → z ≡ put_at (lent base l) (places_by f i (n - i)) (bytes_of (n - i) v)
      → z ≡ put_at (lent base after) (places_by f (i + 1) (n - (i + 1))) (bytes_of (n - (i + 1)) v)
  put_on z p = rw len at p ∙ rw (places_next, bytes_next, ← here, ← low, ← byte, put_next, ← memory)

  pub inside_on : (z all was both : Bool) → z ≡ (all && all_writable (lent base l) (places_by f i (n - i))) → was ≡ writable (lent base l) at → both ≡ (all && was)
      → z ≡ (both && all_writable (lent base after) (places_by f (i + 1) (n - (i + 1))))
  inside_on z all was both p w q =
      let same = all_writable_same (put_byte (lent base l) at b) (lent base l) (put_map (lent base l) at b) (places_by f (i + 1) (n - (i + 1))) in
      rw len at p ∙ rw (places_next, ← here, writable_next, ← w, q, memory, same, and_assoc)

module _ (base : ℕ) (l : List ℕ) (f : ℕ → ℕ) (n v i : ℕ) (none : n ≤ i) where
  pub put_all : (z : Memory) → z ≡ put_at (lent base l) (places_by f i (n - i)) (bytes_of (n - i) v) → l ≡ z.bytes
  put_all z p = let e : n - i ≡ 0 = omega arith in rw (p, e, places_none, put_none)

  pub inside_all : (z all : Bool) → z ≡ (all && all_writable (lent base l) (places_by f i (n - i))) → all ≡ z
  inside_all z all p = let e : n - i ≡ 0 = omega arith in rw (p, e, places_none, writable_none, and-true)

-- ---- inside a page

one_byte : (c : Option ℕ) → c ≡ gathered 0 (c ∷ [])
unfolding gathered
one_byte (Some b) = ap Some (omega arith)
one_byte None = refl

module _ (m : Memory) (a n pa pb : ℕ) where
  pub byte_there : (x : Option ℕ) → n ≡ 1 → x ≡ byte_at m pa → x ≡ read_at m (rows_of a n pa pb)
  unfolding read_at
  byte_there x h p = p ∙ rw (h, rows_byte) (one_byte (byte_at m pa))

  pub half_there : (x : Option ℕ) → n ≡ 2 → a % 4096 ≤ 4094 → x ≡ read_at m (half_spots pa) → x ≡ read_at m (rows_of a n pa pb)
  half_there x h g p = p ∙ rw (h, rows_half a pa pb (omega arith))

  pub byte_inside : (all : Bool) → n ≡ 1 → all ≡ writable m pa → all ≡ all_writable m (rows_of a n pa pb)
  unfolding all_writable
  byte_inside all h p = p ∙ rw (h, rows_byte, and-true)

  pub half_inside : (all : Bool) → n ≡ 2 → a % 4096 ≤ 4094 → all ≡ all_writable m (half_spots pa) → all ≡ all_writable m (rows_of a n pa pb)
  half_inside all h g p = p ∙ rw (h, rows_half a pa pb (omega arith))

  pub byte_put : (v : ℕ) (l : List ℕ) → n ≡ 1 → l ≡ (put_byte m pa (v % 256)).bytes → l ≡ (put_at m (rows_of a n pa pb) (bytes_of n v)).bytes
  unfolding put_at bytes_of
  byte_put v l h p = p ∙ rw (h, rows_byte, div-one)

  pub half_put : (v : ℕ) (l : List ℕ) → n ≡ 2 → a % 4096 ≤ 4094 → l ≡ (put_at m (half_spots pa) (bytes_of 2 v)).bytes → l ≡ (put_at m (rows_of a n pa pb) (bytes_of n v)).bytes
  half_put v l h g p = p ∙ rw (h, rows_half a pa pb (omega arith))

-- a word
module _ (m : Memory) (a n pa pb : ℕ) (h : n ≡ 4) (g : a % 4096 ≤ 4092) where
  word_rows : word_spots pa ≡ rows_of a n pa pb
  word_rows = rw (h, rows_word a pa pb (omega arith))

  pub word_there : (x : Option ℕ) → x ≡ read_at m (word_spots pa) → x ≡ read_at m (rows_of a n pa pb)
  word_there x p = p ∙ ap (read_at m) word_rows

  pub word_inside : (all : Bool) → all ≡ all_writable m (word_spots pa) → all ≡ all_writable m (rows_of a n pa pb)
  word_inside all p = p ∙ ap (all_writable m) word_rows

  pub word_put : (v : ℕ) (l : List ℕ) → l ≡ (put_at m (word_spots pa) (bytes_of 4 v)).bytes → l ≡ (put_at m (rows_of a n pa pb) (bytes_of n v)).bytes
  word_put v l p = p ∙ rw (word_rows, h)

-- bytes that are each looked up
module _ (s : SystemState) (va n : ℕ) (small : va < 2 ^ 32) (m : Memory) where
  pub each_read : (x : Option ℕ) → x ≡ read_at m (places_by (spot s va) 0 n) → x ≡ read_at m (spots s va n)
  each_read x p = p ∙ ap (read_at m) (sym (spots_places s va small n))

  pub each_inside : (all : Bool) → all ≡ all_writable m (places_by (spot s va) 0 n) → all ≡ all_writable m (spots s va n)
  each_inside all p = p ∙ ap (all_writable m) (sym (spots_places s va small n))

  pub each_put : (v : ℕ) (l : List ℕ) → l ≡ (put_at m (places_by (spot s va) 0 n) (bytes_of n v)).bytes → l ≡ (put_at m (spots s va n) (bytes_of n v)).bytes
  each_put v l p = p ∙ rw (spots_places s va small n)
