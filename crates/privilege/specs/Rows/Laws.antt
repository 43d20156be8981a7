-- The laws of rows. Assumes nothing.
--
--   places_none, places_next            == an access's places, one by one
--   place_first, place_second           == a place in the first page, and one in the second
--   rows_word, rows_half, rows_byte     == an access that stays in its page has its bytes in one row
--   word_loaded, word_stored, word_left == a load and a store of a word inside its page, over a good map
--   rows_page                           == so the second page's address is not looked at
--   physical_row                        == a page's bytes lie in a row
--   rows_spots                          == an access's bytes are where its state's lookups say, if its pages are
--   spots_places                        == an access's spots, by the number of the byte
use Rattle.std.specs.Prelude.{◌≡◌, ℕ, zero, suc, ◌+◌, ◌-◌, ◌%◌, ◌^◌, ◌<◌, ◌≤◌, Bool, true, false, cond, [], ◌∷◌, nat_lt, Ok, Err}
use Rattle.std.proofs.Math.Path.{refl}
use Rattle.std.proofs.Common.{sym, ap, ◌∙◌, arith}
use Rattle.std.proofs.lemmas.Bool.{lt-ltb, ltb-true, ltb-false}
use Rattle.common.specs.Bytes.{bytes_of}
use Rattle.common.specs.Cases.{cond_case}
use Rattle.memory.specs.Gate.{map_good}
use Rattle.memory.specs.Gate.Laws.{map_open, size_open}
use Rattle.memory.specs.Memory.{Memory, read_at, word_spots, all_writable, put_at}
use Rattle.memory.specs.Span.{half_spots}
use Rattle.mmu.specs.Vm.{frame_of}
use Rattle.privilege.specs.Access.{fetch_size, data_size, translating_of}
use Rattle.privilege.specs.Rows.{room_of, next_page, place_of, places_by, rows_of}
use Rattle.privilege.specs.Transfer.{joined_to, physical_of, spots, read_of, load_at, store_at, memory_at}
use Rattle.privilege.specs.Transfer.Laws.{spots_none, spots_next, frame_same}
use Rattle.privilege.specs.declared.state.SystemState.{SystemState}
use Rattle.privilege.specs.declared.transfer.DataError.TheVariants as written

module _ (at : ℕ → ℕ) (i : ℕ) where
  pub places_none : places_by at i 0 ≡ []
  unfolding places_by
  places_none = refl

  pub places_next : (n : ℕ) → places_by at i (suc n) ≡ at i ∷ places_by at (i + 1) n
  unfolding places_by
  places_next n = refl

module _ (a pa pb : ℕ) where
  pub place_first : (i : ℕ) → i < room_of a → place_of a pa pb i ≡ pa + i
  unfolding place_of
  place_first i h = rw (lt-ltb i (room_of a) h)

  pub place_second : (i : ℕ) → room_of a ≤ i → place_of a pa pb i ≡ pb + (i - room_of a)
  unfolding place_of
  place_second i h =
      cond_case (λ (x : ℕ). x ≡ pb + (i - room_of a)) (nat_lt i (room_of a)) (λ t. absurd (omega (arith, h, ltb-true i (room_of a) t))) (λ t. refl)

  -- ---- inside a page

  start : place_of a pa pb 0 ≡ pa
  start = place_first 0 (omega arith) ∙ omega arith

  pub rows_word : 4 ≤ room_of a → rows_of a 4 pa pb ≡ word_spots pa
  unfolding places_by
  rows_word h =
      rw (start, place_first 1 (omega arith), place_first 2 (omega arith), place_first 3 (omega arith))

  pub rows_half : 2 ≤ room_of a → rows_of a 2 pa pb ≡ half_spots pa
  unfolding places_by
  rows_half h = rw (start, place_first 1 (omega arith))

  pub rows_byte : rows_of a 1 pa pb ≡ pa ∷ []
  unfolding places_by
  rows_byte = rw start

-- a word inside its page, over a good map
module _ (m : Memory) (a pa pb : ℕ) (good : map_good m ≡ true) (page : a % 4096 ≤ 4092) where
  pub word_loaded : load_at m 4 (rows_of a 4 pa pb) ≡ read_of (read_at m (word_spots pa))
  unfolding load_at data_size fetch_size
  word_loaded = rw (size_open m true (map_open m good) refl, rows_word a pa pb (omega arith))

  pub word_stored : store_at m 4 (rows_of a 4 pa pb) ≡ cond (all_writable m (word_spots pa)) (Ok tt) (Err written.BusError)
  unfolding store_at data_size fetch_size
  word_stored = rw (size_open m true (map_open m good) refl, rows_word a pa pb (omega arith))

  pub word_left : (v : ℕ) → memory_at m 4 (rows_of a 4 pa pb) v ≡ put_at m (word_spots pa) (bytes_of 4 v)
  unfolding memory_at data_size fetch_size
  word_left v = rw (size_open m true (map_open m good) refl, rows_word a pa pb (omega arith))

module _ (a pa pb pb' : ℕ) where
  places_page : (i n : ℕ) → i + n ≤ room_of a → places_by (place_of a pa pb) i n ≡ places_by (place_of a pa pb') i n
  unfolding places_by
  places_page i zero h = refl
  places_page i (suc n) h =
      rw (place_first a pa pb i (omega arith), place_first a pa pb' i (omega arith), places_page (i + 1) n (omega arith))

  pub rows_page : (n : ℕ) → n ≤ room_of a → rows_of a n pa pb ≡ rows_of a n pa pb'
  rows_page n h = places_page 0 n (omega arith)

-- ---- the addresses that lookups give

pub physical_row : (s : SystemState) (a i : ℕ) → i < room_of a → physical_of s (a + i) ≡ physical_of s a + i
unfolding physical_of
physical_row s a i h =
    by_mode (translating_of s) (frame_same s.vm (a + i) a (omega arith)) (omega arith)
  where
    by_mode : (t : Bool) → frame_of s.vm (a + i) ≡ frame_of s.vm a → (a + i) % 4096 ≡ a % 4096 + i
        → cond t (joined_to (frame_of s.vm (a + i)) (a + i)) (a + i) ≡ cond t (joined_to (frame_of s.vm a) a) a + i
    by_mode true p q = rw (p, q) (omega arith)
    by_mode false p q = refl

-- byte i's own lookup
abbrev pub spot : SystemState → ℕ → ℕ → ℕ
spot s a i = physical_of s ((a + i) % 2 ^ 32)

module _ (s : SystemState) (a : ℕ) (small : a < 2 ^ 32) where
  in_first : (i : ℕ) → i < room_of a → (a + i) % 2 ^ 32 ≡ a + i
  in_first i h = omega arith

  in_second : (i : ℕ) → room_of a ≤ i → i < 4096 → (a + i) % 2 ^ 32 ≡ next_page a + (i - room_of a)
  in_second i h g = omega arith

  in_row : (i : ℕ) → i < 4096 → i - room_of a < room_of (next_page a)
  in_row i h = omega arith

  next_step : (i : ℕ) → ((a + i) % 2 ^ 32 + 1) % 2 ^ 32 ≡ (a + (i + 1)) % 2 ^ 32
  next_step i = omega arith

  abbrev here : ℕ → ℕ
  here i = place_of a (physical_of s a) (physical_of s (next_page a)) i

  place_is : (i : ℕ) → i < 4096 → physical_of s ((a + i) % 2 ^ 32) ≡ here i
  place_is i g = by_page (nat_lt i (room_of a)) refl
    where
      by_page : (t : Bool) → nat_lt i (room_of a) ≡ t → physical_of s ((a + i) % 2 ^ 32) ≡ here i
      by_page true e =
          let h = ltb-true i (room_of a) e in
          ap (physical_of s) (in_first i h) ∙ physical_row s a i h ∙ sym (place_first a (physical_of s a) (physical_of s (next_page a)) i h)
      by_page false e =
          let h : room_of a ≤ i = ltb-false i (room_of a) e in
          ap (physical_of s) (in_second i h g) ∙ physical_row s (next_page a) (i - room_of a) (in_row i g)
          ∙ sym (place_second a (physical_of s a) (physical_of s (next_page a)) i h)

  places_are : (n i : ℕ) → i + n ≤ 4096 → places_by here i n ≡ spots s ((a + i) % 2 ^ 32) n
  places_are zero i h = places_none here i ∙ sym (spots_none s ((a + i) % 2 ^ 32))
  places_are (suc n) i h =
      places_next here i n
      ∙ rw (← place_is i (omega arith), places_are n (i + 1) (omega arith), ← next_step i) (sym (spots_next s ((a + i) % 2 ^ 32) n))

  pub rows_spots : (n : ℕ) → n ≤ 4096 → rows_of a n (physical_of s a) (physical_of s (next_page a)) ≡ spots s a n
  rows_spots n h = places_are n 0 (omega arith) ∙ ap (λ (x : ℕ). spots s x n) (let e : (a + 0) % 2 ^ 32 ≡ a = omega arith in e)

  from_spot : (n i : ℕ) → spots s ((a + i) % 2 ^ 32) n ≡ places_by (spot s a) i n
  from_spot zero i = spots_none s ((a + i) % 2 ^ 32) ∙ sym (places_none (spot s a) i)
  from_spot (suc n) i = spots_next s ((a + i) % 2 ^ 32) n ∙ rw (next_step i, from_spot n (i + 1)) (sym (places_next (spot s a) i n))

  pub spots_places : (n : ℕ) → spots s a n ≡ places_by (spot s a) 0 n
  spots_places n = let e : (a + 0) % 2 ^ 32 ≡ a = omega arith in rw e at (from_spot n 0)
