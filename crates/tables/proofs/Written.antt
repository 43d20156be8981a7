-- The ways through the tests of the run and through the writing of words. Assumes nothing.
use Rattle.std.proofs.Common.{ℕ, suc, ◌+◌, ◌-◌, ◌*◌, ◌/◌, ◌≤◌, ◌<◌, ◌≡◌, refl, sym, ap, ◌∙◌, true, List, [], ◌∷◌, add-one, arith, length, get_or, drop, drop_of_length-le, drop-cons, eq-eqb, ne_eqb}
use Rattle.common.specs.Bytes.{bytes_of}
use Rattle.memory.specs.Memory.{lent, put_at, word_spots}
use Rattle.tables.specs.Mapping.{mapping, mappings, good_list}
use Rattle.tables.specs.Mapping.Laws.{mapping_next, none_left}
use Rattle.tables.specs.Words.{put_word, put_words, words_of}
use Rattle.tables.specs.Words.Laws.{lent_word, lent_words, words_next, words_none, put_words_append, put_words_map}
use Rattle.tables.specs.Tables.Laws.{level2_size}
use Rattle.tables.specs.Tables.{directories_after, table_for, level2, tables_after, frames_for}

-- ---- the directories from place k on

module _ (vs : List ℕ) (last k : ℕ) where
  no_more : length vs ≤ k → directories_after last (drop k vs) ≡ []
  unfolding directories_after
  no_more h = rw (drop_of_length-le vs {i = k} h)

  module _ (h : k < length vs) where
    same_directory : get_or vs k 0 / 1024 ≡ last → directories_after last (drop k vs) ≡ directories_after (get_or vs k 0 / 1024) (drop (k + 1) vs)
    unfolding directories_after
    same_directory e = rw (drop-cons vs k 0 h, eq-eqb (get_or vs k 0 / 1024) last e, add-one k, e)

    new_directory : (get_or vs k 0 / 1024 ≡ last → ⊥)
        → directories_after last (drop k vs) ≡ get_or vs k 0 / 1024 ∷ directories_after (get_or vs k 0 / 1024) (drop (k + 1) vs)
    unfolding directories_after
    new_directory e = rw (drop-cons vs k 0 h, ne_eqb (get_or vs k 0 / 1024) last e, add-one k)

-- `frames_for`: the frames counted, and those of the directories to come
module _ (z u last k : ℕ) (vs : List ℕ) (p : z ≡ u + length (directories_after last (drop k vs))) where
  pub count_done : length vs ≤ k → u ≡ z
  count_done h = let e = ap length (no_more vs last k h) in omega arith

  module _ (u' next : ℕ) (h : k < length vs) where
    pub count_same : get_or vs k 0 / 1024 ≡ last → u' ≡ u → next ≡ get_or vs k 0 / 1024 → z ≡ u' + length (directories_after next (drop (k + 1) vs))
    count_same e q r = let d = ap length (same_directory vs last k h e) in rw r (omega arith)

    pub count_new : (get_or vs k 0 / 1024 ≡ last → ⊥) → u' ≡ u + 1 → next ≡ get_or vs k 0 / 1024 → z ≡ u' + length (directories_after next (drop (k + 1) vs))
    count_new e q r = let d = ap length (new_directory vs last k h e) in rw r (omega arith)

pub frames_some : (vs : List ℕ) → 1 ≤ frames_for vs
unfolding frames_for
frames_some vs = omega arith

-- the frames to come end where the run of needed frames ends
abbrev pub Room : ℕ → ℕ → ℕ → ℕ → List ℕ → Type 0
Room z frame last k vs = z ≡ frame + 4096 * (1 + length (directories_after last (drop k vs)))

pub room_whole : (first : ℕ) (vs : List ℕ) → Room (first + 4096 * frames_for vs) first 1024 0 vs
unfolding frames_for
room_whole first vs = refl

module _ (z frame frame' last next k : ℕ) (vs : List ℕ) (p : Room z frame last k vs) (h : k < length vs) where
  pub room_same : get_or vs k 0 / 1024 ≡ last → frame' ≡ frame → next ≡ get_or vs k 0 / 1024 → Room z frame' next (k + 1) vs
  room_same e q r = let d = ap length (same_directory vs last k h e) in rw r (omega arith)

  pub room_new : (get_or vs k 0 / 1024 ≡ last → ⊥) → frame' ≡ frame + 4096 → next ≡ get_or vs k 0 / 1024 → Room z frame' next (k + 1) vs
  room_new e q r = let d = ap length (new_directory vs last k h e) in rw r (omega arith)

  pub room_here : (get_or vs k 0 / 1024 ≡ last → ⊥) → frame + 8192 ≤ z
  room_here e = let d = ap length (new_directory vs last k h e) in omega arith

-- `table_word`: the word is that of the directories to come, whose tables stand after `frame`
module _ (z frame i last k : ℕ) (vs : List ℕ) (p : z ≡ table_for frame i (directories_after last (drop k vs))) where
  pub table_none : length vs ≤ k → 0 ≡ z
  unfolding table_for
  table_none h = sym (p ∙ rw (no_more vs last k h))

  module _ (h : k < length vs) where
    pub table_here : (get_or vs k 0 / 1024 ≡ last → ⊥) → get_or vs k 0 / 1024 ≡ i → frame + 4096 + 1 ≡ z
    unfolding table_for
    table_here e g = sym (p ∙ rw (new_directory vs last k h e, eq-eqb (get_or vs k 0 / 1024) i g))

    pub table_same : (frame' next : ℕ) → get_or vs k 0 / 1024 ≡ last → frame' ≡ frame → next ≡ get_or vs k 0 / 1024
        → z ≡ table_for frame' i (directories_after next (drop (k + 1) vs))
    table_same frame' next e q r = p ∙ rw (same_directory vs last k h e, q, r)

    pub table_later : (frame' next : ℕ) → (get_or vs k 0 / 1024 ≡ last → ⊥) → (get_or vs k 0 / 1024 ≡ i → ⊥) → frame' ≡ frame + 4096
        → next ≡ get_or vs k 0 / 1024 → z ≡ table_for frame' i (directories_after next (drop (k + 1) vs))
    unfolding table_for
    table_later frame' next e g q r = p ∙ rw (new_directory vs last k h e, ne_eqb (get_or vs k 0 / 1024) i g, q, r)

-- ---- the words of one table, one after the other

-- before the first
pub words_begin : (base : ℕ) (l : List ℕ) (f : ℕ → ℕ) (a j : ℕ) → (put_words (lent base l) a (words_of f j 1024)).bytes ≡ (put_words (lent base l) (a + 0 * 4) (words_of f (j + 0) (1024 - 0))).bytes
words_begin base l f a j =
    let e : a + 0 * 4 ≡ a = omega arith in
    let g : j + 0 ≡ j = omega arith in
    rw (e, g)

module _ (z l : List ℕ) (base : ℕ) (f : ℕ → ℕ) (a j i : ℕ) (p : z ≡ (put_words (lent base l) (a + i * 4) (words_of f (j + i) (1024 - i))).bytes) where
  pub words_turn : (l' : List ℕ) (w v : ℕ) → i < 1024 → v ≡ j + i → w ≡ f v → l' ≡ (put_at (lent base l) (word_spots (a + i * 4)) (bytes_of 4 w)).bytes
      → z ≡ (put_words (lent base l') (a + (i + 1) * 4) (words_of f (j + (i + 1)) (1024 - (i + 1)))).bytes
  unfolding put_word
  words_turn l' w v h u e q =
      let n : 1024 - i ≡ suc (1024 - (i + 1)) = omega arith in
      let at : a + i * 4 + 4 ≡ a + (i + 1) * 4 = omega arith in
      let next : j + i + 1 ≡ j + (i + 1) = omega arith in
      p ∙ rw (n, words_next f (lent base l) (a + i * 4) (j + i) (1024 - (i + 1)), at, next, q, lent_word (lent base l) (a + i * 4) w, e, u)

  pub words_end : 1024 ≤ i → l ≡ z
  words_end h =
      let n : 1024 - i ≡ 0 = omega arith in
      sym (p ∙ rw (n, words_none f (lent base l) (a + i * 4) (j + i)))

-- ---- `write_level2`: the tables of the directories to come, in the frames after `frame`

module _ (z l : List ℕ) (base frame last k : ℕ) (vs ps bs : List ℕ) (good : good_list vs ps bs ≡ true)
    (p : z ≡ (put_words (lent base l) (frame + 4096) (tables_after last (drop k (mappings vs ps bs)))).bytes) where
  pub tables_done : length vs ≤ k → l ≡ z
  unfolding tables_after put_words
  tables_done h = sym (p ∙ rw (none_left vs ps bs good k h))

  module _ (l' : List ℕ) (frame' : ℕ) (h : k < length vs) where
    pub tables_same : get_or vs k 0 / 1024 ≡ last → l' ≡ l → frame' ≡ frame
        → z ≡ (put_words (lent base l') (frame' + 4096) (tables_after (get_or vs k 0 / 1024) (drop (k + 1) (mappings vs ps bs)))).bytes
    unfolding tables_after
    tables_same e q r = p ∙ rw (mapping_next vs ps bs good k h, eq-eqb (get_or vs k 0 / 1024) last e, q, r, e)

    pub tables_new : (written : List ℕ) → (get_or vs k 0 / 1024 ≡ last → ⊥) → frame' ≡ frame + 4096 → l' ≡ written
        → written ≡ (put_words (lent base l) (frame + 4096) (level2 (get_or vs k 0 / 1024) (drop k (mappings vs ps bs)))).bytes
        → z ≡ (put_words (lent base l') (frame' + 4096) (tables_after (get_or vs k 0 / 1024) (drop (k + 1) (mappings vs ps bs)))).bytes
    unfolding tables_after
    tables_new written e r s q =
        let d = get_or vs k 0 / 1024 in
        let x = mapping (get_or vs k 0) (get_or ps k 0) (get_or bs k 0) in
        let rest = drop (k + 1) (mappings vs ps bs) in
        let t = level2 d (x ∷ rest) in
        let here = s ∙ (rw (mapping_next vs ps bs good k h) at q) in
        let at : frame + 4096 + 4 * 1024 ≡ frame + 4096 + 4096 = omega arith in
        p ∙ rw (
          mapping_next vs ps bs good k h,
          ne_eqb (get_or vs k 0 / 1024) last e,
          put_words_append t (tables_after d rest) (lent base l) (frame + 4096),
          level2_size d (x ∷ rest),
          at,
          here,
          r,
          lent_words (lent base l) (frame + 4096) t,
        )

pub kept_size : (l₀ l l' written : List ℕ) (base a : ℕ) (ws : List ℕ) → length l ≡ length l₀ → l' ≡ written → written ≡ (put_words (lent base l) a ws).bytes → length l' ≡ length l₀
kept_size l₀ l l' written base a ws n e q = ap length (e ∙ q) ∙ (put_words_map ws (lent base l) a).size ∙ n
