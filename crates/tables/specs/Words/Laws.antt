-- The laws of words in lent memory. Assumes nothing.
--
--   lent_word, lent_words       == words written at a base keep the base
--   put_word_map, put_words_map == the map stays
--   put_word_is                 == a word is its four bytes, one written after the other
--   words_next                  == the first of several words
--   put_words_append            == words, and then more words
--   words_length, words_at      == how many words there are, and which
--   words_other                 == bytes before and after the words stay
--   word_back                   == each word is read back
--   words_same                  == the bytes of the words do not depend on what stood there
use Rattle.std.specs.Prelude.{ℕ, zero, suc, ◌+◌, ◌-◌, ◌*◌, ◌/◌, ◌%◌, ◌^◌, ◌≤◌, ◌<◌, ◌≡◌, refl, true, List, [], ◌∷◌, ◌++◌, ◌⊎◌, length, get_or, Some}
use Rattle.std.proofs.Common.{sym, ap, ◌∙◌, inl, inr, ⊎_elim, arith}
use Rattle.common.specs.Bytes.{bytes_of, big_endian, bytes_four}
use Rattle.common.specs.Lists.{Each}
use Rattle.common.specs.Cases.{lt_or_ge}
use Rattle.memory.specs.Memory.{Memory, lent, inside, byte_at, read_at, word_spots, put_byte}
use Rattle.memory.specs.Memory.Laws.{SameMap, inside_same, read_same, byte_inside, over, put_map, put_here, put_other, write_map, write_other, inside_map, lent_put}
use Rattle.memory.specs.Memory.Bytewise.{put_four, read_four}
use Rattle.tables.specs.Words.{put_word, put_words, words_of}

-- ---- one word

pub put_word_map : (m : Memory) (a w : ℕ) → SameMap (put_word m a w) m
unfolding put_word
put_word_map m a w = write_map m (word_spots a) (bytes_of 4 w)

pub lent_word : (m : Memory) (a w : ℕ) → lent m.base (put_word m a w).bytes ≡ put_word m a w
lent_word m a w = ap (λ (n : ℕ). lent n (put_word m a w).bytes) (sym (put_word_map m a w).base)

-- the word by its bytes
four_bytes : (m : Memory) (a w : ℕ) → w < 2 ^ 32
    → put_word m a w ≡ put_byte (put_byte (put_byte (put_byte m a (w / 16777216)) (a + 1) (w / 65536 % 256)) (a + 2) (w / 256 % 256)) (a + 3) (w % 256)
unfolding put_word
four_bytes m a w h = rw (bytes_four w h) (put_four m a (w / 16777216) (w / 65536 % 256) (w / 256 % 256) (w % 256))

-- a byte written to what a slice holds by now
then_byte : (base a b : ℕ) (l l' : List ℕ) (m : Memory) → lent base l ≡ m → l' ≡ (put_byte (lent base l) a b).bytes → lent base l' ≡ put_byte m a b
then_byte base a b l l' m e q = ap (lent base) q ∙ lent_put (lent base l) a b ∙ ap (λ (n : Memory). put_byte n a b) e

pub put_word_is : (base a w : ℕ) (l l₁ l₂ l₃ l₄ : List ℕ) → w < 2 ^ 32 → l₁ ≡ (put_byte (lent base l) a (w / 16777216)).bytes → l₂ ≡ (put_byte (lent base l₁) (a + 1) (w / 65536 % 256)).bytes
    → l₃ ≡ (put_byte (lent base l₂) (a + 2) (w / 256 % 256)).bytes → l₄ ≡ (put_byte (lent base l₃) (a + 3) (w % 256)).bytes → l₄ ≡ (put_word (lent base l) a w).bytes
put_word_is base a w l l₁ l₂ l₃ l₄ h p q r s =
    let e₁ = then_byte base a (w / 16777216) l l₁ (lent base l) refl p in
    let e₂ = then_byte base (a + 1) (w / 65536 % 256) l₁ l₂ _ e₁ q in
    let e₃ = then_byte base (a + 2) (w / 256 % 256) l₂ l₃ _ e₂ r in
    let e₄ = then_byte base (a + 3) (w % 256) l₃ l₄ _ e₃ s in
    ap (λ (m : Memory). m.bytes) (e₄ ∙ sym (four_bytes (lent base l) a w h))

-- a written byte that is in the map
byte_put : (m : Memory) (a v : ℕ) → inside m a ≡ true → byte_at (put_byte m a v) a ≡ Some v
byte_put m a v h = put_here m a v ∙ ap (over v) (byte_inside m a h)

put_inside : (m : Memory) (a v b : ℕ) → inside m b ≡ true → inside (put_byte m a v) b ≡ true
put_inside m a v b h = inside_same (put_byte m a v) m (put_map m a v) b ∙ h

-- the four bytes of a word that is written in the map
module _ (m : Memory) (a w : ℕ) (small : w < 2 ^ 32) (ins : (b : ℕ) → a ≤ b → b < a + 4 → inside m b ≡ true) where
  byte_0 : byte_at (put_word m a w) a ≡ Some (w / 16777216)
  byte_0 =
      rw (four_bytes m a w small) (put_other _ (a + 3) _ a (λ e. omega arith)
      ∙ put_other _ (a + 2) _ a (λ e. omega arith) ∙ put_other _ (a + 1) _ a (λ e. omega arith) ∙ byte_put m a _ (ins a (omega arith) (omega arith)))

  byte_1 : byte_at (put_word m a w) (a + 1) ≡ Some (w / 65536 % 256)
  byte_1 =
      rw (four_bytes m a w small) (put_other _ (a + 3) _ (a + 1) (λ e. omega arith)
      ∙ put_other _ (a + 2) _ (a + 1) (λ e. omega arith) ∙ byte_put _ (a + 1) _ (put_inside m a _ (a + 1) (ins (a + 1) (omega arith) (omega arith))))

  byte_2 : byte_at (put_word m a w) (a + 2) ≡ Some (w / 256 % 256)
  byte_2 =
      rw (four_bytes m a w small) (put_other _ (a + 3) _ (a + 2) (λ e. omega arith)
      ∙ byte_put _ (a + 2) _ (put_inside _ (a + 1) _ (a + 2) (put_inside m a _ (a + 2) (ins (a + 2) (omega arith) (omega arith)))))

  byte_3 : byte_at (put_word m a w) (a + 3) ≡ Some (w % 256)
  byte_3 =
      rw (four_bytes m a w small) (byte_put _ (a + 3) _ (put_inside _ (a + 2) _ (a + 3)
      (put_inside _ (a + 1) _ (a + 3) (put_inside m a _ (a + 3) (ins (a + 3) (omega arith) (omega arith))))))

  pub word_here : read_at (put_word m a w) (word_spots a) ≡ Some w
  word_here =
      let whole : big_endian (w / 16777216 ∷ w / 65536 % 256 ∷ w / 256 % 256 ∷ w % 256 ∷ []) ≡ w = omega arith in
      read_four (put_word m a w) a _ _ _ _ byte_0 byte_1 byte_2 byte_3 ∙ ap Some whole

pub word_other : (m : Memory) (a w b : ℕ) → (b < a) ⊎ (a + 4 ≤ b) → byte_at (put_word m a w) b ≡ byte_at m b
unfolding put_word
word_other m a w b o =
    write_other m (word_spots a) (bytes_of 4 w) b
    (⊎_elim (λ h. ((λ e. omega arith), ((λ e. omega arith), ((λ e. omega arith), ((λ e. omega arith), tt)))))
    (λ h. ((λ e. omega arith), ((λ e. omega arith), ((λ e. omega arith), ((λ e. omega arith), tt))))) o)

-- ---- several words

pub words_next : (f : ℕ → ℕ) (m : Memory) (a i n : ℕ) → put_words m a (words_of f i (suc n)) ≡ put_words (put_word m a (f i)) (a + 4) (words_of f (i + 1) n)
unfolding put_words words_of
words_next f m a i n = refl

pub words_none : (f : ℕ → ℕ) (m : Memory) (a i : ℕ) → put_words m a (words_of f i 0) ≡ m
unfolding put_words words_of
words_none f m a i = refl

pub put_words_append : (ws us : List ℕ) (m : Memory) (a : ℕ) → put_words m a (ws ++ us) ≡ put_words (put_words m a ws) (a + 4 * length ws) us
unfolding put_words
put_words_append [] us m a = let e : a + 4 * 0 ≡ a = omega arith in rw e
put_words_append (w ∷ ws) us m a =
    let e : a + 4 + 4 * length ws ≡ a + 4 * suc (length ws) = omega arith in
    put_words_append ws us (put_word m a w) (a + 4) ∙ rw e

pub put_words_map : (ws : List ℕ) (m : Memory) (a : ℕ) → SameMap (put_words m a ws) m
unfolding put_words
put_words_map [] m a = record { base = refl; size = refl }
put_words_map (w ∷ ws) m a =
    let r = put_words_map ws (put_word m a w) (a + 4) in
    let s = put_word_map m a w in
    record { base = r.base ∙ s.base; size = r.size ∙ s.size }

pub lent_words : (m : Memory) (a : ℕ) (ws : List ℕ) → lent m.base (put_words m a ws).bytes ≡ put_words m a ws
lent_words m a ws = ap (λ (n : ℕ). lent n (put_words m a ws).bytes) (sym (put_words_map ws m a).base)

pub words_length : (f : ℕ → ℕ) (i n : ℕ) → length (words_of f i n) ≡ n
unfolding words_of
words_length f i zero = refl
words_length f i (suc n) = ap suc (words_length f (i + 1) n)

pub words_at : (f : ℕ → ℕ) (i n k : ℕ) → k < n → get_or (words_of f i n) k 0 ≡ f (i + k)
unfolding words_of
words_at f i zero k h = absurd (omega arith)
words_at f i (suc n) zero h = let e : i + 0 ≡ i = omega arith in rw e
words_at f i (suc n) (suc k) h = let e : i + suc k ≡ i + 1 + k = omega arith in rw e (words_at f (i + 1) n k (omega arith))

pub words_fit : (f : ℕ → ℕ) → ((i : ℕ) → f i < 2 ^ 32) → (i n : ℕ) → Each (λ w. w < 2 ^ 32) (words_of f i n)
unfolding words_of
words_fit f h i zero = tt
words_fit f h i (suc n) = (h i, words_fit f h (i + 1) n)

pub words_other : (ws : List ℕ) (m : Memory) (a b : ℕ) → (b < a) ⊎ (a + 4 * length ws ≤ b) → byte_at (put_words m a ws) b ≡ byte_at m b
unfolding put_words
words_other [] m a b o = refl
words_other (w ∷ ws) m a b o =
    words_other ws (put_word m a w) (a + 4) b (⊎_elim (λ h. inl (omega arith)) (λ h. inr (omega arith)) o)
    ∙ word_other m a w b (⊎_elim (λ h. inl h) (λ h. inr (omega arith)) o)

-- the words lie in the map
abbrev pub InMap : Memory → ℕ → ℕ → Type 0
InMap m a n = (m.base ≤ a) × (a + 4 * n ≤ m.base + length m.bytes)

in_map : (m : Memory) (a n b : ℕ) → InMap m a n → a ≤ b → b < a + 4 * n → inside m b ≡ true
in_map m a n b h g k = inside_map m b (omega arith) (omega arith)

next_in_map : (m : Memory) (a w n : ℕ) → InMap m a (suc n) → InMap (put_word m a w) (a + 4) n
next_in_map m a w n h = let s = put_word_map m a w in (omega (arith, s.base, s.size), omega (arith, s.base, s.size))

-- the first of the words
first_in : (m : Memory) (a n : ℕ) → InMap m a (suc n) → (b : ℕ) → a ≤ b → b < a + 4 → inside m b ≡ true
first_in m a n h b g k = in_map m a (suc n) b h g (omega arith)

pub word_back : (ws : List ℕ) (m : Memory) (a : ℕ) → InMap m a (length ws) → Each (λ w. w < 2 ^ 32) ws → (k : ℕ) → k < length ws
    → read_at (put_words m a ws) (word_spots (a + 4 * k)) ≡ Some (get_or ws k 0)
unfolding put_words
word_back [] m a h s k g = absurd (omega arith)
word_back (w ∷ ws) m a h s zero g =
    let e : a + 4 * 0 ≡ a = omega arith in
    let n = put_word m a w in
    rw e (read_same (put_words n (a + 4) ws) n (word_spots a)
    (words_other ws n (a + 4) a (inl (omega arith)), (words_other ws n (a + 4) (a + 1) (inl (omega arith)), (words_other ws n (a + 4) (a + 2) (inl (omega arith)), (words_other ws n (a + 4) (a + 3) (inl (omega arith)), tt))))
    ∙ word_here m a w s.0 (first_in m a (length ws) h))
word_back (w ∷ ws) m a h s (suc k) g =
    let e : a + 4 * suc k ≡ a + 4 + 4 * k = omega arith in
    rw e (word_back ws (put_word m a w) (a + 4) (next_in_map m a w (length ws) h) s.1 k (omega arith))

-- the bytes of the words, whatever stood there
module _ (m m' : Memory) (a w : ℕ) (small : w < 2 ^ 32) (ins : (b : ℕ) → a ≤ b → b < a + 4 → inside m b ≡ true) (ins' : (b : ℕ) → a ≤ b → b < a + 4 → inside m' b ≡ true) where
  byte_same : (i : ℕ) → i < 4 → byte_at (put_word m a w) (a + i) ≡ byte_at (put_word m' a w) (a + i)
  byte_same zero l = let e : a + 0 ≡ a = omega arith in rw e (byte_0 m a w small ins ∙ sym (byte_0 m' a w small ins'))
  byte_same (suc zero) l = byte_1 m a w small ins ∙ sym (byte_1 m' a w small ins')
  byte_same (suc (suc zero)) l = byte_2 m a w small ins ∙ sym (byte_2 m' a w small ins')
  byte_same (suc (suc (suc zero))) l = byte_3 m a w small ins ∙ sym (byte_3 m' a w small ins')
  byte_same (suc (suc (suc (suc i)))) l = absurd (omega arith)

pub words_same : (ws : List ℕ) (m m' : Memory) (a : ℕ) → InMap m a (length ws) → InMap m' a (length ws) → Each (λ w. w < 2 ^ 32) ws → (b : ℕ) → a ≤ b → b < a + 4 * length ws
    → byte_at (put_words m a ws) b ≡ byte_at (put_words m' a ws) b
unfolding put_words
words_same [] m m' a h h' s b g k = absurd (omega arith)
words_same (w ∷ ws) m m' a h h' s b g k =
    by_place (lt_or_ge b (a + 4))
    (λ k'. words_same ws (put_word m a w) (put_word m' a w) (a + 4) (next_in_map m a w (length ws) h) (next_in_map m' a w (length ws) h') s.1 b k' (omega arith))
  where
    by_place : (b < a + 4) ⊎ (a + 4 ≤ b) → (a + 4 ≤ b → byte_at (put_words (put_word m a w) (a + 4) ws) b ≡ byte_at (put_words (put_word m' a w) (a + 4) ws) b)
        → byte_at (put_words (put_word m a w) (a + 4) ws) b ≡ byte_at (put_words (put_word m' a w) (a + 4) ws) b
    by_place (inr l) later = later l
    by_place (inl l) later =
        let e : a + (b - a) ≡ b = omega arith in
        words_other ws (put_word m a w) (a + 4) b (inl l)
        ∙ (rw e at (byte_same m m' a w s.0 (first_in m a (length ws) h) (first_in m' a (length ws) h') (b - a) (omega arith)))
        ∙ sym (words_other ws (put_word m' a w) (a + 4) b (inl l))
