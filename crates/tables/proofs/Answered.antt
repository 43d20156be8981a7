-- The way through `write_tables` where nothing is refused, and `tables_write`. Assumes nothing.
use Rattle.std.proofs.Common.{◌≡◌, ℕ, ◌+◌, ◌*◌, ◌^◌, ◌≤◌, ◌<◌, Bool, true, List, length, sym, ap, ◌∙◌, arith, le-leb, Result, Ok}
use Rattle.memory.specs.Memory.{lent, good_map}
use Rattle.tables.specs.Refusal.{in_numbers}
use Rattle.tables.specs.declared.export.TablesAnswer.{TablesAnswer}
use Rattle.tables.specs.declared.refusal.Refusal.{Refusal}
use Rattle.tables.specs.declared.write.Tables.{Tables}
use Rattle.tables.specs.Mapping.{mappings, good_list, all_good}
use Rattle.tables.specs.Mapping.Laws.{good_short}
use Rattle.tables.specs.Words.{put_words}
use Rattle.tables.specs.Words.Laws.{lent_words, words_length, put_words_append}
use Rattle.tables.specs.Tables.{directories, table_for, level1, tables_after, image, frames_for, good_run, written, answer_for, by_answer, memory_after, Call}
use Rattle.tables.specs.Tables.Laws.{Accepted, frames_low}

-- the lists of a call as `List` has them
pub good_few : (vs vs' ps' bs' : List ℕ) → good_list vs' ps' bs' ≡ true → vs' ≡ vs → length vs ≤ 512
good_few vs vs' ps' bs' g e = rw e at (good_short vs' ps' bs' g)

module _ (base : ℕ) (l vs ps bs : List ℕ) (first n : ℕ) where
  abbrev pub call : Call
  call = record { memory = lent base l; vpns = vs; ppns = ps; bits = bs; first = first; frames = n }

  -- each test passed
  pub passed : {a b d : Bool} (vs' ps' bs' : List ℕ) (used : ℕ) → vs' ≡ vs → ps' ≡ ps → bs' ≡ bs → a ≡ good_map base (length l) → a ≡ true → good_list vs' ps' bs' ≡ true
      → b ≡ all_good (mappings vs' ps' bs') → b ≡ true → d ≡ good_run (lent base l) first n → d ≡ true → used ≡ frames_for vs → used ≤ n → Accepted call
  passed vs' ps' bs' used ev ep eb pa ta g pb tb pd td pu tu =
      record {
        map = sym pa ∙ ta;
        list = rw (ev, ep, eb) at g;
        leaves = rw (ev, ep, eb) at (sym pb ∙ tb);
        run = sym pd ∙ td;
        enough = rw pu at tu;
      }

  module _ (acc : Accepted call) where
    pub has_room : first + 4096 * frames_for vs < 2 ^ 32
    has_room = omega (arith, frames_low call acc)

    pub all_written : (vs' ps' bs' l₁ l₂ : List ℕ) (used : ℕ) → vs' ≡ vs → ps' ≡ ps → bs' ≡ bs → used ≡ frames_for vs
        → l₁ ≡ (put_words (lent base l) first (level1 first (directories vs))).bytes
        → l₂ ≡ (put_words (lent base l₁) (first + 4096) (tables_after 1024 (mappings vs' ps' bs'))).bytes
        → (Ok (written first used) ≡ answer_for (lent base l) vs ps bs first n) × (l₂ ≡ (memory_after (lent base l) vs ps bs first n).bytes)
    unfolding answer_for memory_after by_answer image level1
    all_written vs' ps' bs' l₁ l₂ used ev ep eb pu f g =
        let ws = level1 first (directories vs) in
        let size : length ws ≡ 1024 = words_length (λ i. table_for first i (directories vs)) 0 1024 in
        let at : first + 4 * 1024 ≡ first + 4096 = omega arith in
        let h = rw (ev, ep, eb) at g in (
          rw (acc.map, acc.list, acc.leaves, acc.run, le-leb (frames_for vs) n acc.enough, pu),
          h ∙ sym (rw (acc.map, acc.list, acc.leaves, acc.run, le-leb (frames_for vs) n acc.enough, put_words_append ws (tables_after 1024 (mappings vs ps bs)) (lent base l) first, size, at, f, lent_words (lent base l) first ws)),
        )

-- `tables_write`, where `write_tables` answered t
pub numbered : (r : TablesAnswer) (t u : Result Tables Refusal) → r ≡ in_numbers t → t ≡ u → r ≡ in_numbers u
numbered r t u e q = e ∙ ap in_numbers q
