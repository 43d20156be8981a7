-- What a good header promises to the runner above, without opening the definitions. Assumes nothing.
--
--   Sound s h                 == the header is the script's, its numbers are within their limits, its map is good, and each event and each byte
--                                of the image lies within the script
--   good_sound                == of a good script the header is sound
--   image_is                  == then the copied image is the script's image section as it stands
--   image_fits, memory_length == the image fits the runner's memory, and the front of that is as long as the image
use Rattle.std.specs.Prelude.{◌≡◌, ℕ, zero, suc, ◌+◌, ◌%◌, ◌<◌, ◌≤◌, Bool, true, false, cond, ◌&&◌, List, length, take, drop, replicate, refl, Result, Ok, Err}
use Rattle.std.proofs.Common.{sym, ◌∙◌, arith, length-take-le, leb-true, eqb-true, ne_eqb}
use Rattle.std.proofs.lemmas.List.{length-replicate}
use Rattle.common.specs.Cases.{absurd_eq}
use Rattle.common.specs.declared.Refusal.TheVariants as refusal
use Rattle.memory.specs.Memory.{good_map}
use Rattle.script.specs.Header.{header_least, header_size, header_at, length_ok, counts_ok, event_place, events_section, image_section, section_ok, apart, sections_ok, decided, script_of}
use Rattle.script.specs.Image.{bytes_from}
use Rattle.script.specs.Image.Laws.{bytes_none, bytes_inside}
use Rattle.script.specs.declared.header.Header.{Header}
use Rattle.std.specs.declared.ops.Range.{Range}
use Rattle.common.specs.declared.Refusal.{Refusal}

pub record Sound (s : List ℕ) (h : Header) : Type 0 where
  pub words : h ≡ header_at s
  pub size : length s ≤ 61440
  pub few_events : h.events ≤ 2048
  pub small_image : h.image ≤ 32768
  pub map : good_map h.base h.image ≡ true
  pub event_inside : (k : ℕ) → k < h.events → event_place h k + 12 ≤ length s
  pub image_inside : (k : ℕ) → k < h.image → h.image_at + k < length s

-- of a good script every test was passed
record Passed (n : ℕ) (h : Header) : Type 0 where
  first : (length_ok n && counts_ok h) ≡ true
  map : good_map h.base h.image ≡ true
  sections : sections_ok n h ≡ true

good_passed : (n : ℕ) (h g : Header) → decided n h ≡ Ok g → (g ≡ h) × Passed n h
unfolding decided
good_passed n h g p = by (length_ok n && counts_ok h) (good_map h.base h.image) (sections_ok n h) refl refl refl p
  where
    by : (a m t : Bool) → (length_ok n && counts_ok h) ≡ a → good_map h.base h.image ≡ m → sections_ok n h ≡ t
        → cond a (cond m (cond t (Ok h) (Err refusal.Section)) (Err refusal.Map)) (Err refusal.Header) ≡ Ok g → (g ≡ h) × Passed n h
    by true true true e f k q = ((cc), record { first = e; map = f; sections = k })
    by true true false e f k q = absurd_eq (cc)
    by true false t e f k q = absurd_eq (cc)
    by false m t e f k q = absurd_eq (cc)

-- what each of two tests tells, both tell together
both : {a b : Bool} {P Q : Type 0} → (a ≡ true → P) → (b ≡ true → Q) → (a && b) ≡ true → P × Q
both {a = true} f g e = (f refl, g e)
both {a = false} f g e = absurd_eq (cc)

length_tells : (n : ℕ) → length_ok n ≡ true → (header_least ≤ n) × (n ≤ 61440)
unfolding length_ok
length_tells n = both (leb-true header_least n) (leb-true n 61440)

counts_tell : (h : Header) → counts_ok h ≡ true → ((h.events ≤ 2048) × (h.image ≤ 32768)) × (h.image % 4096 ≡ 0)
unfolding counts_ok
counts_tell h = both (both (leb-true h.events 2048) (leb-true h.image 32768)) (eqb-true (h.image % 4096) 0)

section_tells : (z n : ℕ) (p : Range ℕ) → section_ok z n p ≡ true → p.start < p.end → p.end ≤ n
unfolding section_ok
section_tells z n p e h =
    let ne : p.start ≡ p.end → ⊥ = λ q. omega arith in
    (both (leb-true z p.start) (leb-true p.end n) (rw (ne_eqb p.start p.end ne) at e)).1

sections_tell : (n : ℕ) (h : Header) → sections_ok n h ≡ true
    → ((0 < h.events → event_place h h.events ≤ n) × (0 < h.image → h.image_at + h.image ≤ n)) × (apart (events_section h) (image_section h) ≡ true)
unfolding sections_ok
sections_tell n h =
    both
    (both (λ e g. section_tells (header_size h) n (events_section h) e (omega arith)) (λ e g. section_tells (header_size h) n (image_section h) e (omega arith)))
    (λ e. e)

passed_sound : (s : List ℕ) (h : Header) → h ≡ header_at s → Passed (length s) h → Sound s h
passed_sound s h w t =
    let first = both (length_tells (length s)) (counts_tell h) t.first in
    let sections = sections_tell (length s) h t.sections in
    record {
      words = w;
      size = first.0.1;
      few_events = first.1.0.0;
      small_image = first.1.0.1;
      map = t.map;
      event_inside = λ k g. omega (arith, sections.0.0 (omega arith));
      image_inside = λ k g. omega (arith, sections.0.1 (omega arith));
    }

pub good_sound : (s : List ℕ) (h : Header) → script_of s ≡ Ok h → Sound s h
unfolding script_of
good_sound s h p =
    let q = good_passed (length s) (header_at s) h p in
    passed_sound s h q.0 (rw q.0 q.1)

pub image_is : (s : List ℕ) (h : Header) → Sound s h → bytes_from s h.image_at h.image ≡ take h.image (drop h.image_at s)
image_is s h t = by h.image t.image_inside
  where
    by : (n : ℕ) → ((k : ℕ) → k < n → h.image_at + k < length s) → bytes_from s h.image_at n ≡ take n (drop h.image_at s)
    by zero g = bytes_none s h.image_at
    by (suc n) g = bytes_inside s h.image_at (suc n) (omega (arith, g n (omega arith)))

-- x is what `header_of` answered
module _ (s : List ℕ) (h : Header) (x : Result Header Refusal) (e : x ≡ script_of s) (g : x ≡ Ok h) where
  pub image_fits : h.image ≤ 32768
  image_fits = (good_sound s h (sym e ∙ g)).small_image

  pub memory_length : length {A = ℕ} (take h.image (replicate 32768 0)) ≡ h.image
  memory_length = length-take-le h.image (replicate 32768 0) (rw (length-replicate {A = ℕ} 32768 0) image_fits)
