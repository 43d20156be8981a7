-- When a script is refused: document 01's table 'Numbered refusals', 4, 2 and 5, in its own words, and the order "4, 2, 5"; and
-- what the memory holds at first.
--
--   BadHeader n h      == what refusal 4 names
--   BadMap h           == what refusal 2 names; the image's length is tested by 4 already
--   Misplaced h n p    == "a non-empty section starts before byte 24, ends after the script"
--   Within k p         == place k is in the section
--   Overlap p q        == a byte is in both sections
--   BadSections n h    == what refusal 5 names
--   Meaning            == each refusal is given exactly when it is due and none before it is; then the image
use Rattle.std.specs.Prelude.{◌≡◌, ℕ, ◌+◌, ◌%◌, ◌<◌, ◌≤◌, ◌≢◌, ◌⊎◌, ◌↔◌, List, length, take, drop, slice_index, Ok, Err}
use Rattle.common.specs.declared.Refusal.TheVariants as refusal
use Rattle.script.specs.Header.{header_least, header_size, header_at, event_place, events_section, image_section, script_of}
use Rattle.script.specs.Image.{bytes_from}
use Rattle.script.specs.declared.header.Header.{Header}
use Rattle.std.specs.declared.ops.Range.{Range}

-- "script under 24 or over 61,440 bytes, more than 2,048 events, image over 32,768 or not a multiple of 4,096"
abbrev pub BadHeader : ℕ → Header → Type 0
BadHeader n h = ((n < header_least) ⊎ (61440 < n)) ⊎ (((2048 < h.events) ⊎ (32768 < h.image)) ⊎ (h.image % 4096 ≢ 0))

-- "base or length not a multiple of 4,096, or base + length above 0xFFFF0000"
abbrev pub BadMap : Header → Type 0
BadMap h = ((h.base % 4096 ≢ 0) ⊎ (h.image % 4096 ≢ 0)) ⊎ (0xFFFF_0000 < h.base + h.image)

abbrev pub Misplaced : Header → ℕ → Range ℕ → Type 0
Misplaced h n p = (p.start ≢ p.end) × ((p.start < header_size h) ⊎ (n < p.end))

abbrev pub Within : ℕ → Range ℕ → Type 0
Within k p = (p.start ≤ k) × (k < p.end)

abbrev pub Overlap : Range ℕ → Range ℕ → Type 0
Overlap p q = (k : ℕ) × Within k p × Within k q

-- "a non-empty section starts before byte 24, ends after the script, or overlaps the other"
abbrev pub BadSections : ℕ → Header → Type 0
BadSections n h = (Misplaced h n (events_section h) ⊎ Misplaced h n (image_section h)) ⊎ Overlap (events_section h) (image_section h)

pub record Meaning : Type 0 where
  -- refusal 4
  pub header : (s : List ℕ) → (script_of s ≡ Err refusal.Header) ↔ BadHeader (length s) (header_at s)
  -- refusal 2, where 4 is not due
  pub map : (s : List ℕ) → (script_of s ≡ Err refusal.Map) ↔ ((BadHeader (length s) (header_at s) → ⊥) × BadMap (header_at s))
  -- refusal 5, where neither is due
  pub section : (s : List ℕ) →
      (script_of s ≡ Err refusal.Section)
      ↔ ((BadHeader (length s) (header_at s) → ⊥) × (BadMap (header_at s) → ⊥) × BadSections (length s) (header_at s))
  -- no refusal
  pub good : (s : List ℕ) →
      (script_of s ≡ Ok (header_at s))
      ↔ ((BadHeader (length s) (header_at s) → ⊥) × (BadMap (header_at s) → ⊥) × (BadSections (length s) (header_at s) → ⊥))
  -- "The image is the first content of the memory": as many bytes as the memory has, each the script's
  pub image_length : (s : List ℕ) (at n : ℕ) → length (bytes_from s at n) ≡ n
  pub image_bytes : (s : List ℕ) (at n k : ℕ) → k < n → slice_index (bytes_from s at n) k ≡ slice_index s (at + k)
  -- of a good script every event lies inside, and the image is the script's bytes as they stand there
  pub event_inside : (s : List ℕ) (h : Header) (k : ℕ) → script_of s ≡ Ok h → k < h.events → event_place h k + 12 ≤ length s
  pub image_is : (s : List ℕ) (h : Header) → script_of s ≡ Ok h → bytes_from s h.image_at h.image ≡ take h.image (drop h.image_at s)
