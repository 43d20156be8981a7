-- Scripts at the limits of the refusals, and document 01's whole case, each computed from the definitions.
--
--   a_header events eventsAt image imageAt base == a header of these words, with penalty 8
--   IsGood n h, Is4 n h, Is2 n h, Is5 n h       == what becomes of a script of n bytes with header h
--   whole_case, whole_header                    == the bytes of the whole case, and its header
--   an_event kind size aux a                    == an event with b 0
--   Corners                                     == the figures, one field each
use Rattle.std.specs.Prelude.{◌≡◌, ℕ, List, [], ◌∷◌, ◌++◌, replicate, Ok, Err}
use Rattle.common.specs.declared.Refusal.TheVariants as refusal
use Rattle.script.specs.Event.{event_at}
use Rattle.script.specs.Header.{event_place, decided, script_of}
use Rattle.script.specs.Image.{bytes_from}
use Rattle.script.specs.declared.Event.{Event}
use Rattle.script.specs.declared.header.Header.{Header}

abbrev pub a_header : ℕ → ℕ → ℕ → ℕ → ℕ → Header
a_header events eventsAt image imageAt base =
    record { events = events; events_at = eventsAt; image = image; image_at = imageAt; base = base; penalty = 8 }

abbrev pub IsGood : ℕ → Header → Type 0
IsGood n h = decided n h ≡ Ok h

abbrev pub Is4 : ℕ → Header → Type 0
Is4 n h = decided n h ≡ Err refusal.Header

abbrev pub Is2 : ℕ → Header → Type 0
Is2 n h = decided n h ≡ Err refusal.Map

abbrev pub Is5 : ℕ → Header → Type 0
Is5 n h = decided n h ≡ Err refusal.Section

-- "events at 24, image at 72, base 0, image 4,096 bytes starting 01 02 03 04 and then zeros, penalty 8, unnamed fields 0; load 4 at
-- 0, load 4 at 0x1C, write register 0x13, load 4 at 0x1000"
unfoldable pub whole_case : List ℕ
whole_case =
    (0 ∷ 0 ∷ 0 ∷ 4 ∷ [])
    ++ (0 ∷ 0 ∷ 0 ∷ 24 ∷ [])
    ++ (0 ∷ 0 ∷ 0x10 ∷ 0 ∷ [])
    ++ (0 ∷ 0 ∷ 0 ∷ 72 ∷ [])
    ++ (0 ∷ 0 ∷ 0 ∷ 0 ∷ [])
    ++ (0 ∷ 0 ∷ 0 ∷ 8 ∷ [])
    ++ (0 ∷ 4 ∷ 0 ∷ 0 ∷ 0 ∷ 0 ∷ 0 ∷ 0 ∷ 0 ∷ 0 ∷ 0 ∷ 0 ∷ [])
    ++ (0 ∷ 4 ∷ 0 ∷ 0 ∷ 0 ∷ 0 ∷ 0 ∷ 0x1C ∷ 0 ∷ 0 ∷ 0 ∷ 0 ∷ [])
    ++ (6 ∷ 0 ∷ 0 ∷ 0x13 ∷ 0 ∷ 0 ∷ 0 ∷ 0 ∷ 0 ∷ 0 ∷ 0 ∷ 0 ∷ [])
    ++ (0 ∷ 4 ∷ 0 ∷ 0 ∷ 0 ∷ 0 ∷ 0x10 ∷ 0 ∷ 0 ∷ 0 ∷ 0 ∷ 0 ∷ [])
    ++ (1 ∷ 2 ∷ 3 ∷ 4 ∷ [])
    ++ replicate 4092 0

abbrev pub whole_header : Header
whole_header = a_header 4 24 4096 72 0

abbrev pub an_event : ℕ → ℕ → ℕ → ℕ → Event
an_event kind size aux a = record { kind = kind; size = size; aux = aux; a = a; b = 0 }

pub record Corners : Type 0 where
  pub whole_header_lem : script_of whole_case ≡ Ok whole_header
  pub whole_events :
      (event_at whole_case (event_place whole_header 0) ≡ an_event 0 4 0 0)
      × (event_at whole_case (event_place whole_header 1) ≡ an_event 0 4 0 0x1C)
      × (event_at whole_case (event_place whole_header 2) ≡ an_event 6 0 0x13 0)
      × (event_at whole_case (event_place whole_header 3) ≡ an_event 0 4 0 0x1000)
  pub whole_image : bytes_from whole_case 72 5 ≡ 1 ∷ 2 ∷ 3 ∷ 4 ∷ 0 ∷ []
  -- "script under 24 or over 61,440 bytes", whatever else it holds
  pub short : (h : Header) → Is4 23 h
  pub long : (h : Header) → Is4 61441 h
  pub lengths : IsGood 24 (a_header 0 0 0 0 0) × IsGood 61440 (a_header 0 0 0 0 0)
  -- "more than 2,048 events"; a first word with its top bit set is more
  pub events : IsGood 24600 (a_header 2048 24 0 0 0) × Is4 61440 (a_header 2049 24 0 0 0) × Is4 24 (a_header 0x8000_0000 24 0 0 0)
  -- "image over 32,768 or not a multiple of 4,096"
  pub image : IsGood 32792 (a_header 0 0 32768 24 0) × Is4 61440 (a_header 0 0 36864 24 0) × Is4 61440 (a_header 0 0 4095 24 0)
  -- "A map of length 0 is good", where its base is
  pub no_length : IsGood 24 (a_header 0 0 0 0 0xFFFF_0000) × Is2 24 (a_header 0 0 0 0 1) × Is2 24 (a_header 0 0 0 0 0xFFFF_1000)
  -- base + length is a true sum
  pub map_end : IsGood 4120 (a_header 0 0 4096 24 0xFFFE_F000) × Is2 4120 (a_header 0 0 4096 24 0xFFFF_0000) × Is2 4120 (a_header 0 0 4096 24 0xFFFF_F000)
  -- "starts before byte 24, ends after the script", by a byte each
  pub start : IsGood 36 (a_header 1 24 0 0 0) × Is5 36 (a_header 1 23 0 0 0) × Is5 4120 (a_header 0 0 4096 23 0)
  pub end : Is5 35 (a_header 1 24 0 0 0) × Is5 4119 (a_header 0 0 4096 24 0)
  -- a section's end is a true sum: 0xFFFFF018 + 4,096 is not 24
  pub no_wrap : Is5 4120 (a_header 0 0 4096 0xFFFF_F018 0) × Is5 36 (a_header 2 0xFFFF_FFF4 0 0 0)
  -- "overlaps the other", by a byte; sections that touch do not, in either order
  pub overlap : Is5 4132 (a_header 1 24 4096 35 0) × Is5 4132 (a_header 1 4119 4096 24 0)
  pub touch : IsGood 4132 (a_header 1 24 4096 36 0) × IsGood 4132 (a_header 1 4120 4096 24 0)
  -- an empty section stands anywhere, also in the other
  pub empty : IsGood 4120 (a_header 0 0xFFFF_FFFF 4096 24 0) × IsGood 4120 (a_header 0 100 4096 24 0) × IsGood 36 (a_header 1 24 0 25 0)
  -- "For a script 4, 2, 5"
  pub order : Is4 24 (a_header 2049 0 0 0 1) × Is2 24 (a_header 1 0 0 0 1) × Is5 24 (a_header 1 0 0 0 0)
