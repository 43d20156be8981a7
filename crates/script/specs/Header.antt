-- A script's header and when a script is refused: document 01, 'Event script and its listing' and 'Numbered refusals'.
--
--   header_least     == the bytes of the shortest header: six words
--   header_size h    == the bytes of this header
--   header_at s      == the header's words, "event count, events offset, image length, image offset, physical base, miss penalty"
--   length_ok n      == a script of n bytes is neither too short nor too long: the first half of refusal 4
--   counts_ok h      == neither too many events nor a bad image length: the second half of refusal 4
--   events_section h == where the events stand; an event has 12 bytes
--   image_section h  == where the image stands
--   empty p          == the section has no byte
--   section_ok z n p == an empty section, or one between a header of z bytes and the end of a script of n bytes
--   apart p q        == the sections share no byte
--   sections_ok n h  == both sections are good and apart: refusal 5 is not due
--   decided n h      == what becomes of a script of n bytes with this header: refusal 4, then 2, then 5, else good
--   script_of s      == the same of the script's bytes
--   event_place h k  == where event k starts
--
-- Choices that a reader may question. A section is its start and its end, a true sum, so nothing wraps. The map is tested by
-- memory's own definition. A script that is too short has header words all the same, of zeros past its end; they decide nothing.
use Rattle.std.specs.Prelude.{ℕ, ◌+◌, ◌*◌, ◌%◌, Bool, cond, ◌&&◌, ◌||◌, List, length, ◌==◌, nat_le, Result, Ok, Err}
use Rattle.common.specs.declared.Refusal.TheVariants as refusal
use Rattle.memory.specs.Memory.{good_map}
use Rattle.script.specs.Event.{word_of}
use Rattle.script.specs.declared.header.Header.{Header}
use Rattle.std.specs.declared.ops.Range.{Range}
use Rattle.common.specs.declared.Refusal.{Refusal}
pub mod Laws

abbrev pub header_least : ℕ
header_least = 24

abbrev pub header_size : Header → ℕ
header_size h = header_least

unfoldable pub header_at : List ℕ → Header
header_at s =
    record {
      events = word_of s 0 0;
      events_at = word_of s 0 4;
      image = word_of s 0 8;
      image_at = word_of s 0 12;
      base = word_of s 0 16;
      penalty = word_of s 0 20;
    }

-- "script under 24 or over 61,440 bytes"
unfoldable pub length_ok : ℕ → Bool
length_ok n = nat_le header_least n && nat_le n 61440

-- "more than 2,048 events, image over 32,768 or not a multiple of 4,096"
unfoldable pub counts_ok : Header → Bool
counts_ok h = nat_le h.events 2048 && nat_le h.image 32768 && h.image % 4096 == 0

-- where event k starts
abbrev pub event_place : Header → ℕ → ℕ
event_place h k = h.events_at + 12 * k

abbrev pub events_section : Header → Range ℕ
events_section h = record { start = h.events_at; end = event_place h h.events }

abbrev pub image_section : Header → Range ℕ
image_section h = record { start = h.image_at; end = h.image_at + h.image }

abbrev pub empty : Range ℕ → Bool
empty p = p.start == p.end

-- "a non-empty section starts before byte 24, ends after the script"
unfoldable pub section_ok : ℕ → ℕ → Range ℕ → Bool
section_ok z n p = empty p || (nat_le z p.start && nat_le p.end n)

-- "or overlaps the other"
unfoldable pub apart : Range ℕ → Range ℕ → Bool
apart p q = empty p || empty q || nat_le p.end q.start || nat_le q.end p.start

unfoldable pub sections_ok : ℕ → Header → Bool
sections_ok n h = section_ok (header_size h) n (events_section h) && section_ok (header_size h) n (image_section h) && apart (events_section h) (image_section h)

-- "For a script 4, 2, 5"
unfoldable pub decided : ℕ → Header → Result Header Refusal
decided n h =
    cond (length_ok n && counts_ok h)
    (cond (good_map h.base h.image)
    (cond (sections_ok n h) (Ok h) (Err refusal.Section))
    (Err refusal.Map))
    (Err refusal.Header)

unfoldable pub script_of : List ℕ → Result Header Refusal
script_of s = decided (length s) (header_at s)
