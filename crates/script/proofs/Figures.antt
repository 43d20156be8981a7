-- The figures, by computing. Assumes nothing.
use Rattle.std.proofs.Common.{refl}
use Rattle.script.specs.Event.{half_of, word_of, event_at}
use Rattle.script.specs.Header.{header_at, length_ok, counts_ok, section_ok, apart, sections_ok, decided, script_of}
use Rattle.script.specs.Image.{bytes_from}
use Rattle.script.specs.Corners.{whole_case, Corners}
use Rattle.memory.specs.Memory.Laws.{good_map_is}

pub corners_hold : Corners
unfolding half_of word_of event_at header_at length_ok counts_ok section_ok apart sections_ok decided script_of bytes_from whole_case
corners_hold =
    record {
      whole_header_lem = rw good_map_is;
      whole_events = (refl, refl, refl, refl);
      whole_image = refl;
      short = λ h. refl;
      long = λ h. refl;
      lengths = (rw good_map_is, rw good_map_is);
      events = (rw good_map_is, refl, refl);
      image = (rw good_map_is, refl, refl);
      no_length = (rw good_map_is, rw good_map_is, rw good_map_is);
      map_end = (rw good_map_is, rw good_map_is, rw good_map_is);
      start = (rw good_map_is, rw good_map_is, rw good_map_is);
      end = (rw good_map_is, rw good_map_is);
      no_wrap = (rw good_map_is, rw good_map_is);
      overlap = (rw good_map_is, rw good_map_is);
      touch = (rw good_map_is, rw good_map_is);
      empty = (rw good_map_is, rw good_map_is, rw good_map_is);
      order = (refl, rw good_map_is, rw good_map_is);
    }
