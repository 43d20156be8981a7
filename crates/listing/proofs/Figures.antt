-- The figures, by computing. Assumes nothing.
use Rattle.std.proofs.Common.{ℕ, ◌≡◌, refl, true, [], ◌∷◌, ltb}
use Rattle.text.specs.Text.{decimal_byte, decimal_of}
use Rattle.listing.specs.Listing.{ascii, line_text, end_text, refused_text, lines_from, listing_text}
use Rattle.text.specs.Text.Laws.{hex_eight, decimal_step}
use Rattle.listing.specs.Corners.{Corners}

one_digit : (v : ℕ) → ltb v 10 ≡ true → decimal_of v ≡ decimal_byte v ∷ []
one_digit v h = rw (decimal_step, h)

ten : decimal_of 10 ≡ ascii "10"
ten = rw (decimal_step, decimal_step)

last_index : decimal_of 2047 ≡ ascii "2047"
last_index = rw (decimal_step, decimal_step, decimal_step, decimal_step)

pub corners_hold : Corners
unfolding line_text end_text refused_text lines_from listing_text
corners_hold =
    record {
      whole_case = simp (hex_eight, one_digit 0 refl, one_digit 1 refl, one_digit 2 refl, one_digit 3 refl, one_digit 4 refl, one_digit 8 refl);
      no_event = simp (one_digit 0 refl);
      long = simp (hex_eight, last_index, ten, one_digit 0 refl);
      refused = simp (one_digit 4 refl);
    }
