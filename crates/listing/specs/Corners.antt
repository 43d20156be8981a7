-- Document 01's whole case and other lines, computed from the definitions.
--
--   a_line letter digits stall reads == a line; 86 is V, 88 X, 66 B, 78 N
--   Corners                          == the figures, one field each
use Rattle.std.specs.Prelude.{ℕ, ◌≡◌, [], ◌∷◌}
use Rattle.listing.specs.Listing.{ascii, line_text, refused_text, listing_text}
use Rattle.listing.specs.declared.Line.{Line}

abbrev pub a_line : ℕ → ℕ → ℕ → ℕ → Line
a_line letter digits stall reads = record { letter = letter; digits = digits; stall = stall; reads = reads }

pub record Corners : Type 0 where
  pub whole_case :
      listing_text (a_line 86 0x0102_0304 8 0 ∷ a_line 86 0 0 0 ∷ a_line 78 3 0 0 ∷ a_line 66 0 0 0 ∷ [])
      ≡ ascii "0 V 01020304 8 0\n1 V 00000000 0 0\n2 N 00000003 0 0\n3 B 00000000 0 0\nend 4\n"
  pub no_event : listing_text [] ≡ ascii "end 0\n"
  pub long : line_text 2047 (a_line 88 0xFEDC_BA98 10 0) ≡ ascii "2047 X FEDCBA98 10 0\n"
  pub refused : refused_text 4 ≡ ascii "refused 4\n"
