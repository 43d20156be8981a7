-- The text of a run: document 01, 'Event script and its listing'.
--
--   line c d stall reads == what one event shows: its letter, digits, stall and walk reads
--   ascii t              == a text's bytes, one a character
--   newline              == the end of a line
--   spaced t             == the text after a blank
--   line_text i l        == the line of event i: "index, letter .., eight upper-case hex digits .., stall, walk reads, these and the index
--                           decimal"
--   numbered word n      == a line of a word and a number
--   end_text n           == "Last, `end` and the count"
--   refused_text n       == "A refused script prints only `refused` and its number"
--   lines_from i ls      == the lines ls one after the other, the first with index i
--   listing_text ls      == a run's whole listing
--
-- Choices that a reader may question. Fields are separated by one blank and every line ends in a newline, the last one too. A number
-- has no leading zeros but where it has eight digits. The count is the number of lines.
use Rattle.std.specs.Prelude.{ℕ, suc, List, [], ◌∷◌, ◌++◌, length}
use Prim.Native.Char.{code}
use Prim.Native.String.{String, [] as none, ◌∷◌ as ◌then◌}
use Rattle.text.specs.Text.{hex_of, decimal_of}
use Rattle.listing.specs.declared.Line.{Line}
pub mod Laws

abbrev pub line : ℕ → ℕ → ℕ → ℕ → Line
line letter digits stall reads = record { letter = letter; digits = digits; stall = stall; reads = reads }

abbrev pub ascii : String → List ℕ
ascii none = []
ascii (c then t) = code c ∷ ascii t

abbrev pub newline : List ℕ
newline = ascii "\n"

abbrev pub spaced : List ℕ → List ℕ
spaced t = ascii " " ++ t

unfoldable pub line_text : ℕ → Line → List ℕ
line_text i l =
    decimal_of i
    ++ spaced (l.letter ∷ [])
    ++ spaced (hex_of 8 l.digits)
    ++ spaced (decimal_of l.stall)
    ++ spaced (decimal_of l.reads)
    ++ newline

abbrev pub numbered : List ℕ → ℕ → List ℕ
numbered word n = word ++ decimal_of n ++ newline

unfoldable pub end_text : ℕ → List ℕ
end_text n = numbered (ascii "end ") n

unfoldable pub refused_text : ℕ → List ℕ
refused_text n = numbered (ascii "refused ") n

unfoldable pub lines_from : ℕ → List Line → List ℕ
lines_from i [] = []
lines_from i (l ∷ ls) = line_text i l ++ lines_from (suc i) ls

unfoldable pub listing_text : List Line → List ℕ
listing_text ls = lines_from 0 ls ++ end_text (length ls)
