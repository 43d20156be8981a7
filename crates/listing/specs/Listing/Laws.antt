-- The laws of a listing that the runner above uses. Assumes nothing.
--
--   listing_is               == a listing is its lines and the last line
--   lines_next, lines_done   == a listing that is written line by line: one line more, and the last line
--   listing_fits             == 2,048 lines and the last fit into 131,072 bytes
--   refused_fits             == so does the line of a refused script
--   shown                    == text that fits is what the buffer holds up to the place that comes back
use Rattle.std.specs.Prelude.{ℕ, suc, ◌+◌, ◌*◌, ◌≤◌, ◌<◌, ◌≡◌, refl, List, [], ◌∷◌, ◌++◌, length, take, drop}
use Rattle.std.proofs.Common.{sym, ap, ◌∙◌, append_assoc, add-one, arith, lit<, length-append}
use Rattle.std.proofs.lemmas.List.Edits.{sets, sets-eq}
use Rattle.std.proofs.Math.Seq.{take-append_seam}
use Rattle.text.specs.Text.{written}
use Rattle.text.specs.Text.Laws.{written_append, written_fits, hex_length, decimal_length, decimal_below}
use Rattle.listing.specs.Listing.{line_text, end_text, refused_text, lines_from, listing_text}
use Rattle.listing.specs.declared.Line.{Line}

-- ---- a listing that is written line by line

pub listing_is : (ls : List Line) → listing_text ls ≡ lines_from 0 ls ++ end_text (length ls)
unfolding listing_text
listing_is ls = refl

pub lines_next : (z : List ℕ × ℕ) (out : List ℕ) (at i : ℕ) (l : Line) (ls : List Line) (last out' : List ℕ) (at' : ℕ)
    → z ≡ written (out, at) (lines_from i (l ∷ ls) ++ last) → (out', at') ≡ written (out, at) (line_text i l)
    → z ≡ written (out', at') (lines_from (i + 1) ls ++ last)
unfolding lines_from
lines_next z out at i l ls last out' at' p q =
    p
    ∙ ap (written (out, at)) (append_assoc (line_text i l) (lines_from (suc i) ls) last)
    ∙ written_append (out, at) (line_text i l) (lines_from (suc i) ls ++ last)
    ∙ rw (add-one) (ap (λ (w : List ℕ × ℕ). written w (lines_from (suc i) ls ++ last)) (sym q))

pub lines_done : (z : List ℕ × ℕ) (out : List ℕ) (at i : ℕ) (last out' : List ℕ) (at' : ℕ)
    → z ≡ written (out, at) (lines_from i [] ++ last) → (out', at') ≡ written (out, at) last → (out', at') ≡ z
unfolding lines_from
lines_done z out at i last out' at' p q = q ∙ sym p

-- ---- how long it is

-- index 4, letter 1, digits 8, stall and walk reads 20 each, four blanks and a newline
line_length : (i : ℕ) (l : Line) → i < 10000 → length (line_text i l) ≤ 58
unfolding line_text
line_length i l h =
    simp length-append
    (omega (arith, decimal_below 4 i (lit< tt) h, hex_length 8 l.digits, decimal_length l.stall, decimal_length l.reads))

lines_length : (i : ℕ) (ls : List Line) → i + length ls ≤ 10000 → length (lines_from i ls) ≤ 58 * length ls
unfolding lines_from
lines_length i [] h = omega arith
lines_length i (l ∷ ls) h =
    simp length-append (omega (arith, line_length i l (omega arith), lines_length (suc i) ls (omega arith)))

pub listing_fits : (ls : List Line) → length ls ≤ 2048 → length (listing_text ls) ≤ 131072
unfolding listing_text end_text
listing_fits ls h = simp length-append (omega (arith, lines_length 0 ls (omega arith), decimal_length (length ls)))

pub refused_fits : (n : ℕ) → length (refused_text n) ≤ 131072
unfolding refused_text
refused_fits n = simp length-append (omega (arith, decimal_length n))

-- ---- what the buffer then holds

pub shown : (out text out' : List ℕ) (n : ℕ) → length text ≤ length out → (out', n) ≡ written (out, 0) text → (n ≡ length text) × (take n out' ≡ text)
shown out text out' n h p =
    let e : ◌≡◌ {A = List ℕ × ℕ} (out', n) (sets out 0 text, 0 + length text) = p ∙ written_fits out 0 text (omega arith) in
    let place : n ≡ length text = ap (λ (w : List ℕ × ℕ). w.1) e ∙ omega arith in
    let content : out' ≡ text ++ drop (0 + length text) out = ap (λ (w : List ℕ × ℕ). w.0) e ∙ sets-eq text out 0 (omega arith) in
    (place, rw (place, content) (take-append_seam text (drop (0 + length text) out)))
