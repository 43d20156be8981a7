-- Texts that are written one after the other, by what the calls left. Assumes nothing.
use Rattle.std.proofs.Common.{ℕ, ◌≡◌, sym, ap, ◌∙◌, List, [], ◌∷◌, ◌++◌, append_assoc}
use Rattle.text.specs.Text.{written, hex_of, decimal_of}
use Rattle.text.specs.Text.Laws.{written_append}
use Rattle.listing.specs.Listing.{newline, spaced, line_text, numbered}
use Rattle.listing.specs.declared.Line.{Line}

chain : (w w₁ w₂ : List ℕ × ℕ) (s t : List ℕ) → w₁ ≡ written w s → w₂ ≡ written w₁ t → w₂ ≡ written w (s ++ t)
chain w w₁ w₂ s t p q = q ∙ ap (λ (x : List ℕ × ℕ). written x t) p ∙ sym (written_append w s t)

regroup : (s c d e n : List ℕ) → s ++ c ++ (d ++ e ++ n) ≡ s ++ c ++ d ++ e ++ n
regroup s c d e n = simp append_assoc

-- a call left (o₁, a₁) of (o, a), the next (o₂, a₂), and the last (o₃, a₃)
module _ (o : List ℕ) (a : ℕ) (o₁ : List ℕ) (a₁ : ℕ) (o₂ : List ℕ) (a₂ : ℕ) where
  pub spaced_written : (t : List ℕ) → (o₁, a₁) ≡ written (o, a) (spaced []) → (o₂, a₂) ≡ written (o₁, a₁) t → (o₂, a₂) ≡ written (o, a) (spaced t)
  spaced_written t p q = chain (o, a) (o₁, a₁) (o₂, a₂) (spaced []) t p q

  module _ (o₃ : List ℕ) (a₃ : ℕ) where
    pub mark_written : (i letter : ℕ) → (o₁, a₁) ≡ written (o, a) (decimal_of i) → (o₂, a₂) ≡ written (o₁, a₁) (spaced [])
        → (o₃, a₃) ≡ written (o₂, a₂) (letter ∷ []) → (o₃, a₃) ≡ written (o, a) (decimal_of i ++ spaced (letter ∷ []))
    mark_written i letter p q r =
        chain (o, a) (o₁, a₁) (o₃, a₃) (decimal_of i) (spaced (letter ∷ [])) p (chain (o₁, a₁) (o₂, a₂) (o₃, a₃) (spaced []) (letter ∷ []) q r)

    three : (s t u : List ℕ) → (o₁, a₁) ≡ written (o, a) s → (o₂, a₂) ≡ written (o₁, a₁) t → (o₃, a₃) ≡ written (o₂, a₂) u
        → (o₃, a₃) ≡ written (o, a) (s ++ t ++ u)
    three s t u p q r = chain (o, a) (o₂, a₂) (o₃, a₃) (s ++ t) u (chain (o, a) (o₁, a₁) (o₂, a₂) s t p q) r

    pub costs_written : (stall reads : ℕ) → (o₁, a₁) ≡ written (o, a) (spaced (decimal_of stall)) → (o₂, a₂) ≡ written (o₁, a₁) (spaced (decimal_of reads))
        → (o₃, a₃) ≡ written (o₂, a₂) newline → (o₃, a₃) ≡ written (o, a) (spaced (decimal_of stall) ++ spaced (decimal_of reads) ++ newline)
    costs_written stall reads = three (spaced (decimal_of stall)) (spaced (decimal_of reads)) newline

    pub numbered_written : (word : List ℕ) (n : ℕ) → (o₁, a₁) ≡ written (o, a) word → (o₂, a₂) ≡ written (o₁, a₁) (decimal_of n)
        → (o₃, a₃) ≡ written (o₂, a₂) newline → (o₃, a₃) ≡ written (o, a) (numbered word n)
    numbered_written word n = three word (decimal_of n) newline

    pub line_written : (i : ℕ) (l : Line) → (o₁, a₁) ≡ written (o, a) (decimal_of i ++ spaced (l.letter ∷ []))
        → (o₂, a₂) ≡ written (o₁, a₁) (spaced (hex_of 8 l.digits))
        → (o₃, a₃) ≡ written (o₂, a₂) (spaced (decimal_of l.stall) ++ spaced (decimal_of l.reads) ++ newline)
        → (o₃, a₃) ≡ written (o, a) (line_text i l)
    unfolding line_text
    line_written i l p q r =
        let mark = decimal_of i ++ spaced (l.letter ∷ []) in
        let digits = spaced (hex_of 8 l.digits) in
        three mark digits (spaced (decimal_of l.stall) ++ spaced (decimal_of l.reads) ++ newline) p q r
        ∙ ap (written (o, a)) (regroup mark digits (spaced (decimal_of l.stall)) (spaced (decimal_of l.reads)) newline)
