-- The digits of a number in decimal, where the loop that makes them starts and ends. Assumes nothing.
use Rattle.std.proofs.Common.{ℕ, ◌-◌, ◌≤◌, ◌<◌, ◌≡◌, sym, ap, ◌∙◌, List, length, set, take, drop, arith, length-set, length-drop, drop_of_length-le, take_all}
use Rattle.text.specs.Text.{decimal_byte, decimal_before, decimal_of}
use Rattle.text.specs.Text.Laws.{decimal_last, decimal_full}

pub decimal_start : (v : ℕ) (l : List ℕ) → length l ≡ 20 → decimal_of v ≡ decimal_before 20 v (drop 20 l)
decimal_start v l n = let h : length l ≤ 20 = omega arith in ap (decimal_before 20 v) (sym (drop_of_length-le l h))

-- the digits are lent as the end of the buffer
pub decimal_lent : (z l : List ℕ) (first rest : ℕ) → 0 < first → first ≤ 20 → length l ≡ 20 → z ≡ decimal_before first rest (drop first l) → rest < 10
    → take (20 - (first - 1)) (drop (first - 1) (set l (first - 1) (decimal_byte rest))) ≡ z
decimal_lent z l first rest h g n p m =
    let all : length (drop (first - 1) (set l (first - 1) (decimal_byte rest))) ≤ 20 - (first - 1) =
    omega (arith, length-drop (first - 1) (set l (first - 1) (decimal_byte rest)), length-set l (first - 1) (decimal_byte rest)) in
    take_all (20 - (first - 1)) (drop (first - 1) (set l (first - 1) (decimal_byte rest))) all ∙ sym (decimal_last z l first rest h g n p m)

pub decimal_whole : (z l : List ℕ) (first rest : ℕ) → first ≤ 0 → z ≡ decimal_before first rest (drop first l) → l ≡ z
decimal_whole z l first rest h p = let e : first ≡ 0 = omega arith in sym (rw e at (decimal_full z l first rest h p))
