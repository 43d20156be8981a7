-- What a run's lines come to.
--
--   no_totals        == before the first line
--   counted t l      == one line more: its letter counted, its digits added modulo 2^32, its stall and walk reads modulo 2^64
--   totals_from t ls == the lines ls, after t
use Rattle.std.specs.Prelude.{ℕ, ◌+◌, ◌%◌, ◌^◌, Bool, cond, List, [], ◌∷◌, ◌==◌}
use Rattle.listing.specs.declared.Line.{Line}
use Rattle.machine.specs.declared.totals.Totals.{Totals}

abbrev pub no_totals : Totals
no_totals = record { values = 0; exceptions = 0; bus_errors = 0; refusals = 0; digits = 0; stall = 0; reads = 0 }

abbrev more_if : Bool → ℕ → ℕ
more_if is n = cond is ((n + 1) % 2 ^ 64) n

-- 'V' is 86, 'X' 88, 'B' 66, 'N' 78
abbrev pub counted : Totals → Line → Totals
counted t l =
    record {
      values = more_if (l.letter == 86) t.values;
      exceptions = more_if (l.letter == 88) t.exceptions;
      bus_errors = more_if (l.letter == 66) t.bus_errors;
      refusals = more_if (l.letter == 78) t.refusals;
      digits = (t.digits + l.digits) % 2 ^ 32;
      stall = (t.stall + l.stall) % 2 ^ 64;
      reads = (t.reads + l.reads) % 2 ^ 64;
    }

unfoldable pub totals_from : Totals → List Line → Totals
totals_from t [] = t
totals_from t (l ∷ ls) = totals_from (counted t l) ls
