-- A run where the machine's words stand.
--
--   no_run at                                           == what a slice of another length answers: no line, at the place where the listing would start
--   Runs l l' base bytes s first n out at r bytes' out' == n events of the script s take the words l and the memory's bytes to l' and bytes'; the
--                                                          buffer has their listing from place `at` on, and r is where it ends and what its lines come to
--   RunsAny                                             == the same over any number of words
use Rattle.std.specs.Prelude.{◌≡◌, ℕ, List, ◌++◌}
use Rattle.listing.specs.Listing.{lines_from, end_text}
use Rattle.memory.specs.Memory.{lent}
use Rattle.text.specs.Text.{written}
use Rattle.layout.specs.Words.{Over}
use Rattle.machine.specs.Flat.{state_words, machine_at}
use Rattle.machine.specs.Run.{Run, run_from}
use Rattle.machine.specs.Totals.{no_totals, totals_from}
use Rattle.machine.specs.declared.flat.run.Listed.{Listed}

abbrev pub no_run : ℕ → Listed
no_run at = record { place = at; totals = no_totals }

-- what a run comes to
abbrev pub Comes : Run → List ℕ → List ℕ → ℕ → ℕ → Listed → List ℕ → List ℕ → Type 0
Comes R l' out at n r bytes' out' =
    (machine_at l' ≡ R.machine)
    × (bytes' ≡ R.memory.bytes)
    × ((out', r.place) ≡ written (out, at) (lines_from 0 R.lines ++ end_text n))
    × (r.totals ≡ totals_from no_totals R.lines)

abbrev pub Runs : List ℕ → List ℕ → ℕ → List ℕ → List ℕ → ℕ → ℕ → List ℕ → ℕ → Listed → List ℕ → List ℕ → Type 0
Runs l l' base bytes s first n out at r bytes' out' = Comes (run_from n s first (machine_at l) (lent base bytes)) l' out at n r bytes' out'

-- the same over any words
abbrev pub RunsAny : List ℕ → List ℕ → ℕ → List ℕ → List ℕ → ℕ → ℕ → List ℕ → ℕ → Listed → List ℕ → List ℕ → Type 0
RunsAny l l' base bytes s first n out at r bytes' out' =
    Over {R = Listed × List ℕ × List ℕ} state_words l l' (r, bytes', out') (no_run at, bytes, out) (Runs l l' base bytes s first n out at r bytes' out')
