-- The totals of a run's lines. Assumes nothing.
use Rattle.std.proofs.Common.{◌≡◌, ℕ, ◌+◌, ◌%◌, ◌^◌, cond, eqb, ne_eqb}
use Rattle.listing.specs.declared.Line.{Line}
use Rattle.machine.specs.Totals.{counted}
use Rattle.machine.specs.declared.totals.Totals.{Totals}

module _ (t : Totals) (l : Line) (e f g : ℕ) (u : e ≡ (t.digits + l.digits) % 2 ^ 32) (v : f ≡ (t.stall + l.stall) % 2 ^ 64) (w : g ≡ (t.reads + l.reads) % 2 ^ 64) where
  pub counted_value : (a : ℕ) → l.letter ≡ 86 → a ≡ (t.values + 1) % 2 ^ 64
      → record { values = a; exceptions = t.exceptions; bus_errors = t.bus_errors; refusals = t.refusals; digits = e; stall = f; reads = g } ≡ counted t l
  counted_value a h p = rw (h, p, u, v, w)

  pub counted_other : (b c d : ℕ) → (l.letter ≡ 86 → ⊥) → b ≡ cond (eqb l.letter 88) ((t.exceptions + 1) % 2 ^ 64) t.exceptions
      → c ≡ cond (eqb l.letter 66) ((t.bus_errors + 1) % 2 ^ 64) t.bus_errors
      → d ≡ cond (eqb l.letter 78) ((t.refusals + 1) % 2 ^ 64) t.refusals
      → record { values = t.values; exceptions = b; bus_errors = c; refusals = d; digits = e; stall = f; reads = g } ≡ counted t l
  counted_other b c d h q r s = rw (ne_eqb l.letter 86 h, q, r, s, u, v, w)
