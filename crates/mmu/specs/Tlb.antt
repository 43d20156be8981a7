-- The TLB: sixteen entries, of any page numbers. Document 01, 'Access and translation'; `lookup`, `fill`, `invalidate` and `flush`
-- of cpu_privilege.rs.
--
--   matches vpn e       == e is valid and is page vpn's
--   first_match vpn i l == the slot of the first entry of l that matches, counted from i, or None
--   dropped_page vpn l  == the entries of page vpn without their valid mark, valid or not before
--   no_entries          == sixteen entries of zeros
use Rattle.std.specs.Prelude.{ℕ, suc, Bool, false, cond, ◌&&◌, List, [], ◌∷◌, map, replicate, ◌==◌, Option, Some, None}
use Rattle.mmu.specs.declared.tlb.TlbEntry.{TlbEntry}
pub mod Laws

abbrev pub no_entry : TlbEntry
no_entry = record { valid = false; vpn = 0; ppn = 0; flags = 0 }

unfoldable pub no_entries : List TlbEntry
no_entries = replicate 16 no_entry

unfoldable pub matches : ℕ → TlbEntry → Bool
matches vpn e = e.valid && e.vpn == vpn

unfoldable pub first_match : ℕ → ℕ → List TlbEntry → Option ℕ
first_match vpn i [] = None
first_match vpn i (e ∷ l) = cond (matches vpn e) (Some i) (first_match vpn (suc i) l)

abbrev pub unmarked : TlbEntry → TlbEntry
unmarked e = record { valid = false; vpn = e.vpn; ppn = e.ppn; flags = e.flags }

unfoldable pub dropped : ℕ → TlbEntry → TlbEntry
dropped vpn e = cond (e.vpn == vpn) (unmarked e) e

unfoldable pub dropped_page : ℕ → List TlbEntry → List TlbEntry
dropped_page vpn l = map (dropped vpn) l
