-- The search for a page's slot, as the loop makes it. Assumes nothing.
use Rattle.std.proofs.Common.{◌≡◌, ℕ, ◌+◌, ◌<◌, ◌≤◌, true, false, List, length, get_or, drop, sym, ◌∙◌, add-one, drop_of_length-le, drop-cons, eq-eqb, ne_eqb, Option, Some, None}
use Rattle.common.specs.Cases.{and_false}
use Rattle.mmu.specs.Tlb.{no_entry, matches, first_match}
use Rattle.mmu.specs.declared.tlb.TlbEntry.{TlbEntry}

module _ (z : Option ℕ) (vpn : ℕ) (l : List TlbEntry) (i : ℕ) (p : z ≡ first_match vpn i (drop i l)) where
  pub none_left : length l ≤ i → None ≡ z
  unfolding first_match
  none_left h = sym (p ∙ rw (drop_of_length-le l h))

  pub found_here : i < length l → (get_or l i no_entry).valid ≡ true → (get_or l i no_entry).vpn ≡ vpn → Some i ≡ z
  unfolding first_match matches
  found_here h v e = sym (p ∙ rw (drop-cons l i no_entry h, v, eq-eqb (get_or l i no_entry).vpn vpn e))

  next : i < length l → matches vpn (get_or l i no_entry) ≡ false → z ≡ first_match vpn (i + 1) (drop (i + 1) l)
  unfolding first_match
  next h e = p ∙ rw (drop-cons l i no_entry h, e, add-one)

  pub not_valid : i < length l → (get_or l i no_entry).valid ≡ false → z ≡ first_match vpn (i + 1) (drop (i + 1) l)
  unfolding matches
  not_valid h v = next h (rw v)

  pub other_page : i < length l → ((get_or l i no_entry).vpn ≡ vpn → ⊥) → z ≡ first_match vpn (i + 1) (drop (i + 1) l)
  unfolding matches
  other_page h e = next h (rw (ne_eqb (get_or l i no_entry).vpn vpn e, and_false))
