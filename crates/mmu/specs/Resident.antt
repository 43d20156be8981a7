-- What a TLB holds that the checks alone have filled: change request W-209.
--
--   in_slot t i == the entry in slot i
--   Orderly t   == no two valid entries have the same virtual page, and none has a page at or above 0xFFFF0000
use Rattle.std.specs.Prelude.{◌≡◌, ℕ, ◌*◌, ◌<◌, true, List, slice_index_or}
use Rattle.mmu.specs.Tlb.{no_entry}
use Rattle.mmu.specs.declared.tlb.TlbEntry.{TlbEntry}
pub mod Laws

abbrev pub in_slot : List TlbEntry → ℕ → TlbEntry
in_slot t i = slice_index_or t i no_entry

pub record Orderly (t : List TlbEntry) : Type 0 where
  -- "no two valid TLB entries have the same virtual page"
  pub one : (i j : ℕ) → (in_slot t i).valid ≡ true → (in_slot t j).valid ≡ true → (in_slot t i).vpn ≡ (in_slot t j).vpn → i ≡ j
  -- "and none has a page at or above 0xFFFF0000"
  pub low : (i : ℕ) → (in_slot t i).valid ≡ true → (in_slot t i).vpn * 4096 < 0xFFFF_0000
