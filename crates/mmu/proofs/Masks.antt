-- A table word's bits, as the code tests them by masks. Assumes nothing.
use Rattle.std.proofs.Common.{◌≡◌, ℕ, ◌/◌, ◌%◌, ◌^◌, true, false, not, eqb, sym, eq-eqb, ne_eqb}
use lib.Bits.{bit_and, and_high}
use Rattle.common.specs.Bits.Laws.{clear_bit, set_bit, flag_is, field_is}
use Rattle.mmu.specs.Walk.{table_ok, leaf_ok, leaf_entry}
use Rattle.mmu.specs.Check.{permits, below_reserved, page_addr}
use Rattle.mmu.specs.Exception.{access_bit}
use Rattle.mmu.specs.declared.tlb.TlbEntry.{TlbEntry}
use Rattle.mmu.specs.declared.exception.Access.{Access}

-- bits 6 and 7, and R, W and X, as tests of their masks
reserved_is : (w : ℕ) → eqb (w / 64 % 4) 0 ≡ eqb (bit_and w 0xC0) 0
reserved_is w = sym (field_is w 2 6)

rwx_is : (w : ℕ) → eqb (w / 2 % 8) 0 ≡ eqb (bit_and w 0x0E) 0
rwx_is w = sym (field_is w 3 1)

-- the three ways through `table_ok`
module _ (w : ℕ) where
  pub table_invalid : bit_and w 1 ≡ 0 → false ≡ table_ok w
  unfolding table_ok
  table_invalid h = rw (clear_bit w 0 h)

  pub table_reserved : (bit_and w 1 ≡ 0 → ⊥) → (bit_and w 0xC0 ≡ 0 → ⊥) → false ≡ table_ok w
  unfolding table_ok
  table_reserved h g = rw (set_bit w 0 h, reserved_is w, ne_eqb (bit_and w 0xC0) 0 g)

  pub table_rwx : (bit_and w 1 ≡ 0 → ⊥) → bit_and w 0xC0 ≡ 0 → eqb (bit_and w 0x0E) 0 ≡ table_ok w
  unfolding table_ok
  table_rwx h g = rw (set_bit w 0 h, reserved_is w, eq-eqb (bit_and w 0xC0) 0 g, rwx_is w)

-- the five ways through `leaf_ok`
module _ (w : ℕ) where
  pub leaf_invalid : bit_and w 1 ≡ 0 → false ≡ leaf_ok w
  unfolding leaf_ok
  leaf_invalid h = rw (clear_bit w 0 h)

  pub leaf_reserved : (bit_and w 1 ≡ 0 → ⊥) → (bit_and w 0xC0 ≡ 0 → ⊥) → false ≡ leaf_ok w
  unfolding leaf_ok
  leaf_reserved h g = rw (set_bit w 0 h, reserved_is w, ne_eqb (bit_and w 0xC0) 0 g)

  module _ (h : bit_and w 1 ≡ 0 → ⊥) (g : bit_and w 0xC0 ≡ 0) where
    pub leaf_none : bit_and w 0x0E ≡ 0 → false ≡ leaf_ok w
    unfolding leaf_ok
    leaf_none r = rw (set_bit w 0 h, reserved_is w, eq-eqb (bit_and w 0xC0) 0 g, rwx_is w, eq-eqb (bit_and w 0x0E) 0 r)

    pub leaf_read_only : (bit_and w 0x0E ≡ 0 → ⊥) → bit_and w 4 ≡ 0 → true ≡ leaf_ok w
    unfolding leaf_ok
    leaf_read_only r x =
        rw (set_bit w 0 h, reserved_is w, eq-eqb (bit_and w 0xC0) 0 g, rwx_is w, ne_eqb (bit_and w 0x0E) 0 r, clear_bit w 2 x)

    pub leaf_written : (bit_and w 0x0E ≡ 0 → ⊥) → (bit_and w 4 ≡ 0 → ⊥) → not (eqb (bit_and w 2) 0) ≡ leaf_ok w
    unfolding leaf_ok
    leaf_written r x =
        rw (set_bit w 0 h, reserved_is w, eq-eqb (bit_and w 0xC0) 0 g, rwx_is w, ne_eqb (bit_and w 0x0E) 0 r, set_bit w 2 x) (flag_is w 1)

-- the flags of a leaf, `l2 & (PTE_RWX | PTE_U)`
pub leaf_flags : (va w : ℕ) → record { valid = true; vpn = va / 4096; ppn = w / 4096; flags = bit_and w 0x1E } ≡ leaf_entry va w
unfolding leaf_entry
leaf_flags va w = rw (and_high w 4 1)

-- the three ways through `grants`
module _ (e : TlbEntry) (k : Access) where
  pub not_user : bit_and e.flags 16 ≡ 0 → false ≡ permits e k
  unfolding permits
  not_user h = rw (clear_bit e.flags 4 h)

  pub no_access : (b : ℕ) → (bit_and e.flags 16 ≡ 0 → ⊥) → b ≡ 2 ^ access_bit k → bit_and e.flags b ≡ 0 → false ≡ permits e k
  unfolding permits
  no_access b h p g = rw (set_bit e.flags 4 h, clear_bit e.flags (access_bit k) (rw p at g))

  pub by_frame : (b : ℕ) → (bit_and e.flags 16 ≡ 0 → ⊥) → b ≡ 2 ^ access_bit k → (bit_and e.flags b ≡ 0 → ⊥) → below_reserved (page_addr e.ppn) ≡ permits e k
  unfolding permits
  by_frame b h p g = rw (set_bit e.flags 4 h, set_bit e.flags (access_bit k) (rw p at g))
