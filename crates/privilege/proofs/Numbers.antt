-- Register numbers as the code decodes them, and what each way answers. Assumes nothing.
use Rattle.std.proofs.Common.{◌≡◌, ℕ, ◌+◌, ◌-◌, ◌*◌, ◌/◌, ◌%◌, ◌^◌, ◌<◌, ◌≤◌, Bool, true, false, not, ◌&&◌, eqb, ltb, leb, List, get_or, set, refl, ap, ◌∙◌, arith, ltb-true, le-ltb, lt-ltb, ne_eqb, le-leb, Option, Some, None, Ok, Err, ok_or, bit_and}
use Rattle.std.proofs.lemmas.Nat.Bits.{and_high}
use mir.Val.{bool_byte}
use Rattle.std.proofs.lemmas.Bool.{lt-leb}
use Rattle.common.specs.Bits.Laws.{flag_is}
use Rattle.common.specs.Cases.{cond_case, absurd_eq, and_left, and_right}
use Rattle.common.specs.declared.Refusal.{Refusal}
use Rattle.common.specs.declared.Refusal.TheVariants as refusal
use Rattle.mmu.specs.Vm.{flushed, invalidated}
use Rattle.mmu.specs.declared.vm.Vm.{Vm}
use Rattle.privilege.specs.Region.{field_of, field_written}
use Rattle.privilege.specs.Registers.{region_field, user_read, user_written, region_read, region_written, written, sr_read, sr_written, vm_enabled, vm_ptbr, vm_fault}
use Rattle.privilege.specs.State.{no_region, bit_if, with_regions, with_other, with_vm}
use Rattle.privilege.specs.declared.region.Region.{Region}
use Rattle.privilege.specs.declared.state.SystemState.{SystemState}
use Rattle.privilege.specs.declared.registers.SrWritten.{SrWritten}

-- the four ways through `region_field`
module _ (sr : ℕ) where
  pub field_below : sr < 16 → None ≡ region_field sr
  unfolding region_field
  field_below h = rw (lt-leb 16 sr h)

  pub field_above : 16 ≤ sr → 8 ≤ (sr - 16) / 4 → None ≡ region_field sr
  unfolding region_field
  field_above h g = rw (le-leb 16 sr h, le-ltb ((sr - 16) / 4) 8 g)

  pub field_at : 16 ≤ sr → (sr - 16) / 4 < 8 → (sr - 16) % 4 < 3 → Some (((sr - 16) / 4), ((sr - 16) % 4)) ≡ region_field sr
  unfolding region_field
  field_at h g f = rw (le-leb 16 sr h, lt-ltb ((sr - 16) / 4) 8 g, lt-ltb ((sr - 16) % 4) 3 f)

  pub field_none : 16 ≤ sr → (sr - 16) / 4 < 8 → 3 ≤ (sr - 16) % 4 → None ≡ region_field sr
  unfolding region_field
  field_none h g f = rw (le-leb 16 sr h, lt-ltb ((sr - 16) / 4) 8 g, le-ltb ((sr - 16) % 4) 3 f)

-- a region's number is below 8
pub field_bound : (sr n f : ℕ) → region_field sr ≡ Some (n, f) → n < 8
unfolding region_field
field_bound sr n f =
    cond_case (λ (p : Option (ℕ × ℕ)). p ≡ Some (n, f) → n < 8) (leb 16 sr && ltb ((sr - 16) / 4) 8 && ltb ((sr - 16) % 4) 3)
    (λ t e.
    let low = and_right (leb 16 sr) (ltb ((sr - 16) / 4) 8) (and_left (leb 16 sr && ltb ((sr - 16) / 4) 8) (ltb ((sr - 16) % 4) 3) t) in
    let p : ◌≡◌ {A = ℕ × ℕ} ((sr - 16) / 4, (sr - 16) % 4) (n, f) = cc in
    rw (ap (λ (x : ℕ × ℕ). x.0) p) at (ltb-true ((sr - 16) / 4) 8 low))
    (λ t e. absurd_eq (cc))

-- a region's register, where decoding its number answered p
module _ (s : SystemState) (sr : ℕ) (p : Option (ℕ × ℕ)) (is : p ≡ region_field sr) where
  pub read_unknown : (r : Refusal) → p ≡ None → Err r ≡ ok_or p refusal.Register → Err r ≡ region_read s (region_field sr)
  read_unknown r e q =
      let z : r ≡ refusal.Register = cc in
      rw (z, ← is, e)

  pub read_field : (n f v : ℕ) → p ≡ Some (n, f) → v ≡ field_of (get_or s.regions n no_region) f → Ok v ≡ region_read s (region_field sr)
  read_field n f v e q = rw (← is, e, q)

  module _ (reg : List ℕ) (v : ℕ) where
    pub write_unknown : p ≡ None → record { sys = s; reg = reg; answer = Err refusal.Register } ≡ region_written s reg v (region_field sr)
    write_unknown e = rw (← is, e)

    pub write_field : (n f : ℕ) (l : List Region) (r : SrWritten) → p ≡ Some (n, f) → l ≡ field_written s.regions n f v
        → r ≡ written (with_regions s l) reg → r ≡ region_written s reg v (region_field sr)
    write_field n f l r e q w = w ∙ rw (← is, e, q)

-- the user's bank
module _ (s : SystemState) (i : ℕ) (reg : List ℕ) where
  pub read_live : s.user ≡ true → get_or reg (28 + i) 0 ≡ user_read s i reg
  unfolding user_read
  read_live h = rw h

  pub read_saved : s.user ≡ false → get_or s.other_bank i 0 ≡ user_read s i reg
  unfolding user_read
  read_saved h = rw h

  pub write_live : (v : ℕ) (r : SrWritten) → s.user ≡ true → r ≡ written s (set reg (28 + i) v) → r ≡ user_written s i v reg
  unfolding user_written
  write_live v r h e = e ∙ rw h

  pub write_saved : (v : ℕ) (r : SrWritten) → s.user ≡ false → r ≡ written (with_other s (set s.other_bank i v)) reg → r ≡ user_written s i v reg
  unfolding user_written
  write_saved v r h e = e ∙ rw h

-- VCTL's bit, `enabled as u32`
pub bool_number : (b : Bool) → bool_byte b ≡ bit_if b 1
bool_number true = refl
bool_number false = refl

-- PTBR without its low 12 bits
pub page_start : (v : ℕ) → v < 2 ^ 32 → bit_and v 0xFFFF_F000 ≡ v / 4096 * 4096
page_start v h = let z : v / 4096 % 2 ^ 20 ≡ v / 4096 = omega arith in and_high v 20 12 ∙ rw z

-- the registers of translation
module _ (s : SystemState) (sr v : ℕ) (reg : List ℕ) (r : SrWritten) where
  pub vctl_written : sr ≡ 0x40 → r ≡ written (with_vm s (vm_enabled s.vm (not (eqb (bit_and v 1) 0)))) reg → r ≡ sr_written s sr v reg
  unfolding sr_written
  vctl_written h e = e ∙ rw (h, flag_is v 0)

  pub ptbr_written : (vm : Vm) → sr ≡ 0x41 → v < 2 ^ 32 → vm ≡ flushed (vm_ptbr s.vm (bit_and v 0xFFFF_F000)) → r ≡ written (with_vm s vm) reg → r ≡ sr_written s sr v reg
  unfolding sr_written
  ptbr_written vm h l f e = e ∙ rw (f, h, page_start v l)

  pub vfault_written : sr ≡ 0x42 → r ≡ written (with_vm s (vm_fault s.vm v)) reg → r ≡ sr_written s sr v reg
  unfolding sr_written
  vfault_written h e = e ∙ rw h

  pub tlbflush_written : (vm : Vm) → sr ≡ 0x43 → vm ≡ flushed s.vm → r ≡ written (with_vm s vm) reg → r ≡ sr_written s sr v reg
  unfolding sr_written
  tlbflush_written vm h f e = e ∙ rw (f, h)

  pub tlbinv_written : (vm : Vm) → sr ≡ 0x44 → vm ≡ invalidated s.vm v → r ≡ written (with_vm s vm) reg → r ≡ sr_written s sr v reg
  unfolding sr_written
  tlbinv_written vm h f e = e ∙ rw (f, h)

-- the numbers that `read_sr` and `write_sr` know before they ask the regions
abbrev pub Unnamed : ℕ → Type 0
Unnamed sr =
    (sr ≡ 0x00 → ⊥)
    × (sr ≡ 0x01 → ⊥)
    × (sr ≡ 0x02 → ⊥)
    × (sr ≡ 0x08 → ⊥)
    × (sr ≡ 0x09 → ⊥)
    × (sr ≡ 0x0A → ⊥)
    × (sr ≡ 0x40 → ⊥)
    × (sr ≡ 0x41 → ⊥)
    × (sr ≡ 0x42 → ⊥)
    × (sr ≡ 0x43 → ⊥)
    × (sr ≡ 0x44 → ⊥)

module _ (s : SystemState) (sr : ℕ) (reg : List ℕ) (u : Unnamed sr) where
  pub read_other : sr_read s sr reg ≡ region_read s (region_field sr)
  unfolding sr_read
  read_other =
      rw (ne_eqb sr 0x00 u.0, ne_eqb sr 0x01 u.1, ne_eqb sr 0x02 u.2, ne_eqb sr 0x08 u.3, ne_eqb sr 0x09 u.4, ne_eqb sr 0x0A u.5, ne_eqb sr 0x40 u.6, ne_eqb sr 0x41 u.7, ne_eqb sr 0x42 u.8, ne_eqb sr 0x43 u.9, ne_eqb sr 0x44 u.10)

  pub write_other : (v : ℕ) → sr_written s sr v reg ≡ region_written s reg v (region_field sr)
  unfolding sr_written
  write_other v =
      rw (ne_eqb sr 0x00 u.0, ne_eqb sr 0x01 u.1, ne_eqb sr 0x02 u.2, ne_eqb sr 0x08 u.3, ne_eqb sr 0x09 u.4, ne_eqb sr 0x0A u.5, ne_eqb sr 0x40 u.6, ne_eqb sr 0x41 u.7, ne_eqb sr 0x42 u.8, ne_eqb sr 0x43 u.9, ne_eqb sr 0x44 u.10)
