-- Document 01's sentences on the controller, proved of the definitions. Assumes nothing.
use Rattle.std.proofs.Common.{◌≡◌, refl, sym, ap, ◌∙◌, ⊎_elim, Bool, true, false, not, ◌&&◌, ◌||◌, ℕ, zero, suc, ◌+◌, ◌*◌, ◌/◌, ◌%◌, ◌≤◌, ◌<◌, eq-or-lt_of_le, arith, ne_eqb, eqb-true, eqb}
use Rattle.common.specs.Cases.{bool_is, absurd_eq, cond_holds, cond_case}
use Rattle.common.specs.Bits.{bit_set}
use Rattle.common.specs.Bits.Laws.{without_bits_lem}
use Rattle.irqc.specs.Irqc.{output, active, lowest_from, byte_read, byte_written}
use Rattle.irqc.specs.Meaning.{Meaning, Word, has_register}
use Rattle.irqc.specs.declared.IrqController.{IrqController}
use Rattle.irqc.specs.declared.IrqOutput.{IrqOutput}
use Rattle.irqc.proofs.Source.{rise, level_is, level_other, past, enable_is}
use Rattle.irqc.proofs.Sources.{none_changed, one_more}
use Rattle.irqc.proofs.Registers.{cleared_high, cleared_low, high_stays, low_stays}

-- ---- the output

lowest_means : (c : IrqController) (i k n : ℕ) → lowest_from c i k ≡ output true n
    → (active c n ≡ true) × ((j : ℕ) → i ≤ j → j < n → active c j ≡ false)
unfolding lowest_from
lowest_means c i zero n e = absurd_eq (let z : false ≡ true = ap (λ (o : IrqOutput). o.valid) e in cc)
lowest_means c i (suc k) n e =
    ⊎_elim
    (λ (t : active c i ≡ true).
    let m : i ≡ n = ap (λ (o : IrqOutput). o.number) (simp t at e) in
    (ap (active c) (sym m) ∙ t, λ j h g. absurd (omega arith)))
    (λ (t : active c i ≡ false).
    let r = lowest_means c (suc i) k n (simp t at e) in
    (r.0, λ j h g. ⊎_elim (λ (q : i ≡ j). ap (active c) (sym q) ∙ t) (λ (q : suc i ≤ j). r.1 j q g) (eq-or-lt_of_le h)))
    (bool_is (active c i))

none_found : (c : IrqController) (i k : ℕ) → ((j : ℕ) → i ≤ j → j < i + k → active c j ≡ false) → lowest_from c i k ≡ output false 0
unfolding lowest_from
none_found c i zero h = refl
none_found c i (suc k) h = simp (h i (omega arith) (omega arith)) (none_found c (suc i) k (λ j p q. h j (omega arith) (omega arith)))

none_means : (c : IrqController) (i k : ℕ) → (lowest_from c i k).valid ≡ false
    → ((lowest_from c i k).number ≡ 0) × ((j : ℕ) → i ≤ j → j < i + k → active c j ≡ false)
unfolding lowest_from
none_means c i zero e = (refl, λ j h g. absurd (omega arith))
none_means c i (suc k) e =
    ⊎_elim
    (λ (t : active c i ≡ true). absurd_eq (let z : true ≡ false = simp t at e in cc))
    (λ (t : active c i ≡ false).
    let r = none_means c (suc i) k (simp t at e) in
    (simp t r.0, λ j h g. ⊎_elim (λ (q : i ≡ j). ap (active c) (sym q) ∙ t) (λ (q : i < j). r.1 j q (omega arith)) (eq-or-lt_of_le h)))
    (bool_is (active c i))

-- ---- the register bytes

no_register : (a b d e : Bool) → (a || b || d || e) ≡ false → (a ≡ false) × (b ≡ false) × (d ≡ false) × (e ≡ false)
no_register false false false false h = (refl, refl, refl, refl)
no_register true b d e h = absurd_eq (cc)
no_register false true d e h = absurd_eq (cc)
no_register false false true e h = absurd_eq (cc)
no_register false false false true h = absurd_eq (cc)

others_read : (c : IrqController) (addr : ℕ) → has_register addr ≡ false → byte_read c addr ≡ 0
unfolding byte_read
others_read c addr h =
    let r = no_register (eqb addr 0) (eqb addr 1) (eqb addr 4) (eqb addr 5) h in
    simp (r.0, r.1, r.2, r.3)

others_written : (c : IrqController) (addr value : ℕ) → has_register addr ≡ false → byte_written c addr value ≡ c
unfolding byte_written
others_written c addr value h =
    let r = no_register (eqb addr 0) (eqb addr 1) (eqb addr 4) (eqb addr 5) h in
    simp (r.0, r.1, r.2, r.3)

pending_bytes : (c : IrqController) → Word c.pending
    → (byte_read c 0 < 256) × (byte_read c 1 < 256) × (byte_read c 0 * 256 + byte_read c 1 ≡ c.pending)
unfolding byte_read
pending_bytes c h = (omega arith, omega arith, omega arith)

enable_bytes : (c : IrqController) → Word c.enable
    → (byte_read c 4 < 256) × (byte_read c 5 < 256) × (byte_read c 4 * 256 + byte_read c 5 ≡ c.enable)
unfolding byte_read
enable_bytes c h = (omega arith, omega arith, omega arith)

-- ---- a written register byte

ones_cleared : (c : IrqController) (addr value i : ℕ) → addr < 2 → value < 256 → i < 8
    → bit_set (byte_read (byte_written c addr value) addr) i ≡ (bit_set (byte_read c addr) i && not (bit_set value i))
unfolding byte_read byte_written
ones_cleared c zero value i ha hv hi =
    let e : value * 256 / 256 ≡ value = omega arith in
    rw e at (cleared_high c.pending (value * 256) i (omega arith) hi)
ones_cleared c (suc zero) value i ha hv hi =
    let e : value % 256 ≡ value = omega arith in
    rw e at (cleared_low c.pending value i (omega arith) hi)
ones_cleared c (suc (suc addr)) value i ha hv hi = absurd (omega arith)

enable_written : (c : IrqController) (value : ℕ) → value < 256
    → (byte_read (byte_written c 4 value) 4 ≡ value) × (byte_read (byte_written c 5 value) 5 ≡ value)
unfolding byte_read byte_written
enable_written c value h = (omega arith, omega arith)

-- by the address that is written: the byte there changes, so the one that is read is another; its word's other byte stays
other_bytes : (c : IrqController) (addr other value : ℕ) → Word c.pending → value < 256 → (addr ≡ other → ⊥)
    → byte_read (byte_written c addr value) other ≡ byte_read c other
unfolding byte_read byte_written
other_bytes c addr other value h hv ne =
    cond_case Same (eqb addr 0)
    (λ t. simp (elsewhere 0 (eqb-true addr 0 t), low_stays c.pending (value * 256) (omega arith) (omega arith)))
    (λ _. cond_case Same (eqb addr 1)
    (λ t. simp (elsewhere 1 (eqb-true addr 1 t), high_stays c.pending value h (omega arith) (omega arith)))
    (λ _. cond_case Same (eqb addr 4)
    (λ t. let e : (value * 256 + c.enable % 256) % 256 ≡ c.enable % 256 = omega arith in simp (elsewhere 4 (eqb-true addr 4 t), e))
    (λ _. cond_case Same (eqb addr 5)
    (λ t. let e : (c.enable / 256 * 256 + value) / 256 ≡ c.enable / 256 = omega arith in simp (elsewhere 5 (eqb-true addr 5 t), e))
    (λ _. refl))))
  where
    Same : IrqController → Type 0
    Same d = byte_read d other ≡ byte_read c other

    elsewhere : (k : ℕ) → addr ≡ k → eqb other k ≡ false
    elsewhere k e = ne_eqb other k (λ q. ne (e ∙ sym q))

written_kept : (c : IrqController) (addr value : ℕ) → (byte_written c addr value).source_level ≡ c.source_level
unfolding byte_written
written_kept c addr value =
    cond_holds Kept (eqb addr 0) refl
    (cond_holds Kept (eqb addr 1) refl (cond_holds Kept (eqb addr 4) refl (cond_holds Kept (eqb addr 5) refl refl)))
  where
    Kept : IrqController → Type 0
    Kept d = d.source_level ≡ c.source_level

pub meaning_holds : Meaning
meaning_holds =
    record {
      lowest = λ c n e. let r = lowest_means c 0 16 n e in (r.0, λ j h. r.1 j (omega arith) h);
      none = λ c h. none_found c 0 16 (λ j p q. h j (omega arith));
      only_none = λ c e. let r = none_means c 0 16 e in (r.0, λ j h. r.1 j (omega arith) (omega arith));
      rise = rise;
      level = level_is;
      others = level_other;
      past = past;
      several_none = λ c levels. none_changed c levels 16;
      several_more = one_more;
      cleared = λ c mask i hm hi. without_bits_lem 16 c.pending mask i hm hi;
      levels_kept = λ c mask. refl;
      set_enable = enable_is;
      cleared_enable = λ c mask. refl;
      pending_bytes = pending_bytes;
      enable_bytes = enable_bytes;
      others_read = others_read;
      ones_cleared = ones_cleared;
      enable_written = enable_written;
      other_bytes = other_bytes;
      written_kept = written_kept;
      others_written = others_written;
      reset = (refl, refl, refl);
    }
