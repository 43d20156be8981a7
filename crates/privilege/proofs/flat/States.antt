-- The whole state on its words: where a byte is, reset, and a state written and read. Assumes nothing.
use Rattle.std.proofs.Common.{◌≡◌, ℕ, ◌+◌, ◌%◌, ◌<◌, ◌≤◌, Bool, true, false, eqb, List, [], ◌∷◌, length, get_or, set, replicate, sym, refl, ap, ◌∙◌, arith, length-set, eq-eqb, ne_eqb}
use Rattle.std.proofs.Math.Seq.{set_out}
use Rattle.layout.specs.Words.{part, put, Over, Reads, part_length, part_get, put_length, over_all, reads_none, reads_all}
use Rattle.layout.specs.Records.{records_of}
use Rattle.mmu.specs.Flat.{entry_at, tlb_at, vm_at}
use Rattle.mmu.specs.Flat.Laws.{bit_on}
use Rattle.mmu.specs.Tlb.{no_entries}
use Rattle.mmu.specs.Vm.{new_vm, frame_of}
use Rattle.mmu.specs.declared.vm.Vm.{Vm}
use Rattle.privilege.specs.Access.{translating_of}
use Rattle.privilege.specs.Flat.{regions_from, vm_from, reg_from, system_words, regions_at, sys_at, reg_at, Comes}
use Rattle.privilege.specs.Flat.Laws.{ten, sys_vm, sys_regions, sys_regs, reg_regs, sys_reg, reg_set}
use Rattle.privilege.specs.State.{is_short, mode_of, bit_if, no_regions, new_state, with_rest, with_vm, with_regions}
use Rattle.privilege.specs.Transfer.{joined_to, physical_of}
use Rattle.privilege.specs.Transfer.Laws.{physical_on, physical_off}
use Rattle.privilege.specs.declared.region.Region.{Region}
use Rattle.privilege.specs.declared.state.InstructionMode.{InstructionMode}
use Rattle.privilege.specs.declared.state.SystemState.{SystemState}
use mir.Val.{bool_byte}
use Rattle.privilege.proofs.Checks.{on, off}
use Rattle.privilege.proofs.Numbers.{bool_number}
use Rattle.privilege.proofs.flat.Banks.{user_at, mode_back}

-- ---- words of another number

pub kept_short : (l l' : List ℕ) (s : SystemState) (reg : List ℕ) → (length l ≡ system_words → ⊥) → l' ≡ l → Comes l l' s reg
kept_short l l' s reg h e = (λ p. absurd (h p), λ q. (e, refl))

-- ---- where a byte is

abbrev IsAt : List ℕ → ℕ → ℕ → Type 0
IsAt l va r = Reads system_words l r 0 (physical_of (sys_at l) va)

pub enabled_at : (l : List ℕ) (b : Bool) → eqb (get_or l 34 0 % 2) 1 ≡ b → (sys_at l).vm.enabled ≡ b
unfolding sys_at vm_at
enabled_at l b h = rw (part_get l vm_from 69 0 (omega arith)) h

module _ (l : List ℕ) (va : ℕ) where
  pub physical_short : (length l ≡ system_words → ⊥) → IsAt l va 0
  physical_short h = reads_none system_words l 0 0 _ h refl

  module _ (long : length l ≡ system_words) where
    pub physical_supervisor : (get_or l 2 0 % 2 ≡ 1 → ⊥) → IsAt l va va
    physical_supervisor u =
        reads_all system_words l va 0 _ long (sym (physical_off (sys_at l) va (sym (off (sys_at l) (user_at l false (ne_eqb (get_or l 2 0 % 2) 1 u))))))

    module _ (u : get_or l 2 0 % 2 ≡ 1) where
      by_enabled : (sys_at l).vm.enabled ≡ translating_of (sys_at l)
      by_enabled = on (sys_at l) (user_at l true (eq-eqb (get_or l 2 0 % 2) 1 u))

      pub physical_untranslated : (get_or l 34 0 % 2 ≡ 1 → ⊥) → IsAt l va va
      physical_untranslated e =
          reads_all system_words l va 0 _ long (sym (physical_off (sys_at l) va (sym by_enabled ∙ enabled_at l false (ne_eqb (get_or l 34 0 % 2) 1 e))))

      pub physical_translated : (f r : ℕ) → get_or l 34 0 % 2 ≡ 1 → Reads 69 (part vm_from 69 l) f 0 (frame_of (vm_at (part vm_from 69 l)) va) → r ≡ joined_to f va → IsAt l va r
      unfolding sys_at
      physical_translated f r e w q =
          reads_all system_words l r 0 _ long
          (q ∙ ap (λ (x : ℕ). joined_to x va) (w.0 (part_length l vm_from 69 (omega arith)))
          ∙ sym (physical_on (sys_at l) va (sym by_enabled ∙ enabled_at l true (eq-eqb (get_or l 34 0 % 2) 1 e))))

pub ruleset places = (physical_short, physical_supervisor, physical_untranslated, physical_translated)

-- ---- a register set

module _ (l : List ℕ) (i v : ℕ) (long : length l ≡ system_words) where
  pub no_register : (l' : List ℕ) → 32 ≤ i → l' ≡ l → Comes l l' (sys_at l) (set (reg_at l) i v)
  unfolding reg_at
  no_register l' h e =
      let n : length (part reg_from 32 l) ≡ 32 = part_length l reg_from 32 (omega arith) in
      over_all system_words l (tt {0}) (tt {0}) l' _ long (ap length e) (ap sys_at e, ap (part reg_from 32) e ∙ sym (set_out (part reg_from 32 l) i v (omega arith)))

  pub register_set : i < 32 → Comes l (set l (103 + i) v) (sys_at l) (set (reg_at l) i v)
  register_set h = over_all system_words l (tt {0}) (tt {0}) _ _ long (simp length-set) (sys_reg l i v, reg_set l i v h)

-- ---- reset

abbrev fresh : List ℕ
fresh = 1 ∷ 1 ∷ replicate 101 0

pub reset_words : (l new : List ℕ) → length l ≡ system_words → new ≡ fresh
    → Comes l (put 0 103 l new) new_state (reg_at l)
unfolding sys_at reg_at regions_at vm_at tlb_at entry_at records_of no_regions no_entries
reset_words l new long e =
    rw e (over_all system_words l (tt {0}) (tt {0}) (put 0 103 l fresh) _ long (put_length l fresh 0 103 (omega arith) refl) (refl, refl))

-- ---- a state written

three : (b : List ℕ) → length b ≡ 3 → get_or b 0 0 ∷ get_or b 1 0 ∷ get_or b 2 0 ∷ [] ≡ b
three [] h = absurd (omega arith)
three (x ∷ []) h = absurd (omega arith)
three (x ∷ y ∷ []) h = absurd (omega arith)
three (x ∷ y ∷ z ∷ []) h = refl
three (x ∷ y ∷ z ∷ u ∷ b) h = absurd (omega arith)

abbrev scalars : List ℕ → SystemState → ℕ → ℕ → ℕ → ℕ → ℕ → List ℕ
scalars l s a b c d e =
    set (set (set (set (set (set (set (set (set (set l 0 a) 1 b) 2 c) 3 d) 4 e) 5 s.epc) 6 s.cause) 7 (get_or s.other_bank 0 0)) 8 (get_or s.other_bank 1 0))
    9 (get_or s.other_bank 2 0)

abbrev over : SystemState → SystemState → SystemState
over s t = with_rest s s.epc s.cause s.other_bank t.regions t.vm

pub put_status_words : (l : List ℕ) (s : SystemState) (short : Bool) → length l ≡ system_words → length s.other_bank ≡ 3 → short ≡ is_short s.psm
    → sys_at (scalars l s (bool_byte s.ie) (bool_byte s.pie) (bool_byte s.user) (bool_byte s.pu) (bool_byte short)) ≡ over s (sys_at l)
unfolding sys_at
put_status_words l s short n bank es =
    rw (bool_number s.ie, bool_number s.pie, bool_number s.user, bool_number s.pu, bool_number short, es)
    (ten
    (λ (l : List ℕ). sys_at (scalars l s (bit_if s.ie 1) (bit_if s.pie 1) (bit_if s.user 1) (bit_if s.pu 1) (bit_if (is_short s.psm) 1)) ≡ over s (sys_at l))
    (λ q r t u v w x y z k m. rw (bit_on s.ie, bit_on s.pie, bit_on s.user, bit_on s.pu, mode_back s.psm, three s.other_bank bank))
    l (omega arith))

pub put_tables_words : (l a b : List ℕ) (rs : List Region) (v : Vm) (q : Unit {0}) → length l ≡ system_words → length a ≡ length (part regions_from 24 l)
    → regions_at a ≡ rs → length b ≡ length (part vm_from 69 (put regions_from 24 l a)) → Over 69 (part vm_from 69 (put regions_from 24 l a)) b q q (vm_at b ≡ v)
    → sys_at (put vm_from 69 (put regions_from 24 l a) b) ≡ with_vm (with_regions (sys_at l) rs) v
put_tables_words l a b rs v q long la ea lb ob =
    let na : length a ≡ 24 = la ∙ part_length l regions_from 24 (omega arith) in
    let m : List ℕ = put regions_from 24 l a in
    let nm : length m ≡ system_words = put_length l a regions_from 24 (omega arith) na ∙ long in
    let pb : length (part vm_from 69 m) ≡ 69 = part_length m vm_from 69 (omega arith) in
    sys_vm m b nm (lb ∙ pb) ∙ rw (sys_regions l a long na, ea, (ob.0 pb).1)

pub put_state_words : (l m l' : List ℕ) (s : SystemState) → sys_at m ≡ over s (sys_at l) → sys_at l' ≡ with_vm (with_regions (sys_at m) s.regions) s.vm → sys_at l' ≡ s
put_state_words l m l' s e g = g ∙ rw e

pub pack_words : (l m c : List ℕ) (s : SystemState) (reg : List ℕ) → length l ≡ system_words → length m ≡ length l → sys_at m ≡ s → length reg ≡ 32
    → c ≡ reg → Comes l (put reg_from 32 m c) s reg
pack_words l m c s reg long same e n is =
    let nm : length m ≡ system_words = same ∙ long in
    let nc : length c ≡ 32 = ap length is ∙ n in
    over_all system_words l (tt {0}) (tt {0}) (put reg_from 32 m c) _ long (put_length m c reg_from 32 (omega arith) nc ∙ same) (sys_regs m c nm nc ∙ e, reg_regs m c nm nc ∙ is)

-- ---- and read

module _ (l : List ℕ) where
  pub unpack_short : (s : SystemState) → (length l ≡ system_words → ⊥) → s ≡ new_state → Reads system_words l s new_state (sys_at l)
  unpack_short s h e = reads_none system_words l s new_state _ h e

  pub unpack_words : (m : InstructionMode) (rs : List Region) (v : Vm) → length l ≡ system_words → m ≡ mode_of (eqb (get_or l 4 0 % 2) 1)
      → rs ≡ regions_at (part regions_from 24 l) → Reads 69 (part vm_from 69 l) v new_vm (vm_at (part vm_from 69 l))
      → Reads system_words l (record {
        ie = eqb (get_or l 0 0 % 2) 1;
        pie = eqb (get_or l 1 0 % 2) 1;
        user = eqb (get_or l 2 0 % 2) 1;
        pu = eqb (get_or l 3 0 % 2) 1;
        psm = m;
        epc = get_or l 5 0;
        cause = get_or l 6 0;
        other_bank = get_or l 7 0 ∷ get_or l 8 0 ∷ get_or l 9 0 ∷ [];
        regions = rs;
        vm = v;
      }) new_state (sys_at l)
  unfolding sys_at
  unpack_words m rs v long p q w = reads_all system_words l _ new_state _ long (rw (p, q, w.0 (part_length l vm_from 69 (omega arith))))

  pub registers_short : (length l ≡ system_words → ⊥) → Reads system_words l (replicate 32 0) (replicate 32 0) (reg_at l)
  registers_short h = reads_none system_words l (replicate 32 0) (replicate 32 0) _ h refl

  pub registers_read : (new : List ℕ) → length l ≡ system_words → new ≡ part reg_from 32 l
      → Reads system_words l new (replicate 32 0) (reg_at l)
  unfolding reg_at
  registers_read new long e =
      reads_all system_words l new _ _ long e

pub ruleset wholes = (kept_short, no_register, register_set, reset_words, put_status_words, put_tables_words, put_state_words, pack_words, unpack_short, unpack_words, registers_short, registers_read)
