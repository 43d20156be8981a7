-- Traps on the state's words. Assumes nothing.
use Rattle.std.proofs.Common.{◌≡◌, ℕ, ◌%◌, ◌<◌, Bool, true, false, eqb, List, [], ◌∷◌, length, get_or, set, sym, refl, ap, ◌∙◌, arith, length-set, eq-eqb, ne_eqb, get_or-set_other}
use Rattle.std.specs.List.{swap}
use Rattle.std.proofs.lemmas.List.Edits.{swap_is}
use mir.Val.{bool_byte}
use Rattle.layout.specs.Words.{over_none, over_all}
use Rattle.privilege.specs.Flat.{system_words, sys_at, reg_at, Becomes, Exchanges, Traps, Returns}
use Rattle.privilege.specs.Flat.Laws.{ten, sys_reg, reg_set, reg_get}
use Rattle.privilege.specs.State.{is_short, mode_of, bit_if, with_ie, with_user, with_other}
use Rattle.privilege.specs.Trap.{saved, enters_user}
use Rattle.privilege.specs.declared.flat.traps.Resumed.{Resumed}
use Rattle.privilege.specs.declared.state.InstructionMode.{InstructionMode}
use Rattle.privilege.specs.declared.state.InstructionMode.TheVariants.{Normal, Short}
use Rattle.privilege.proofs.Numbers.{bool_number}
use Rattle.privilege.proofs.Traps.{from_user, from_supervisor, no_entry_lem, entry, to_user, stays}

-- ---- the words that are read

module _ (l : List ℕ) (b : Bool) where
  pub user_at : eqb (get_or l 2 0 % 2) 1 ≡ b → (sys_at l).user ≡ b
  unfolding sys_at
  user_at h = h

  pub pu_at : eqb (get_or l 3 0 % 2) 1 ≡ b → (sys_at l).pu ≡ b
  unfolding sys_at
  pu_at h = h

-- ---- the exchange

abbrev banked : List ℕ → ℕ → ℕ → ℕ → List ℕ
banked l a b c = set (set (set l 7 a) 8 b) 9 c

banked_is : (l : List ℕ) (a b c : ℕ) → length l ≡ system_words → Becomes l (banked l a b c) (with_other (sys_at l) (a ∷ b ∷ c ∷ [])) (reg_at l)
unfolding sys_at reg_at
banked_is l a b c n =
    ten (λ (l : List ℕ). Becomes l (banked l a b c) (with_other (sys_at l) (a ∷ b ∷ c ∷ [])) (reg_at l)) (λ q r s t u v w x y z k. (refl, refl, refl)) l (omega arith)

lived : (m : List ℕ) (x y z : ℕ) → Becomes m (set (set (set m 131 x) 132 y) 133 z) (sys_at m) (set (set (set (reg_at m) 28 x) 29 y) 30 z)
lived m x y z = (
  simp length-set,
  rw (sys_reg (set (set m 131 x) 132 y) 30 z, sys_reg (set m 131 x) 29 y, sys_reg m 28 x),
  rw (reg_set (set (set m 131 x) 132 y) 30 z (omega arith), reg_set (set m 131 x) 29 y (omega arith), reg_set m 28 x (omega arith)),
)

exchange_words : (l : List ℕ) → length l ≡ system_words
    → Exchanges l (set (set (set (banked l (get_or l 131 0) (get_or l 132 0) (get_or l 133 0)) 131 (get_or l 7 0)) 132 (get_or l 8 0)) 133 (get_or l 9 0))
unfolding sys_at
exchange_words l n =
    let a : ℕ = get_or l 131 0 in
    let b : ℕ = get_or l 132 0 in
    let c : ℕ = get_or l 133 0 in
    let k = banked_is l a b c n in
    let e = lived (banked l a b c) (get_or l 7 0) (get_or l 8 0) (get_or l 9 0) in (
      e.0 ∙ k.0,
      e.1 ∙ k.1 ∙ rw (reg_get l 28 (omega arith), reg_get l 29 (omega arith), reg_get l 30 (omega arith)),
      e.2 ∙ rw k.2,
    )

one : List ℕ → ℕ → ℕ → List ℕ
one l i j = set (set l i (get_or l j 0)) j (get_or l i 0)

thrice : (l : List ℕ) → length l ≡ system_words
    → one (one (one l 7 131) 8 132) 9 133
    ≡ set (set (set (banked l (get_or l 131 0) (get_or l 132 0) (get_or l 133 0)) 131 (get_or l 7 0)) 132 (get_or l 8 0)) 133 (get_or l 9 0)
unfolding one
thrice l n =
    ten
    (λ (l : List ℕ). one (one (one l 7 131) 8 132) 9 133
    ≡ set (set (set (banked l (get_or l 131 0) (get_or l 132 0) (get_or l 133 0)) 131 (get_or l 7 0)) 132 (get_or l 8 0)) 133 (get_or l 9 0))
    (λ q r s t u v w x y z k.
    rw (get_or-set_other k 121 122 x 0 (λ e. omega arith), get_or-set_other (set k 121 x) 122 123 y 0 (λ e. omega arith), get_or-set_other k 121 123 x 0 (λ e. omega arith)))
    l (omega arith)

swapped : (l : List ℕ) (i j : ℕ) → length l ≡ system_words → i < 135 → j < 135 → (swap l i j ≡ one l i j) × (length (swap l i j) ≡ system_words)
unfolding one
swapped l i j n h g =
    let e : swap l i j ≡ set (set l i (get_or l j 0)) j (get_or l i 0) = sym (swap_is l i j 0 (omega arith) (omega arith)) in
    (e, rw e (simp length-set n))

pub exchange_swaps : (l a b c : List ℕ) → length l ≡ system_words → a ≡ swap l 7 131 → b ≡ swap a 8 132 → c ≡ swap b 9 133 → Exchanges l c
exchange_swaps l a b c n p q r =
    let x = swapped l 7 131 n (omega arith) (omega arith) in
    let na : length a ≡ system_words = ap length p ∙ x.1 in
    let y = swapped a 8 132 na (omega arith) (omega arith) in
    let nb : length b ≡ system_words = ap length q ∙ y.1 in
    let z = swapped b 9 133 nb (omega arith) (omega arith) in
    let is : c ≡ one (one (one l 7 131) 8 132) 9 133 = r ∙ z.0 ∙ rw (q, y.0, p, x.0) in
    rw (is, thrice l n) (exchange_words l n)

-- ---- entry

pub mode_back : (mode : InstructionMode) → mode_of (eqb (bit_if (is_short mode) 1 % 2) 1) ≡ mode
mode_back Normal = refl
mode_back Short = refl

module _ (l : List ℕ) (epc cause : ℕ) (mode : InstructionMode) (long : length l ≡ system_words) where
  pub save_words : (short : Bool) → short ≡ is_short mode
      → Becomes l (set (set (set (set (set (set (set l 0 0) 1 (get_or l 0 0)) 2 0) 3 (get_or l 2 0)) 4 (bool_byte short)) 5 epc) 6 cause) (saved (sys_at l) epc cause mode) (reg_at l)
  unfolding sys_at reg_at
  save_words short p =
      rw (bool_number short, p)
      (ten
      (λ (l : List ℕ).
      Becomes l (set (set (set (set (set (set (set l 0 0) 1 (get_or l 0 0)) 2 0) 3 (get_or l 2 0)) 4 (bit_if (is_short mode) 1)) 5 epc) 6 cause) (saved (sys_at l) epc cause mode) (reg_at l))
      (λ q r s t u v w x y z k. (refl, rw (mode_back mode), refl)) l (omega arith))

  module _ (m : List ℕ) (s : Becomes l m (saved (sys_at l) epc cause mode) (reg_at l)) where
    pub words_from_user : (l' : List ℕ) → Exchanges m l' → get_or l 2 0 % 2 ≡ 1 → Traps l l' epc cause mode
    words_from_user l' e u =
        over_all system_words l (tt {0}) (tt {0}) l' _ long (e.0 ∙ s.0)
        (rw (e.1, e.2, s.1, s.2) (from_user (sys_at l) _ (reg_at l) epc cause mode refl _ refl (user_at l true (eq-eqb (get_or l 2 0 % 2) 1 u))))

    pub words_from_supervisor : (get_or l 2 0 % 2 ≡ 1 → ⊥) → Traps l m epc cause mode
    words_from_supervisor u =
        over_all system_words l (tt {0}) (tt {0}) m _ long s.0
        (rw (s.1, s.2) (from_supervisor (sys_at l) _ (reg_at l) epc cause mode refl (user_at l false (ne_eqb (get_or l 2 0 % 2) 1 u))))

pub trap_none : (l : List ℕ) (epc cause : ℕ) (mode : InstructionMode) → (length l ≡ system_words → ⊥) → Traps l l epc cause mode
trap_none l epc cause mode h = over_none system_words l (tt {0}) (tt {0}) _ h refl

-- ---- return

pub return_none : (l : List ℕ) → (length l ≡ system_words → ⊥) → Returns l l (record { epc = 0; mode = Normal })
return_none l h = over_none system_words l _ _ _ h refl

module _ (l : List ℕ) (long : length l ≡ system_words) where
  resumed_words : Becomes l (set l 0 (get_or l 1 0)) (with_ie (sys_at l) (sys_at l).pie) (reg_at l)
  unfolding sys_at reg_at
  resumed_words =
      ten (λ (l : List ℕ). Becomes l (set l 0 (get_or l 1 0)) (with_ie (sys_at l) (sys_at l).pie) (reg_at l)) (λ q r s t u v w x y z k. (refl, refl, refl)) l (omega arith)

  entered_words : Becomes l (set (set l 0 (get_or l 1 0)) 2 1) (with_user (with_ie (sys_at l) (sys_at l).pie) true) (reg_at l)
  unfolding sys_at reg_at
  entered_words =
      ten (λ (l : List ℕ). Becomes l (set (set l 0 (get_or l 1 0)) 2 1) (with_user (with_ie (sys_at l) (sys_at l).pie) true) (reg_at l))
      (λ q r s t u v w x y z k. (refl, refl, refl)) l (omega arith)

  module _ (mode : InstructionMode) (is : mode ≡ mode_of (eqb (get_or l 4 0 % 2) 1)) where
    same_mode : mode ≡ (sys_at l).psm
    unfolding sys_at
    same_mode = is

    same_epc : get_or l 5 0 ≡ (sys_at l).epc
    unfolding sys_at
    same_epc = refl

    abbrev resumed : Resumed
    resumed = record { epc = get_or l 5 0; mode = mode }

    stayed : false ≡ enters_user (sys_at l) → Returns l (set l 0 (get_or l 1 0)) resumed
    stayed out =
        let w = resumed_words in
        over_all system_words l resumed _ _ _ long w.0 (rw (same_mode, same_epc, w.1, w.2) (stays (sys_at l) (reg_at l) false out refl))

    pub return_in_user : get_or l 2 0 % 2 ≡ 1 → Returns l (set l 0 (get_or l 1 0)) resumed
    return_in_user u = stayed (no_entry_lem (sys_at l) (user_at l true (eq-eqb (get_or l 2 0 % 2) 1 u)))

    module _ (u : get_or l 2 0 % 2 ≡ 1 → ⊥) where
      by_pu : (sys_at l).pu ≡ enters_user (sys_at l)
      by_pu = entry (sys_at l) (user_at l false (ne_eqb (get_or l 2 0 % 2) 1 u))

      pub return_stays : (get_or l 3 0 % 2 ≡ 1 → ⊥) → Returns l (set l 0 (get_or l 1 0)) resumed
      return_stays p = stayed (sym (pu_at l false (ne_eqb (get_or l 3 0 % 2) 1 p)) ∙ by_pu)

      pub return_to_user : (l' : List ℕ) → get_or l 3 0 % 2 ≡ 1 → Exchanges (set (set l 0 (get_or l 1 0)) 2 1) l' → Returns l l' resumed
      return_to_user l' p e =
          let w = entered_words in
          let into : true ≡ enters_user (sys_at l) = sym (pu_at l true (eq-eqb (get_or l 3 0 % 2) 1 p)) ∙ by_pu in
          over_all system_words l resumed _ l' _ long (e.0 ∙ w.0)
          (rw (same_mode, same_epc, e.1, e.2, w.1, w.2) (to_user (sys_at l) (reg_at l) true into _ refl refl))

pub ruleset traps = (exchange_swaps, save_words, words_from_user, words_from_supervisor, trap_none, return_none, return_in_user, return_stays, return_to_user)
