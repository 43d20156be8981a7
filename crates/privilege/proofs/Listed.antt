-- Register numbers: those that are listed, those that are not, and what each reads and writes. Assumes nothing.
use Rattle.std.proofs.Common.{◌≡◌, ℕ, zero, suc, ◌+◌, ◌-◌, ◌*◌, ◌/◌, ◌%◌, ◌<◌, Bool, true, false, cond, ◌&&◌, ◌||◌, eqb, ltb, leb, List, get_or, set, sym, refl, ◌∙◌, ⊎_elim, arith, ltb-false, ltb-true, lt-ltb, le-leb, leb-false, leb-true, Some, None, Result, Ok, Err}
use Rattle.std.proofs.lemmas.Bool.{eqb-false}
use Rattle.common.specs.Cases.{bool_is, cond_holds, absurd_eq, and_left, and_right}
use Rattle.common.specs.declared.Refusal.{Refusal}
use Rattle.common.specs.declared.Refusal.TheVariants.{Register}
use Rattle.privilege.specs.Meaning.{is_region, known}
use Rattle.privilege.specs.Region.{field_of, with_field}
use Rattle.privilege.specs.Registers.{region_field, user_read, user_written, written, sr_read, sr_written}
use Rattle.privilege.specs.State.{no_region, bit_if, status_of, with_other, with_regions}
use Rattle.privilege.specs.declared.state.SystemState.{SystemState}
use Rattle.privilege.specs.declared.registers.SrWritten.{SrWritten}
use Rattle.privilege.proofs.Numbers.{field_at, field_none, field_above, field_below, Unnamed, read_other, write_other}

-- where none of the listed tests holds
neither : (t rest : Bool) → (t || rest) ≡ false → (t ≡ false) × (rest ≡ false)
neither true rest h = absurd_eq (cc)
neither false rest h = (refl, h)

none_listed : (sr : ℕ) → known sr ≡ false → Unnamed sr × (is_region sr ≡ false)
none_listed sr h =
    let n0 = neither (eqb sr 0x00) _ h in
    let n1 = neither (eqb sr 0x01) _ n0.1 in
    let n2 = neither (eqb sr 0x02) _ n1.1 in
    let n3 = neither (eqb sr 0x08) _ n2.1 in
    let n4 = neither (eqb sr 0x09) _ n3.1 in
    let n5 = neither (eqb sr 0x0A) _ n4.1 in
    let n6 = neither (eqb sr 0x40) _ n5.1 in
    let n7 = neither (eqb sr 0x41) _ n6.1 in
    let n8 = neither (eqb sr 0x42) _ n7.1 in
    let n9 = neither (eqb sr 0x43) _ n8.1 in
    let n10 = neither (eqb sr 0x44) (is_region sr) n9.1 in (
      (
        eqb-false sr 0x00 n0.0,
        eqb-false sr 0x01 n1.0,
        eqb-false sr 0x02 n2.0,
        eqb-false sr 0x08 n3.0,
        eqb-false sr 0x09 n4.0,
        eqb-false sr 0x0A n5.0,
        eqb-false sr 0x40 n6.0,
        eqb-false sr 0x41 n7.0,
        eqb-false sr 0x42 n8.0,
        eqb-false sr 0x43 n9.0,
        eqb-false sr 0x44 n10.0,
      ),
      n10.1,
    )

-- a choice by the eleven numbers that stand alone and then by the regions, where one of them is the number
next_known : {A : Type 0} (P : A → Type 0) (t rest : Bool) {x y : A} → P x → (rest ≡ true → P y) → (t || rest) ≡ true → P (cond t x y)
next_known P true rest p q h = p
next_known P false rest p q h = q h

if_known : {A : Type 0} (P : A → Type 0) (sr : ℕ) {a0 a1 a2 a8 a9 aA a40 a41 a42 a43 a44 other : A}
    → P a0 → P a1 → P a2 → P a8 → P a9 → P aA → P a40 → P a41 → P a42 → P a43 → P a44 → (is_region sr ≡ true → P other) → known sr ≡ true
    → P
    (cond (eqb sr 0x00) a0
    (cond (eqb sr 0x01) a1
    (cond (eqb sr 0x02) a2
    (cond (eqb sr 0x08) a8
    (cond (eqb sr 0x09) a9
    (cond (eqb sr 0x0A) aA
    (cond (eqb sr 0x40) a40
    (cond (eqb sr 0x41) a41
    (cond (eqb sr 0x42) a42
    (cond (eqb sr 0x43) a43
    (cond (eqb sr 0x44) a44 other)))))))))))
if_known P sr p0 p1 p2 p8 p9 pA p40 p41 p42 p43 p44 q =
    next_known P (eqb sr 0x00) _ p0
    (next_known P (eqb sr 0x01) _ p1
    (next_known P (eqb sr 0x02) _ p2
    (next_known P (eqb sr 0x08) _ p8
    (next_known P (eqb sr 0x09) _ p9
    (next_known P (eqb sr 0x0A) _ pA
    (next_known P (eqb sr 0x40) _ p40
    (next_known P (eqb sr 0x41) _ p41
    (next_known P (eqb sr 0x42) _ p42
    (next_known P (eqb sr 0x43) _ p43
    (next_known P (eqb sr 0x44) _ p44 q))))))))))

region_some : (sr : ℕ) → is_region sr ≡ true → region_field sr ≡ Some (((sr - 16) / 4), ((sr - 16) % 4))
region_some sr h =
    let low = leb-true 0x10 sr (and_left (leb 0x10 sr) (leb sr 0x2E) (and_left (leb 0x10 sr && leb sr 0x2E) (ltb (sr % 4) 3) h)) in
    let high = leb-true sr 0x2E (and_right (leb 0x10 sr) (leb sr 0x2E) (and_left (leb 0x10 sr && leb sr 0x2E) (ltb (sr % 4) 3) h)) in
    let field = ltb-true (sr % 4) 3 (and_right (leb 0x10 sr && leb sr 0x2E) (ltb (sr % 4) 3) h) in
    sym (field_at sr low (omega arith) (omega arith))

region_none : (sr : ℕ) → is_region sr ≡ false → region_field sr ≡ None
region_none sr h =
    ⊎_elim
    (λ (b : leb 16 sr ≡ true).
    ⊎_elim
    (λ (n : ltb ((sr - 16) / 4) 8 ≡ true).
    ⊎_elim
    (λ (f : ltb ((sr - 16) % 4) 3 ≡ true). absurd_eq (let z : true ≡ false = sym (all b n f) ∙ h in cc))
    (λ (f : ltb ((sr - 16) % 4) 3 ≡ false). sym (field_none sr (leb-true 16 sr b) (ltb-true _ 8 n) (ltb-false _ 3 f)))
    (bool_is (ltb ((sr - 16) % 4) 3)))
    (λ (n : ltb ((sr - 16) / 4) 8 ≡ false). sym (field_above sr (leb-true 16 sr b) (ltb-false _ 8 n)))
    (bool_is (ltb ((sr - 16) / 4) 8)))
    (λ (b : leb 16 sr ≡ false). sym (field_below sr (leb-false 16 sr b)))
    (bool_is (leb 16 sr))
  where
    all : leb 16 sr ≡ true → ltb ((sr - 16) / 4) 8 ≡ true → ltb ((sr - 16) % 4) 3 ≡ true → is_region sr ≡ true
    all b n f =
        let low = leb-true 16 sr b in
        let few = ltb-true ((sr - 16) / 4) 8 n in
        let field = ltb-true ((sr - 16) % 4) 3 f in
        rw (b, le-leb sr 0x2E (omega arith), lt-ltb (sr % 4) 3 (omega arith))

abbrev IsDone : SrWritten → Type 0
IsDone r = r.answer ≡ Ok tt

user_done : (s : SystemState) (i v : ℕ) (reg : List ℕ) → IsDone (user_written s i v reg)
unfolding user_written
user_done s i v reg = cond_holds IsDone s.user refl refl

module _ (s : SystemState) (sr : ℕ) (reg : List ℕ) where
  pub unknown_read : known sr ≡ false → sr_read s sr reg ≡ Err Register
  unknown_read h = let n = none_listed sr h in read_other s sr reg n.0 ∙ rw (region_none sr n.1)

  pub unknown_written : (v : ℕ) → known sr ≡ false → sr_written s sr v reg ≡ record { sys = s; reg = reg; answer = Err Register }
  unknown_written v h = let n = none_listed sr h in write_other s sr reg n.0 v ∙ rw (region_none sr n.1)

  pub known_read : (r : Refusal) → known sr ≡ true → sr_read s sr reg ≡ Err r → ⊥
  unfolding sr_read
  known_read r =
      let value : (v : ℕ) → Ok v ≡ Err r → ⊥ = λ v e. absurd_eq (cc) in
      if_known (λ (x : Result ℕ Refusal). x ≡ Err r → ⊥) sr (value (status_of s)) (value s.epc) (value s.cause) (value (user_read s 0 reg))
      (value (user_read s 1 reg)) (value (user_read s 2 reg)) (value (bit_if s.vm.enabled 1)) (value s.vm.ptbr) (value s.vm.vfault) (value 0)
      (value 0) (λ h. rw (region_some sr h) (value (field_of (get_or s.regions ((sr - 16) / 4) no_region) ((sr - 16) % 4))))

  pub known_written : (v : ℕ) → known sr ≡ true → (sr_written s sr v reg).answer ≡ Ok tt
  unfolding sr_written
  known_written v =
      if_known IsDone sr refl refl refl (user_done s 0 v reg) (user_done s 1 v reg) (user_done s 2 v reg) refl refl refl refl refl
      (λ h. rw (region_some sr h))

module _ (s : SystemState) (reg : List ℕ) where
  pub user_read_lem : (i : ℕ) → i < 3 → sr_read s (0x08 + i) reg ≡ Ok (cond s.user (get_or reg (28 + i) 0) (get_or s.other_bank i 0))
  unfolding sr_read user_read
  user_read_lem zero h = refl
  user_read_lem (suc zero) h = refl
  user_read_lem (suc (suc zero)) h = refl
  user_read_lem (suc (suc (suc i))) h = absurd (omega arith)

  pub user_written_lem : (i v : ℕ) → i < 3
      → sr_written s (0x08 + i) v reg ≡ cond s.user (written s (set reg (28 + i) v)) (written (with_other s (set s.other_bank i v)) reg)
  unfolding sr_written user_written
  user_written_lem zero v h = refl
  user_written_lem (suc zero) v h = refl
  user_written_lem (suc (suc zero)) v h = refl
  user_written_lem (suc (suc (suc i))) v h = absurd (omega arith)

  module _ (n f : ℕ) (hn : n < 8) (hf : f < 3) where
    unnamed : Unnamed (0x10 + 4 * n + f)
    unnamed = (λ e. omega arith, λ e. omega arith, λ e. omega arith, λ e. omega arith, λ e. omega arith, λ e. omega arith, λ e. omega arith, λ e. omega arith, λ e. omega arith, λ e. omega arith, λ e. omega arith)

    number_is : region_field (0x10 + 4 * n + f) ≡ Some (n, f)
    number_is =
        let sr = 0x10 + 4 * n + f in
        let region : (sr - 16) / 4 ≡ n = omega arith in
        let field : (sr - 16) % 4 ≡ f = omega arith in
        rw (region, field) at (sym (field_at sr (omega arith) (omega arith) (omega arith)))

    pub region_read_lem : sr_read s (0x10 + 4 * n + f) reg ≡ Ok (field_of (get_or s.regions n no_region) f)
    region_read_lem = read_other s (0x10 + 4 * n + f) reg unnamed ∙ rw number_is

    pub region_written_lem : (v : ℕ)
        → sr_written s (0x10 + 4 * n + f) v reg ≡ written (with_regions s (set s.regions n (with_field (get_or s.regions n no_region) f v))) reg
    region_written_lem v = write_other s (0x10 + 4 * n + f) reg unnamed v ∙ rw number_is
