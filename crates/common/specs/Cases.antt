-- Reasoning by the cases of a test.
--
--   bool_is                        == a Bool is true or false
--   cond_holds                     == what holds of both branches holds of the choice
--   cond_case                      == the same, where each branch may use what the test said
--   lt_or_ge                       == of two numbers the first is smaller, or it is not
--   and_left, and_right, and_false == what a conjunction says of its parts
--   absurd_eq                      == two constructors that are equal prove anything: `cc` finds `0 ≡ 1`
use Rattle.std.specs.Prelude.{ℕ, ◌<◌, ◌≤◌, ◌≡◌, refl, Bool, true, false, cond, ◌&&◌, ◌⊎◌, ltb}
use Rattle.std.proofs.Common.{inl, inr, ⊎_elim, arith, ltb-true, ltb-false}

pub bool_is : (b : Bool) → (b ≡ true) ⊎ (b ≡ false)
bool_is true = inl refl
bool_is false = inr refl

pub lt_or_ge : (a b : ℕ) → (a < b) ⊎ (b ≤ a)
lt_or_ge a b = ⊎_elim (λ (t : ltb a b ≡ true). inl (ltb-true a b t)) (λ (t : ltb a b ≡ false). inr (ltb-false a b t)) (bool_is (ltb a b))

pub cond_holds : {A : Type 0} (P : A → Type 0) (t : Bool) {x y : A} → P x → P y → P (cond t x y)
cond_holds P true p q = p
cond_holds P false p q = q

pub cond_case : {A : Type 0} (P : A → Type 0) (t : Bool) {x y : A} → (t ≡ true → P x) → (t ≡ false → P y) → P (cond t x y)
cond_case P true p q = p refl
cond_case P false p q = q refl

pub absurd_eq : {A : Type 0} → ◌≡◌ {A = ℕ} 0 1 → A
absurd_eq z = absurd (omega arith)

pub and_left : (a b : Bool) → (a && b) ≡ true → a ≡ true
and_left true b p = refl
and_left false b p = p

pub and_right : (a b : Bool) → (a && b) ≡ true → b ≡ true
and_right true b p = p
and_right false b p = absurd_eq (cc)

pub and_false : (b : Bool) → (b && false) ≡ false
and_false true = refl
and_false false = refl
