-- The shapes of a contract, and why each admits one outcome: what it names is equal to one thing in both.
--
--   answer    == the answer is fixed, and nothing was lent that could change
--   content   == the last content of the first parameter is fixed, and there is no answer
--   both      == the answer and that content, each by its own equation
--   text      == that content and the answer, by one equation of the pair
--   next      == the same, where a parameter that cannot change stands in front
use Rattle.std.proofs.Common.{◌≡◌, sym, ◌∙◌}

module _ {R M : Type 0} where
  pub answer : {f r r' : R} {m : M} → r ≡ f → r' ≡ f → ◌≡◌ {A = R × M} (r, m) (r', m)
  answer {m = m} p q i = ((p ∙ sym q) i, m)

  pub next : {U : Type 0} {u : U} {r r' : R} {m m' : M} → ◌≡◌ {A = R × M} (r, m) (r', m') → ◌≡◌ {A = R × (U × M)} (r, (u, m)) (r', (u, m'))
  next {u = u} e i = ((e i).0, (u, (e i).1))

  module _ {W : Type 0} {m : M} where
    pub content : {r : R} {g w w' : W} → w ≡ g → w' ≡ g → ◌≡◌ {A = R × (W × M)} (r, (w, m)) (r, (w', m))
    content {r = r} p q i = (r, ((p ∙ sym q) i, m))

    pub both : {f r r' : R} {g w w' : W} → (r ≡ f) × (w ≡ g) → (r' ≡ f) × (w' ≡ g) → ◌≡◌ {A = R × (W × M)} (r, (w, m)) (r', (w', m))
    both p q i = ((p.0 ∙ sym q.0) i, ((p.1 ∙ sym q.1) i, m))

    pub text : {r r' : R} {w w' : W} {t : W × R} → (w, r) ≡ t → (w', r') ≡ t → ◌≡◌ {A = R × (W × M)} (r, (w, m)) (r', (w', m))
    text p q i = (((p ∙ sym q) i).1, (((p ∙ sym q) i).0, m))
