-- Contracts over lent words: two outcomes of one `Over` stand for the same, by the equation that it has of each.
--
--   same_words                                                == by what an `Over` says of both: where there are n words by P, else they stay and the answer is `none`
--   words, beside, memory                                     == the same where the answer is all else; where memory was lent too, only to be read; where it was lent to be written
--   two, pair                                                 == two parts of one value that both outcomes are equal to, and a pair by its parts
--   pages_same, grants_same, access_same, step_same, run_same == what the check of pages, a grant, an access, an event and a run say of both
--   reads                                                     == a contract that only reads admits one answer
--   open_words                                                == a flush leaves the words open: an entry without its valid bit has the word 0, and 2 too
--
-- An equation of each outcome with one thing makes the two outcomes equal; whether there are n words is decided, so the answer is equal either way. Assumes
-- nothing.
use Rattle.std.proofs.Common.{ℕ, ◌≡◌, refl, sym, ap, ◌∙◌, List, ◌∷◌, true, false, ◌⊎◌, inl, inr, ⊎_elim, arith, eqb-true, eqb, length, get_or, replicate}
use Rattle.std.specs.Prelude.{Option, Result, Ok, Err}
use Rattle.std.specs.Result.{result_and}
use borrow.Author.Tests.{eqb-false}
use borrow.Fn.Read.{r_last}
use contract.Lifetimes.{Lfts}
use denote.Triple.Entry.{Args}
use Rattle.common.specs.Cases.{bool_is}
use Rattle.layout.specs.Records.{records_of}
use Rattle.layout.specs.Words.{word_at, Over}
use Rattle.mmu.specs.contracts.flat.flush
use Rattle.listing.specs.declared.Line.{Line}
use Rattle.machine.specs.Flat.{accessed_as, stepped_as}
use Rattle.machine.specs.declared.access.Accessed.{Accessed}
use Rattle.machine.specs.declared.event.Stepped.{Stepped}
use Rattle.machine.specs.declared.flat.access.Answer.{Answer}
use Rattle.machine.specs.declared.flat.run.Listed.{Listed}
use Rattle.machine.specs.declared.state.Machine.{Machine}
use Rattle.machine.specs.declared.totals.Totals.{Totals}
use Rattle.mmu.specs.Flat.{vm_words, entry_at, tlb_at, vm_at, pages_as}
use Rattle.mmu.specs.Tlb.{no_entries}
use Rattle.mmu.specs.Vm.{flushed, frame_of}
use Rattle.mmu.specs.declared.check.Checked.{Checked}
use Rattle.mmu.specs.declared.flat.Pages.{Pages}
use Rattle.mmu.specs.declared.vm.Vm.{Vm}
use Rattle.memory.specs.Memory.{Memory}
use Rattle.mmu.specs.declared.exception.Access.{Access}
use Rattle.mmu.specs.declared.exception.Exception.{Exception}
use Rattle.privilege.specs.Flat.{sys_at, reg_at}
use Rattle.privilege.specs.Flat.Access.{at_once, GrantsWord}
use Rattle.privilege.specs.declared.flat.access.Grant.{Grant}
use Rattle.privilege.specs.declared.state.SystemState.{SystemState}
use Rattle.contracts.specs.Settled.{Settled, Claim, 𝓛, mem, run}
use Rattle.contracts.specs.Words.{SameWords}

-- ---- one `Over`, two outcomes

-- two numbers are equal, or they are not
same_or_not : (a b : ℕ) → (a ≡ b) ⊎ (a ≡ b → ⊥)
same_or_not a b = ⊎_elim (λ (t : eqb a b ≡ true). inl (eqb-true a b t)) (λ (t : eqb a b ≡ false). inr (eqb-false a b t)) (bool_is (eqb a b))

module _ {A R : Type 0} {n : ℕ} {at : List ℕ → A} {l x x' : List ℕ} {r r' none : R} {P P' : Type 0} where
  -- U and M: how the outcome has the answer and what else was lent
  pub same_words : {U M : Type 0} (u : R → U) (m : R → M) → (P → P' → (at x ≡ at x') × (r ≡ r'))
      → Over n l x r none P → Over n l x' r' none P' → SameWords {A = A} {R = U} {M = M} n at l (u r, (x, m r)) (u r', (x', m r'))
  same_words u m same p q =
      let rest : r ≡ r' = ⊎_elim (λ (h : length l ≡ n). (same (p.0 h).1 (q.0 h).1).1) (λ (h : length l ≡ n → ⊥). (p.1 h).1 ∙ sym (q.1 h).1) (same_or_not (length l) n) in
      record {
        stand = λ h. ((p.0 h).0 ∙ sym (q.0 h).0, (same (p.0 h).1 (q.0 h).1).0);
        stay = λ h. (p.1 h).0 ∙ sym (q.1 h).0;
        rest = λ i. (u (rest i), m (rest i));
      }

  pub words : {M : Type 0} {m : M} → (P → P' → (at x ≡ at x') × (r ≡ r'))
      → Over n l x r none P → Over n l x' r' none P' → SameWords n at l (r, (x, m)) (r', (x', m))
  words {m = m} = same_words (λ (s : R). s) (λ (s : R). m)

-- an answer with the bytes of memory
module _ {A R M : Type 0} {n : ℕ} {at : List ℕ → A} {l x x' : List ℕ} {r r' none : R} {b b' bytes : List ℕ} {m : M} {P P' : Type 0} where
  pub beside : (P → P' → (at x ≡ at x') × (◌≡◌ {A = R × List ℕ} (r, b) (r', b')))
      → Over {R = R × List ℕ} n l x (r, b) (none, bytes) P → Over {R = R × List ℕ} n l x' (r', b') (none, bytes) P'
      → SameWords n at l (r, (x, m)) (r', (x', m))
  beside = same_words (λ (s : R × List ℕ). s.0) (λ (s : R × List ℕ). m)

  pub memory : (P → P' → (at x ≡ at x') × (◌≡◌ {A = R × List ℕ} (r, b) (r', b')))
      → Over {R = R × List ℕ} n l x (r, b) (none, bytes) P → Over {R = R × List ℕ} n l x' (r', b') (none, bytes) P'
      → SameWords {M = List ℕ × M} n at l (r, (x, (b, m))) (r', (x', (b', m)))
  memory = same_words (λ (s : R × List ℕ). s.0) (λ (s : R × List ℕ). (s.1, m))

-- two parts of what both outcomes are equal to
pub two : {A B C : Type 0} (f : C → A) (g : C → B) {a b c : C} → a ≡ c → b ≡ c → (f a ≡ f b) × (g a ≡ g b)
two f g p q = (ap f (p ∙ sym q), ap g (p ∙ sym q))

pub pair : {A B : Type 0} {a a' f : A} {b b' g : B} → a ≡ f → a' ≡ f → b ≡ g → b' ≡ g → ◌≡◌ {A = A × B} (a, b) (a', b')
pair p p' q q' i = ((p ∙ sym p') i, (q ∙ sym q') i)

pub reads : {R M : Type 0} {a b : ℕ} {r r' none is : R} {m : M} → (a ≡ b → r ≡ is) × ((a ≡ b → ⊥) → r ≡ none) → (a ≡ b → r' ≡ is) × ((a ≡ b → ⊥) → r' ≡ none)
    → ◌≡◌ {A = R × M} (r, m) (r', m)
reads {a = a} {b = b} {r = r} {r' = r'} {m = m} p q =
    let same : r ≡ r' = ⊎_elim (λ (h : a ≡ b). p.0 h ∙ sym (q.0 h)) (λ (h : a ≡ b → ⊥). p.1 h ∙ sym (q.1 h)) (same_or_not a b) in
    λ i. (same i, m)

-- ---- what the contracts say of both

-- the frame is that of the address `at` in the state after the check, where the verdict allows
framed : (at : ℕ) (w : Vm) (r : Pages) → r.frame ≡ result_and r.frame (Ok (frame_of w at)) → r.frame ≡ result_and (pages_as r w).verdict (Ok (frame_of w at))
framed at w r e = e ∙ by r.frame
  where
    by : (f : Result ℕ Exception) → ◌≡◌ {A = Result ℕ Exception} (result_and f (Ok (frame_of w at))) (result_and (result_and {U = Unit {0}} f (Ok tt)) (Ok (frame_of w at)))
    by (Ok p) = refl
    by (Err x) = refl

pub pages_same : (at : ℕ) {C : Checked} {Q Q' : Type 0} {w w' : Vm} {r r' : Pages} → (pages_as r w ≡ C) × Q × (r.frame ≡ result_and r.frame (Ok (frame_of w at)))
    → (pages_as r' w' ≡ C) × Q' × (r'.frame ≡ result_and r'.frame (Ok (frame_of w' at))) → (w ≡ w') × (r ≡ r')
pages_same at {w = w} {w' = w'} {r = r} {r' = r'} p q =
    let c = p.0 ∙ sym q.0 in
    let frame = framed at w r p.2 ∙ ap (λ (x : Checked). result_and x.verdict (Ok (frame_of x.vm at))) c ∙ sym (framed at w' r' q.2) in
    (ap (λ (x : Checked). x.vm) c, λ i. record { frame = frame i; reads = (c i).reads })

-- a word is asked for at once or it is not
pub grants_same : (m : Memory) (l : List ℕ) (a : ℕ) (k : Access) (w w' : List ℕ) {g g' : Option Grant} → GrantsWord m l a k g w → GrantsWord m l a k g' w'
    → (◌≡◌ {A = SystemState × List ℕ} (sys_at w, reg_at w) (sys_at w', reg_at w')) × (g ≡ g')
grants_same m l a k w w' p q =
    ⊎_elim
    (λ (t : at_once (sys_at l) a ≡ true). let e = p.0 t in let d = q.0 t in (pair e.1 d.1 e.2 d.2, e.0 ∙ sym d.0))
    (λ (t : at_once (sys_at l) a ≡ false). let e = p.1 t in let d = q.1 t in (pair e.1 d.1 e.2 d.2, e.0 ∙ sym d.0))
    (bool_is (at_once (sys_at l) a))

module _ {M M' : Machine} {b b' bytes : List ℕ} where
  pub access_same : {r r' : Answer} {f : Accessed} → (accessed_as r M ≡ f) × (b ≡ bytes) → (accessed_as r' M' ≡ f) × (b' ≡ bytes)
      → (M ≡ M') × (◌≡◌ {A = Answer × List ℕ} (r, b) (r', b'))
  access_same p q =
      let c = p.0 ∙ sym q.0 in
      (ap (λ (x : Accessed). x.machine) c, λ i. (record { outcome = (c i).outcome; stall = (c i).stall; reads = (c i).reads }, (p.1 ∙ sym q.1) i))

  pub step_same : {r r' : Line} {f : Stepped} → (stepped_as r M ≡ f) × (b ≡ bytes) → (stepped_as r' M' ≡ f) × (b' ≡ bytes)
      → (M ≡ M') × (◌≡◌ {A = Line × List ℕ} (r, b) (r', b'))
  step_same p q =
      let c = p.0 ∙ sym q.0 in
      (ap (λ (x : Stepped). x.machine) c, λ i. ((c i).line, (p.1 ∙ sym q.1) i))

  pub run_same : {r r' : Listed} {f : Machine} {o o' : List ℕ} {t : List ℕ × ℕ} {totals : Totals}
      → (M ≡ f) × (b ≡ bytes) × (◌≡◌ {A = List ℕ × ℕ} (o, r.place) t) × (r.totals ≡ totals)
      → (M' ≡ f) × (b' ≡ bytes) × (◌≡◌ {A = List ℕ × ℕ} (o', r'.place) t) × (r'.totals ≡ totals)
      → (M ≡ M') × (◌≡◌ {A = Listed × List ℕ × List ℕ} (r, b, o) (r', b', o'))
  run_same p q =
      let listed = p.2 ∙ sym q.2 in
      (p.0 ∙ sym q.0, λ i. (record { place = (listed i).1; totals = (p.3 ∙ sym q.3) i }, (p.1 ∙ sym q.1) i, (listed i).0))

-- ---- words that are left open

-- a flushed state of which the first entry's valid word is w
abbrev flushed_words : List ℕ → ℕ → List ℕ
flushed_words l w = word_at l 0 ∷ word_at l 1 ∷ word_at l 2 ∷ 0 ∷ 0 ∷ w ∷ replicate 63 0

module _ (κs : Lfts 1) (a : Args (flush.ended).signature κs) (long : length a.0.now ≡ vm_words) where
  pub open_words : ¬ (Settled flush.ended (λ κs a r e. Claim ((flush.clauses 𝓛 mem run κs a).ensures tt r e) (r_last _)))
  unfolding vm_at tlb_at entry_at records_of flushed no_entries
  open_words settled =
      let l : List ℕ = a.0.now in
      let same = settled.coincide {κs = κs} {a = a} {r = tt} {r' = tt} {m = (flushed_words l 0, tt)} {m' = (flushed_words l 2, tt)} (λ h. (refl, refl), λ h. absurd (h long)) (λ h. (refl, refl), λ h. absurd (h long)) in
      let valid : ◌≡◌ {A = ℕ} 0 2 = λ i. get_or (same i).1.0 5 0 in
      absurd (omega arith)
