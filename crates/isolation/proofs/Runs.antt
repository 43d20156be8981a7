-- Runs of any length, by one access after the other. Assumes nothing.
use Rattle.std.proofs.Common.{◌≡◌, ℕ, Bool, false, eqb, List, [], ◌∷◌, refl, ◌∙◌, ap₂, eqb-true}
use borrow.Author.Tests.{eqb-false}
use Rattle.common.specs.Cases.{absurd_eq}
use Rattle.memory.specs.Memory.{Memory, byte_at}
use Rattle.memory.specs.Memory.Laws.{same_map}
use Rattle.mmu.specs.Opened.{Opened}
use Rattle.mmu.specs.declared.exception.Access.TheVariants.{Write}
use Rattle.mmu.specs.declared.vm.Vm.{Vm}
use Rattle.privilege.specs.Confined.{aligned_stays}
use Rattle.machine.specs.declared.state.Machine.{Machine}
use Rattle.isolation.specs.Premises.{Op, AllAligned, AllInPage, InUserMode, Sixteen, Alike, Sealed}
use Rattle.isolation.specs.Demand3.{Answer, result_of, ran_ops, Isolated, InPages, Demand3, TablesShut, Integrity, Confidentiality}
use Rattle.isolation.proofs.Steps.{held}

isolated : (hidden : ℕ → Bool) (os : List Op) (M : Machine) (m m' : Memory) → AllInPage os → InUserMode M → Sixteen M → Alike hidden m m' → Sealed hidden m M.sys.vm
    → Isolated hidden m m' (ran_ops os M m) (ran_ops os M m')
unfolding ran_ops
isolated hidden [] M m m' al run slots alike here =
    record { answers = refl; machine = refl; alike = alike; own = λ a h. refl; own' = λ a h. refl }
isolated hidden (o ∷ os) M m m' al run slots alike here =
    let k = held hidden M m m' run slots alike here o al.0 in
    let r = result_of o M m in
    let r' = result_of o M m' in
    let rest = isolated hidden os r.accessed.machine r.memory r'.memory al.1 k.user k.slots k.alike k.closed in
    rw (← k.machine)
    (record {
      answers = ap₂ (λ (x : Answer) (l : List Answer). x ∷ l) k.answer rest.answers;
      machine = rest.machine;
      alike = rest.alike;
      own = λ a h. rest.own a h ∙ k.own a h;
      own' = λ a h. rest.own' a h ∙ k.own' a h;
    })

pub in_pages : InPages
unfolding InPages
in_pages = isolated

-- aligned accesses stay in their pages
all_stay : (os : List Op) → AllAligned os → AllInPage os
all_stay [] al = tt
all_stay (o ∷ os) al = ((al.0.0, aligned_stays o.kind o.addr o.size al.0.1), all_stay os al.1)

pub demand3 : Demand3
unfolding Demand3
demand3 hidden os M m m' al = isolated hidden os M m m' (all_stay os al)

-- ---- in the words of the question

-- where nothing is hidden, the premises are the third alone
nothing_hidden : (m : Memory) (vm : Vm) → TablesShut m vm → Sealed (λ a. false) m vm
nothing_hidden m vm shut = record { tables = λ a h. absurd_eq (cc); pages = λ a h. absurd_eq (cc); unwritable = shut }

kept_byte : (os : List Op) (M : Machine) (m : Memory) → AllInPage os → InUserMode M → Sixteen M → TablesShut m M.sys.vm
    → (b : ℕ) → ¬ Opened m M.sys.vm Write b → byte_at (ran_ops os M m).memory b ≡ byte_at m b
unfolding ran_ops
kept_byte [] M m al run slots shut b n = refl
kept_byte (o ∷ os) M m al run slots shut b n =
    let k = held (λ a. false) M m m run slots (record { map = same_map m; bytes = λ a h. refl }) (nothing_hidden m M.sys.vm shut) o al.0 in
    let r = result_of o M m in
    kept_byte os r.accessed.machine r.memory al.1 k.user k.slots k.closed.unwritable b (λ w. n (k.opens Write b w)) ∙ k.writes b n

pub integrity : Integrity
unfolding Integrity
integrity os M m al = kept_byte os M m (all_stay os al)

pub confidentiality : Confidentiality
unfolding Confidentiality
confidentiality os M m m' b al run slots shut map bytes table page =
    (isolated (λ a. eqb a b) os M m m' (all_stay os al) run slots
    (record { map = map; bytes = λ a h. bytes a (eqb-false a b h) })
    (record {
      tables = λ a h t. table (rw (eqb-true a b h) at t);
      pages = λ a h k w. page k (rw (eqb-true a b h) at w);
      unwritable = shut;
    })
    ).answers
