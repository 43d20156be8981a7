-- Demand 3: two runs of one sequence of a user's accesses.
--
--   Answer           == what an access shows: value, bus error, exception or refusal; stall; walk reads
--   ran_ops os M m   == the accesses one after the other, each on what the one before it left
--   Keeps hidden m x == the hidden bytes of x are those of m
--   Isolated         == "both runs give the same values, bus errors, exceptions, stalls and walk counts, reach the same TLB, cache and other
--                       bytes, and each keeps its own hidden bytes"; all other state is the same too
--   InPages          == the same of accesses that stay in their pages, aligned or not
--   Demand3          == the demand, which follows from it
--   Integrity        == a user's run changes no byte outside the pages that are open to it for writing
--   Confidentiality  == a user's run shows nothing of a byte that lies in no page open to it and in no table
use Rattle.std.specs.Prelude.{ℕ, ◌≡◌, Bool, true, List, [], ◌∷◌, ◌≢◌, None, Result}
use Rattle.memory.specs.Memory.{Memory, byte_at}
use Rattle.memory.specs.Memory.Laws.{SameMap}
use Rattle.machine.specs.declared.access.Fault.{Fault}
use Rattle.mmu.specs.Opened.{TableByte, Opened}
use Rattle.mmu.specs.declared.exception.Access.{Access}
use Rattle.mmu.specs.declared.exception.Access.TheVariants.{Write}
use Rattle.mmu.specs.declared.vm.Vm.{Vm}
use Rattle.machine.specs.Access.{Effect, access_of}
use Rattle.machine.specs.declared.state.Machine.{Machine}
use Rattle.isolation.specs.Premises.{Op, AllAligned, AllInPage, InUserMode, Sixteen, Alike, Sealed}

pub record Answer : Type 0 where
  pub outcome : Result ℕ Fault
  pub stall : ℕ
  pub reads : ℕ

pub record Ran : Type 0 where
  pub answers : List Answer
  pub machine : Machine
  pub memory : Memory

abbrev pub result_of : Op → Machine → Memory → Effect
result_of o M m = access_of o.kind M m o.addr o.size o.value

abbrev pub answer_of : Effect → Answer
answer_of r = record { outcome = r.accessed.outcome; stall = r.accessed.stall; reads = r.accessed.reads }

abbrev pub before : Answer → Ran → Ran
before x r = record { answers = x ∷ r.answers; machine = r.machine; memory = r.memory }

unfoldable pub ran_ops : List Op → Machine → Memory → Ran
ran_ops [] M m = record { answers = []; machine = M; memory = m }
ran_ops (o ∷ os) M m =
    let r = result_of o M m in
    before (answer_of r) (ran_ops os r.accessed.machine r.memory)

abbrev pub Keeps : (ℕ → Bool) → Memory → Memory → Type 0
Keeps hidden m x = (a : ℕ) → hidden a ≡ true → byte_at x a ≡ byte_at m a

pub record Isolated (hidden : ℕ → Bool) (m m' : Memory) (x x' : Ran) : Type 0 where
  pub answers : x.answers ≡ x'.answers
  pub machine : x.machine ≡ x'.machine
  pub alike : Alike hidden x.memory x'.memory
  pub own : Keeps hidden m x.memory
  pub own' : Keeps hidden m' x'.memory

unfoldable pub InPages : Type 0
InPages =
    (hidden : ℕ → Bool) (os : List Op) (M : Machine) (m m' : Memory)
    → AllInPage os → InUserMode M → Sixteen M → Alike hidden m m' → Sealed hidden m M.sys.vm
    → Isolated hidden m m' (ran_ops os M m) (ran_ops os M m')

unfoldable pub Demand3 : Type 0
Demand3 =
    (hidden : ℕ → Bool) (os : List Op) (M : Machine) (m m' : Memory)
    → AllAligned os → InUserMode M → Sixteen M → Alike hidden m m' → Sealed hidden m M.sys.vm
    → Isolated hidden m m' (ran_ops os M m) (ran_ops os M m')

-- ---- in the words of the question

-- premise 3 alone: no table byte of the map lies in a page that is open for user writing
abbrev pub TablesShut : Memory → Vm → Type 0
TablesShut m vm = (a : ℕ) → byte_at m a ≢ None → TableByte m vm.ptbr a → ¬ Opened m vm Write a

-- "can it touch the finish line's crossings?": a byte in no page that is open for writing is as it was
unfoldable pub Integrity : Type 0
Integrity =
    (os : List Op) (M : Machine) (m : Memory) → AllAligned os → InUserMode M → Sixteen M → TablesShut m M.sys.vm
    → (b : ℕ) → ¬ Opened m M.sys.vm Write b → byte_at (ran_ops os M m).memory b ≡ byte_at m b

-- and what it learns: two memories that differ in one byte, which is in no table and in no open page, give the same answers
unfoldable pub Confidentiality : Type 0
Confidentiality =
    (os : List Op) (M : Machine) (m m' : Memory) (b : ℕ) → AllAligned os → InUserMode M → Sixteen M → TablesShut m M.sys.vm
    → SameMap m m' → ((a : ℕ) → a ≢ b → byte_at m a ≡ byte_at m' a) → ¬ TableByte m M.sys.vm.ptbr b → ((k : Access) → ¬ Opened m M.sys.vm k b)
    → (ran_ops os M m).answers ≡ (ran_ops os M m').answers
