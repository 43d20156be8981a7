-- The machine as 659 words that an owner lends, and what the functions over them promise: the by-value definitions, over what the words stand for.
--
--   cache_from, irqc_from, state_words == where the cache's and the controller's words start, and how many there are
--   irqc_at l, machine_at l            == the controller of three words, and the machine of all
--   Left l l' M                        == the words l become l', as many, which stand for M
--   answer_of, no_answer               == an access's answer, and the one of a slice of another length
--   accessed_as r M                    == the answer r with the machine M, as an access by value gives it
--   Asks l l' k pa r                   == the cache is asked at pa and costs r
--   Permits l l' m a n k r             == the check of an access leaves its state and permits r
--   ReadsPermitted, WritesPermitted    == an access after its check: what it answers and leaves, if the check made this permit and this state
--   Grants l l' m a n k r              == the check of a word inside its page, over a good map, where it allows: as the permit of the grant r; elsewhere there is none, and the machine stays
--   ReadsGranted, WritesGranted        == a word that is granted, at any address inside its page: an access after its check
--   Accesses l l' k m a n v r bytes    == a whole access: it answers r and leaves the memory's bytes
--   Shows l l' r s                     == an event of the state alone comes to s
--   Steps l l' base bytes e r bytes'   == any event: it shows the line r and leaves the memory's bytes
--   AccessesAny, StepsAny              == both over any number of words: where there are not as many as a machine has, nothing moves
use Rattle.std.specs.Prelude.{◌≡◌, ℕ, ◌+◌, ◌%◌, ◌^◌, ◌<◌, ◌≤◌, true, List, length, Option, Some, None, Result, Err}
use Rattle.cache.specs.Flat.{cache_words, cache_at}
use Rattle.common.specs.declared.Refusal.TheVariants as refusal
use Rattle.irqc.specs.declared.IrqController.{IrqController}
use Rattle.layout.specs.Words.{part, word_at, Over}
use Rattle.listing.specs.declared.Line.{Line}
use Rattle.memory.specs.Gate.{map_good}
use Rattle.memory.specs.Memory.{Memory, lent}
use Rattle.mmu.specs.declared.exception.Access.{Access}
use Rattle.mmu.specs.declared.exception.Access.TheVariants.{Write}
use Rattle.privilege.specs.Access.{check_access}
use Rattle.privilege.specs.Flat.{system_words, sys_at, reg_at}
use Rattle.privilege.specs.Flat.Access.{permit_of, permit_for}
use Rattle.privilege.specs.declared.flat.access.Grant.{Grant}
use Rattle.privilege.specs.declared.flat.access.Permit.{Permit}
use Rattle.privilege.specs.declared.state.SystemState.{SystemState}
use Rattle.script.specs.declared.Event.{Event}
use Rattle.machine.specs.Access.{Effect, presented, permitted, looked_up, access_of}
use Rattle.machine.specs.Event.{refusing, step_of}
use Rattle.machine.specs.State.{with_sys, with_cache}
use Rattle.machine.specs.declared.access.Accessed.{Accessed}
use Rattle.machine.specs.declared.access.Fault.TheVariants as outcome
use Rattle.machine.specs.declared.access.Fault.{Fault}
use Rattle.machine.specs.declared.event.Stepped.{Stepped}
use Rattle.machine.specs.declared.flat.access.Answer.{Answer}
use Rattle.machine.specs.declared.state.Machine.{Machine}

-- ---- the words

abbrev pub cache_from : ℕ
cache_from = system_words

abbrev pub irqc_from : ℕ
irqc_from = cache_from + cache_words

abbrev pub state_words : ℕ
state_words = irqc_from + 3

abbrev pub irqc_at : List ℕ → IrqController
irqc_at l = record { pending = word_at l 0 % 2 ^ 16; enable = word_at l 1 % 2 ^ 16; source_level = word_at l 2 % 2 ^ 16 }

unfoldable pub machine_at : List ℕ → Machine
machine_at l =
    record {
      sys = sys_at (part 0 system_words l);
      cache = cache_at (part cache_from cache_words l);
      irqc = irqc_at (part irqc_from 3 l);
      reg = reg_at (part 0 system_words l);
    }

abbrev pub Left : List ℕ → List ℕ → Machine → Type 0
Left l l' M = (length l' ≡ length l) × (machine_at l' ≡ M)

-- ---- an access

abbrev pub answer_of : Result ℕ Fault → ℕ → ℕ → Answer
answer_of outcome stall reads = record { outcome = outcome; stall = stall; reads = reads }

abbrev pub no_answer : Answer
no_answer = answer_of (Err (outcome.Refused refusal.Map)) 0 0

abbrev pub accessed_as : Answer → Machine → Accessed
accessed_as r M = record { machine = M; outcome = r.outcome; stall = r.stall; reads = r.reads }

abbrev pub Asks : List ℕ → List ℕ → Access → ℕ → ℕ → Type 0
Asks l l' k pa r =
    Left l l' (with_cache (machine_at l) (presented k (machine_at l).cache pa).cache) × (r ≡ (presented k (machine_at l).cache pa).stall)

abbrev pub Permits : List ℕ → List ℕ → Memory → ℕ → ℕ → Access → Permit → Type 0
Permits l l' m a n k r =
    Left l l' (with_sys (machine_at l) (check_access m (machine_at l).sys a n k).sys) × (r ≡ permit_of (check_access m (machine_at l).sys a n k) a n)

-- what an access comes to by the check that was made in the state s
abbrev pub checked_in : SystemState → Machine → Memory → ℕ → ℕ → ℕ → Access → Effect
checked_in s M m a n v k =
    let c = check_access m s a n k in
    permitted k M m (looked_up c a n) n v c c.permission

abbrev pub ReadsPermitted : List ℕ → List ℕ → Memory → ℕ → ℕ → Access → Permit → Answer → Type 0
ReadsPermitted l l' m a n k permit r =
    (length l' ≡ length l)
    × ((s : SystemState) → (machine_at l).sys ≡ (check_access m s a n k).sys → permit ≡ permit_of (check_access m s a n k) a n
    → accessed_as r (machine_at l') ≡ (checked_in s (machine_at l) m a n 0 k).accessed)

abbrev pub WritesPermitted : List ℕ → List ℕ → Memory → ℕ → ℕ → ℕ → Permit → Answer → List ℕ → Type 0
WritesPermitted l l' m a n v permit r bytes =
    (length l' ≡ length l)
    × ((s : SystemState) → (machine_at l).sys ≡ (check_access m s a n Write).sys → permit ≡ permit_of (check_access m s a n Write) a n
    → (accessed_as r (machine_at l') ≡ (checked_in s (machine_at l) m a n v Write).accessed) × (bytes ≡ (checked_in s (machine_at l) m a n v Write).memory.bytes))

-- an address of a word inside its page
abbrev pub WordInPage : ℕ → Type 0
WordInPage a = (a < 2 ^ 32) × (a % 4096 ≤ 4092)

abbrev pub Grants : List ℕ → List ℕ → Memory → ℕ → ℕ → Access → Option Grant → Type 0
Grants l l' m a n k r =
    ((g : Grant) → r ≡ Some g → (n ≡ 4) × (map_good m ≡ true) × WordInPage a × Permits l l' m a n k (permit_for g)) × (r ≡ None → Left l l' (machine_at l))

abbrev pub ReadsGranted : List ℕ → List ℕ → Memory → Access → Grant → Answer → Type 0
ReadsGranted l l' m k g r = (a : ℕ) → WordInPage a → ReadsPermitted l l' m a 4 k (permit_for g) r

abbrev pub WritesGranted : List ℕ → List ℕ → Memory → ℕ → Grant → Answer → List ℕ → Type 0
WritesGranted l l' m v g r bytes = (a : ℕ) → WordInPage a → WritesPermitted l l' m a 4 v (permit_for g) r bytes

abbrev pub Accesses : List ℕ → List ℕ → Access → Memory → ℕ → ℕ → ℕ → Answer → List ℕ → Type 0
Accesses l l' k m a n v r bytes =
    (accessed_as r (machine_at l') ≡ (access_of k (machine_at l) m a n v).accessed) × (bytes ≡ (access_of k (machine_at l) m a n v).memory.bytes)

-- the same over any words
abbrev pub AccessesAny : List ℕ → List ℕ → Access → ℕ → List ℕ → ℕ → ℕ → ℕ → Answer → List ℕ → Type 0
AccessesAny l l' k base bytes a n v r bytes' =
    Over {R = Answer × List ℕ} state_words l l' (r, bytes') (no_answer, bytes) (Accesses l l' k (lent base bytes) a n v r bytes')

-- ---- an event

abbrev pub stepped_as : Line → Machine → Stepped
stepped_as r M = record { machine = M; line = r }

abbrev pub no_line : Line
no_line = refusing refusal.Map

abbrev pub Shows : List ℕ → List ℕ → Line → Stepped → Type 0
Shows l l' r s = (length l' ≡ length l) × (stepped_as r (machine_at l') ≡ s)

abbrev pub Steps : List ℕ → List ℕ → ℕ → List ℕ → Event → Line → List ℕ → Type 0
Steps l l' base bytes e r bytes' =
    (stepped_as r (machine_at l') ≡ (step_of (machine_at l) (lent base bytes) e).stepped) × (bytes' ≡ (step_of (machine_at l) (lent base bytes) e).memory.bytes)

-- the same over any words
abbrev pub StepsAny : List ℕ → List ℕ → ℕ → List ℕ → Event → Line → List ℕ → Type 0
StepsAny l l' base bytes e r bytes' = Over {R = Line × List ℕ} state_words l l' (r, bytes') (no_line, bytes) (Steps l l' base bytes e r bytes')
