-- How much a contract has to say, document 01: "Every public function's contract admits one result and one final content of state
-- and lent memory for each input, refused calls too; prove that any two such outcomes coincide".
--
--   Admits T          == what a contract says of the arguments, the answer and the parameters at exit, for a signature T
--   Settled T P       == two outcomes that P admits for one input coincide: the answer, and the last content of all that was lent
--   Outcome T κs a    == an answer, and the last content of all that was lent
--   Alike T           == when two outcomes of one input are taken for the same
--   SettledAs T P S   == two outcomes that P admits for one input are the same by S: for words of which P fixes what they stand for
--   theorem           == the signature of a function with no parameter and no answer, which only promises
--   Claim P reading   == what whoever has the clause P learns, by a reading of it
--   𝓛, mem, run       == the closed model of the logic, at which a clause is read
--
-- Choices that a reader may question. A state goes in by value and comes back in the answer, so the answer holds it. The last contents
-- (`Lasts`) have a part for each parameter: its last value for a `&mut`, nothing for one that cannot change. P is the function's own
-- contract, the generated `clauses`, read here as the borrow checker reads it for a caller: each clause as one plain fact (`r_last`), and all of
-- them together (`r_join`). A reading is proved, so it tells no more than the clauses. No contract below has a `requires`, so an input is any input. `SettledAs` says less
-- than `Settled`: each relation that it is used with says what is left open, and docs/CONTRACTS.md why.
use Rattle.std.specs.Prelude.{[], ◌≡◌}
use base.Logic.{emp}
use prog.Memory.{Memory}
use prog.Routine.{Routine}
use types.Logic.{Logic}
use contract.Lifetimes.{Lfts}
use contract.Monad.{Fun}
use Rattle.std.specs.Borrow.{unit}
use denote.Signature.{plain}
use denote.Triple.Clauses.{Ended, Lasts, AtExit, at_exit}
use denote.Triple.Entry.{Args, Res}
use borrow.Fn.Claims.{AllOf}
use borrow.Fn.Read.{ReadAt, no_know}
use borrow.Fn.World.{Pr, w₀}

abbrev pub Admits : Ended → Type 1
Admits T = (κs : Lfts T.signature.lifetimes) → Args T.signature κs → Res T.signature κs → AtExit T κs → Type 0

pub record Settled (T : Ended) (P : Admits T) : Type 0 where
  pub coincide :
      {κs : Lfts T.signature.lifetimes} {a : Args T.signature κs} {r r' : Res T.signature κs} {m m' : Lasts T κs a} →
      P κs a r (at_exit T κs a m) →
      P κs a r' (at_exit T κs a m') →
      ◌≡◌ {A = Res T.signature κs × Lasts T κs a} (r, m) (r', m')

abbrev pub Outcome : (T : Ended) (κs : Lfts T.signature.lifetimes) → Args T.signature κs → Type 0
Outcome T κs a = Res T.signature κs × Lasts T κs a

abbrev pub Alike : Ended → Type 1
Alike T = (κs : Lfts T.signature.lifetimes) (a : Args T.signature κs) → Outcome T κs a → Outcome T κs a → Type 0

pub record SettledAs (T : Ended) (P : Admits T) (Same : Alike T) : Type 0 where
  pub agree :
      {κs : Lfts T.signature.lifetimes} {a : Args T.signature κs} {r r' : Res T.signature κs} {m m' : Lasts T κs a} →
      P κs a r (at_exit T κs a m) →
      P κs a r' (at_exit T κs a m') →
      Same κs a (r, m) (r', m')

abbrev pub theorem : Ended
theorem = record {
  signature = record { lifetimes = 0; outlives = []; params = []; result = plain (λ κs. unit) };
  kept = tt;
}

abbrev pub 𝓛 : Logic w₀.𝓤
𝓛 = w₀.𝓛

abbrev pub mem : Memory → Pr w₀
mem = w₀.𝓜.mem

abbrev pub run : Routine → Fun w₀.𝓤
run = w₀.𝓡.returns

abbrev pub Claim : (P : Pr w₀) → ReadAt w₀ (λ w. emp w.𝓤) no_know P → Type 0
Claim P reading = AllOf reading.tells
