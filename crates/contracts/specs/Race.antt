-- A whole race under a C name: two outcomes that the contract of `race` admits coincide (`Settled.antt`).
use borrow.Fn.Read.{r_last, r_join}
use Rattle.contracts.specs.Settled.{Settled, Claim, 𝓛, mem, run}
use Rattle.race.specs.contracts as race

pub record Race : Type 0 where
  pub race_run : Settled race.race_run.ended (λ κs a r e. Claim ((race.race_run.clauses 𝓛 mem run κs a).ensures tt r e) (r_join _ _ (r_last _) (r_last _)))
