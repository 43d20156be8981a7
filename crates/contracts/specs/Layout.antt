-- A state as words: two outcomes that a contract of `layout` admits coincide (`Settled.antt`).
use borrow.Fn.Read.{r_last}
use Rattle.contracts.specs.Settled.{Settled, Claim, 𝓛, mem, run}
use Rattle.layout.specs.contracts as layout

pub record Layout : Type 0 where
  pub copy : Settled layout.copy.ended (λ κs a r e. Claim ((layout.copy.clauses 𝓛 mem run κs a).ensures tt r e) (r_last _))
