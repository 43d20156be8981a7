-- Big-endian numbers, and the numbers of refusals: two outcomes that a contract of `common` admits coincide (`Settled.antt`).
use borrow.Fn.Read.{r_last}
use Rattle.contracts.specs.Settled.{Settled, Claim, 𝓛, mem, run}
use Rattle.common.specs.contracts as common

pub record Common : Type 0 where
  pub be_half : Settled common.be_half.ended (λ κs a r e. Claim ((common.be_half.clauses 𝓛 mem run κs a).ensures tt r e) (r_last _))
  pub be_word : Settled common.be_word.ended (λ κs a r e. Claim ((common.be_word.clauses 𝓛 mem run κs a).ensures tt r e) (r_last _))
  pub number : Settled common.Refusal.number.ended (λ κs a r e. Claim ((common.Refusal.number.clauses 𝓛 mem run κs a).ensures tt r e) (r_last _))
