-- Text in a lent buffer: two outcomes that a contract of `text` admits coincide (`Settled.antt`).
use borrow.Fn.Read.{r_last}
use Rattle.contracts.specs.Settled.{Settled, Claim, 𝓛, mem, run}
use Rattle.text.specs.contracts as text

pub record Text : Type 0 where
  pub put_byte : Settled text.put_byte.ended (λ κs a r e. Claim ((text.put_byte.clauses 𝓛 mem run κs a).ensures tt r e) (r_last _))
  pub put_bytes : Settled text.put_bytes.ended (λ κs a r e. Claim ((text.put_bytes.clauses 𝓛 mem run κs a).ensures tt r e) (r_last _))
  pub put_hex : Settled text.put_hex.ended (λ κs a r e. Claim ((text.put_hex.clauses 𝓛 mem run κs a).ensures tt r e) (r_last _))
  pub put_decimal : Settled text.put_decimal.ended (λ κs a r e. Claim ((text.put_decimal.clauses 𝓛 mem run κs a).ensures tt r e) (r_last _))
