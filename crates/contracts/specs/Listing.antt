-- The lines of a listing: two outcomes that a contract of `listing` admits coincide (`Settled.antt`).
use borrow.Fn.Read.{r_last}
use Rattle.contracts.specs.Settled.{Settled, Claim, 𝓛, mem, run}
use Rattle.listing.specs.contracts as listing

pub record Listing : Type 0 where
  pub new : Settled listing.Line.new.ended (λ κs a r e. Claim ((listing.Line.new.clauses 𝓛 mem run κs a).ensures tt r e) (r_last _))
  pub put_line : Settled listing.put_line.ended (λ κs a r e. Claim ((listing.put_line.clauses 𝓛 mem run κs a).ensures tt r e) (r_last _))
  pub put_end : Settled listing.put_end.ended (λ κs a r e. Claim ((listing.put_end.clauses 𝓛 mem run κs a).ensures tt r e) (r_last _))
  pub put_refused : Settled listing.put_refused.ended (λ κs a r e. Claim ((listing.put_refused.clauses 𝓛 mem run κs a).ensures tt r e) (r_last _))
