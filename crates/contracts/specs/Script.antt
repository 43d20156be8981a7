-- Scripts: header, sections, events, and the reader: two outcomes that a contract of `script` admits coincide (`Settled.antt`).
use borrow.Fn.Read.{r_last}
use Rattle.contracts.specs.Settled.{Settled, Claim, 𝓛, mem, run}
use Rattle.script.specs.contracts as script

pub record Script : Type 0 where
  pub event_at : Settled script.event_at.ended (λ κs a r e. Claim ((script.event_at.clauses 𝓛 mem run κs a).ensures tt r e) (r_last _))
  pub header_of : Settled script.header.header_of.ended (λ κs a r e. Claim ((script.header.header_of.clauses 𝓛 mem run κs a).ensures tt r e) (r_last _))
  pub event_place : Settled script.header.event_place.ended (λ κs a r e. Claim ((script.header.event_place.clauses 𝓛 mem run κs a).ensures tt r e) (r_last _))
  pub copy_image : Settled script.header.copy_image.ended (λ κs a r e. Claim ((script.header.copy_image.clauses 𝓛 mem run κs a).ensures tt r e) (r_last _))
  pub new : Settled script.reader.Reader.new.ended (λ κs a r e. Claim ((script.reader.Reader.new.clauses 𝓛 mem run κs a).ensures tt r e) (r_last _))
  pub event : Settled script.reader.Reader.event.ended (λ κs a r e. Claim ((script.reader.Reader.event.clauses 𝓛 mem run κs a).ensures tt r e) (r_last _))
  pub next : Settled script.reader.Reader.next.ended (λ κs a r e. Claim ((script.reader.Reader.next.clauses 𝓛 mem run κs a).ensures tt r e) (r_last _))
  pub event_of : Settled script.reader.event_of.ended (λ κs a r e. Claim ((script.reader.event_of.clauses 𝓛 mem run κs a).ensures tt r e) (r_last _))
