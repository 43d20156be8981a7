-- Lent memory: two outcomes that a contract of `memory` admits coincide (`Settled.antt`).
use borrow.Fn.Read.{r_last}
use Rattle.contracts.specs.Settled.{Settled, Claim, 𝓛, mem, run}
use Rattle.memory.specs.contracts as memory

pub record Memory : Type 0 where
  pub good_range : Settled memory.good_range.ended (λ κs a r e. Claim ((memory.good_range.clauses 𝓛 mem run κs a).ensures tt r e) (r_last _))
  pub good_map : Settled memory.good_map.ended (λ κs a r e. Claim ((memory.good_map.clauses 𝓛 mem run κs a).ensures tt r e) (r_last _))
  pub admit : Settled memory.gate.admit.ended (λ κs a r e. Claim ((memory.gate.admit.clauses 𝓛 mem run κs a).ensures tt r e) (r_last _))
  pub read_byte : Settled memory.read_byte.ended (λ κs a r e. Claim ((memory.read_byte.clauses 𝓛 mem run κs a).ensures tt r e) (r_last _))
  pub read_word : Settled memory.read_word.ended (λ κs a r e. Claim ((memory.read_word.clauses 𝓛 mem run κs a).ensures tt r e) (r_last _))
  pub put_byte : Settled memory.put_byte.ended (λ κs a r e. Claim ((memory.put_byte.clauses 𝓛 mem run κs a).ensures tt r e) (r_last _))
  pub read_half : Settled memory.span.read_half.ended (λ κs a r e. Claim ((memory.span.read_half.clauses 𝓛 mem run κs a).ensures tt r e) (r_last _))
  pub put_half : Settled memory.span.put_half.ended (λ κs a r e. Claim ((memory.span.put_half.clauses 𝓛 mem run κs a).ensures tt r e) (r_last _))
  pub put_word : Settled memory.span.put_word.ended (λ κs a r e. Claim ((memory.span.put_word.clauses 𝓛 mem run κs a).ensures tt r e) (r_last _))
