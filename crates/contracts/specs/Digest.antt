-- Digests of words: two outcomes that a contract of `digest` admits coincide (`Settled.antt`).
use borrow.Fn.Read.{r_last}
use Rattle.contracts.specs.Settled.{Settled, Claim, 𝓛, mem, run}
use Rattle.digest.specs.contracts as digest

pub record Digest : Type 0 where
  pub fnv_byte : Settled digest.fnv_byte.ended (λ κs a r e. Claim ((digest.fnv_byte.clauses 𝓛 mem run κs a).ensures tt r e) (r_last _))
  pub fnv_word : Settled digest.fnv_word.ended (λ κs a r e. Claim ((digest.fnv_word.clauses 𝓛 mem run κs a).ensures tt r e) (r_last _))
  pub fnv_words : Settled digest.fnv_words.ended (λ κs a r e. Claim ((digest.fnv_words.clauses 𝓛 mem run κs a).ensures tt r e) (r_last _))
