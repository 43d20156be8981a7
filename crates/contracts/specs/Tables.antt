-- Page tables from a list of mappings: two outcomes that a contract of `tables` admits coincide (`Settled.antt`).
use borrow.Fn.Read.{r_last}
use Rattle.contracts.specs.Settled.{Settled, Claim, 𝓛, mem, run}
use Rattle.tables.specs.contracts as tables

pub record Tables : Type 0 where
  pub tables_write : Settled tables.export.tables_write.ended (λ κs a r e. Claim ((tables.export.tables_write.clauses 𝓛 mem run κs a).ensures tt r e) (r_last _))
  pub good : Settled tables.mapping.Mapping.good.ended (λ κs a r e. Claim ((tables.mapping.Mapping.good.clauses 𝓛 mem run κs a).ensures tt r e) (r_last _))
  pub leaf : Settled tables.mapping.Mapping.leaf.ended (λ κs a r e. Claim ((tables.mapping.Mapping.leaf.clauses 𝓛 mem run κs a).ensures tt r e) (r_last _))
  pub good_list : Settled tables.mapping.good_list.ended (λ κs a r e. Claim ((tables.mapping.good_list.clauses 𝓛 mem run κs a).ensures tt r e) (r_last _))
  pub number : Settled tables.refusal.Refusal.number.ended (λ κs a r e. Claim ((tables.refusal.Refusal.number.clauses 𝓛 mem run κs a).ensures tt r e) (r_last _))
  pub write_tables : Settled tables.write.write_tables.ended (λ κs a r e. Claim ((tables.write.write_tables.clauses 𝓛 mem run κs a).ensures tt r e) (r_last _))
