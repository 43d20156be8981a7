-- `tables::mapping::ascending` meets its contract: a list ascends if each page is below the next. Assumes nothing.
use Rattle.std.proofs.Common.{ltb, rules}
use Rattle.std.proofs.lemmas.List.Sorted.{answers_always}
use Rattle.tables.proofs.Judged.{sorted_ascends}
use Rattle.tables.proofs.mapping.ascending.Goals as goal

pub returns : goal.returns
returns c = sorted_ascends c.args.vpns.now c.is_sorted_by.result (c.is_sorted_by.ensures.cases ltb (answers_always _ _ _ (λ f a r f' k. search rules)))
