-- `tables::export::tables_write` meets its contract, by that of `write_tables`. Assumes nothing.
use Rattle.tables.proofs.Answered.{numbered}
use Rattle.tables.proofs.export.tables_write.Goals as goal

pub returns : goal.returns
returns c =
    let wrote = c.write_tables.ensures in
    (numbered _ _ _ c.in_numbers.ensures wrote.0, wrote.1)
