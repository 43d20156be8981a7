-- The writer's refusals: W-201, with refusal 2 of document 01's table.
--
--   refusal_number r     == the number of a refusal
--   in_numbers t         == an answer as numbers: 0 and what was written, or the refusal and zeros
use Rattle.std.specs.Prelude.{ℕ, Result, Ok, Err}
use Rattle.tables.specs.declared.export.TablesAnswer.{TablesAnswer}
use Rattle.tables.specs.declared.refusal.Refusal.{Refusal}
use Rattle.tables.specs.declared.refusal.Refusal.TheVariants.{Map, Order, Leaf, Run, Frames}
use Rattle.tables.specs.declared.write.Tables.{Tables}

unfoldable pub refusal_number : Refusal → ℕ
refusal_number Map = 2
refusal_number Order = 9
refusal_number Leaf = 10
refusal_number Run = 11
refusal_number Frames = 12

unfoldable pub in_numbers : Result Tables Refusal → TablesAnswer
in_numbers (Ok t) = record { refusal = 0; ptbr = t.ptbr; used = t.used }
in_numbers (Err r) = record { refusal = refusal_number r; ptbr = 0; used = 0 }
