-- `race::race_run` meets its contract. Assumes nothing.
use Rattle.std.proofs.Common.{rules}
use Rattle.race.proofs.Races.{race_totals, race_bytes}
use Rattle.race.proofs.race_run.Goals as goal

pub returns : goal.returns
returns c = record { value = search (race_totals, rules); mem_after = search (race_bytes, rules) }
