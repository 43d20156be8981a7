-- `tables::list::List::all_good` meets its contract. The loop's invariant: the whole test is the test from place `k` on. Assumes nothing.
use Rattle.std.proofs.Common.{◌≤◌, ◌≡◌, length, drop}
use Rattle.tables.specs.Mapping.{mappings, all_good}
use Rattle.tables.proofs.list.List.all_good.Given as goal

abbrev pub invariant-loop-k : goal.invariant-loop-k
invariant-loop-k l =
    (all_good (mappings l.self.vpns.now l.self.ppns.now l.self.bits.now) ≡ all_good (drop l.k (mappings l.self.vpns.now l.self.ppns.now l.self.bits.now))) × (l.k ≤ length l.self.vpns.now)
