-- `tables::list::List::at` meets its contract: the lists of a good list have one length. Assumes nothing.
use Rattle.std.proofs.Common.{arith}
use Rattle.tables.specs.Mapping.Laws.{good_ppns, good_bits_lem}
use Rattle.tables.proofs.list.List.at.Goals as goal

pub bounds-self-k-2 : goal.bounds-self-k-2
bounds-self-k-2 c = let l = c.args.self in omega (arith, good_ppns l.vpns.now l.ppns.now l.bits.now l.good)

pub bounds-self-k-3 : goal.bounds-self-k-3
bounds-self-k-3 c = let l = c.args.self in omega (arith, good_bits_lem l.vpns.now l.ppns.now l.bits.now l.good)
