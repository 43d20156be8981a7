-- `tables::list::List::leaf_at` meets its contract: the pages rise, so that the search finds a page wherever it is listed. Assumes nothing.
use Rattle.std.proofs.Common.{Ok, Err}
use Rattle.tables.proofs.Searched.{leaf_place, leaf_looked}
use Rattle.tables.proofs.list.List.leaf_at.Goals as goal

pub returns-in-Ok : goal.returns-in-Ok
returns-in-Ok c =
    let l = c.args.self in
    let f = leaf_looked l.vpns.now l.ppns.now l.bits.now l.good c.args.from c.args.end c.args.page c.requires.range c.requires.past (Ok c.in-Ok.k) c.in-Ok.ensures.position in
    leaf_place l.vpns.now l.ppns.now l.bits.now l.good c.args.from c.args.end c.args.page c.requires.range _ _ _ f.0 f.1 c.at.ensures c.leaf.ensures

pub returns-in-Err : goal.returns-in-Err
returns-in-Err c =
    let l = c.args.self in
    leaf_looked l.vpns.now l.ppns.now l.bits.now l.good c.args.from c.args.end c.args.page c.requires.range c.requires.past (Err c.in-Err.field-0) c.in-Err.ensures.position
