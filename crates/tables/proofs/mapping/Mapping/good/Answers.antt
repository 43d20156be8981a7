-- `tables::mapping::Mapping::good` meets its contract: the pages, then the bits; the frame does not matter for the leaf. Assumes nothing.
use Rattle.std.proofs.Common.{⊎_elim}
use Rattle.tables.proofs.Judged.{page_high, frame_high, by_leaf}
use Rattle.tables.proofs.mapping.Mapping.good.Goals as goal

pub returns-then-self-ge-PAGES_END : goal.returns-then-self-ge-PAGES_END
returns-then-self-ge-PAGES_END c =
    ⊎_elim (page_high c.args.self) (λ h. frame_high c.args.self h.0 h.1) c.then-self-ge-PAGES_END.either

pub returns : goal.returns
returns c = search by_leaf
