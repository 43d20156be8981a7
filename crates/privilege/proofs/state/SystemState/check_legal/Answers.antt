-- `privilege::state::SystemState::check_legal` meets its contract: the pages decide, or the regions do. Assumes nothing.
use Rattle.privilege.proofs.Checks.{denies, by_pages, allowed, denied}
use Rattle.privilege.proofs.state.SystemState.check_legal.Goals as goal

pub returns-then-translating : goal.returns-then-translating
returns-then-translating c =
    by_pages _ _ _ _ _ _ c.translating.ensures _ _ c.if-translating.true c.check_pages-checked.ensures (denies _ _ c.map_err.ensures.cases)

pub returns-then-allows : goal.returns-then-allows
returns-then-allows c = search allowed

pub returns : goal.returns
returns c = search denied
