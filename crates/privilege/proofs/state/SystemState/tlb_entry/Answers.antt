-- `privilege::state::SystemState::tlb_entry` meets its contract. Assumes nothing.
use Rattle.privilege.proofs.Views.{view_is}
use Rattle.privilege.proofs.state.SystemState.tlb_entry.Goals as goal

pub returns : goal.returns
returns c = search view_is
