-- `privilege::state::SystemState::read_user` meets its contract: the live register, or the saved one. Assumes nothing.
use Rattle.privilege.proofs.Numbers.{read_live, read_saved}
use Rattle.privilege.proofs.state.SystemState.read_user.Goals as goal

pub returns-then-self : goal.returns-then-self
returns-then-self c = search read_live

pub returns : goal.returns
returns c = search read_saved
