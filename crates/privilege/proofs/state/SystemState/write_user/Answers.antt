-- `privilege::state::SystemState::write_user` meets its contract: the live register, or the saved one. Assumes nothing.
use Rattle.privilege.proofs.Numbers.{write_live, write_saved}
use Rattle.privilege.proofs.state.SystemState.write_user.Goals as goal

pub returns-then-self : goal.returns-then-self
returns-then-self c = search write_live

pub returns : goal.returns
returns c = search write_saved
