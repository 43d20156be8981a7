-- `privilege::state::SystemState::write_region` meets its contract: the number is no region's, or a field's. Assumes nothing.
use Rattle.privilege.proofs.Numbers.{write_unknown, write_field}
use Rattle.privilege.proofs.state.SystemState.write_region.Goals as goal

pub returns-in_default : goal.returns-in_default
returns-in_default c = search write_unknown

pub returns : goal.returns
returns c = search write_field
