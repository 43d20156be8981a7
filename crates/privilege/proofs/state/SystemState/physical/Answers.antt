-- `privilege::state::SystemState::physical` meets its contract: translated, or not. Assumes nothing.
use Rattle.privilege.proofs.Transfers.{translated, untranslated}
use Rattle.privilege.proofs.state.SystemState.physical.Goals as goal

pub returns-then-translating : goal.returns-then-translating
returns-then-translating c = search translated

pub returns : goal.returns
returns c = search untranslated
