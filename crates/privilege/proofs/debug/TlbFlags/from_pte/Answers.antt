-- `privilege::debug::TlbFlags::from_pte` meets its contract: each mask tests a bit. Assumes nothing.
use Rattle.privilege.proofs.Views.{flags_are}
use Rattle.privilege.proofs.debug.TlbFlags.from_pte.Goals as goal

pub returns : goal.returns
returns c = flags_are _
