-- `privilege::rows::place` meets its contract: in the first page, or in the second. Assumes nothing.
use Rattle.privilege.proofs.Places.{in_first, in_second}
use Rattle.privilege.proofs.rows.place.Goals as goal

pub returns-then-i-room : goal.returns-then-i-room
returns-then-i-room c = search in_first

pub returns : goal.returns
returns c = search in_second
