-- `privilege::flat::access::check_legal` meets its contract in each mode. Assumes nothing.
use Rattle.std.proofs.Common.{rules}
use Rattle.privilege.proofs.flat.Permits.{legal_supervisor, legal_regions, legal_translated}
use Rattle.privilege.proofs.flat.access.check_legal.Goals as goal

pub returns-then-sys-eq1-2 : goal.returns-then-sys-eq1-2
returns-then-sys-eq1-2 c = search (legal_translated, rules)

pub returns-then-sys-eq1 : goal.returns-then-sys-eq1
returns-then-sys-eq1 c = search (legal_regions, rules)

pub returns : goal.returns
returns c = search (legal_supervisor, rules)
