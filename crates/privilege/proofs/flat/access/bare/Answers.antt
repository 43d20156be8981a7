-- `privilege::flat::access::bare` meets its contract: in one page, or over two. Assumes nothing.
use Rattle.privilege.proofs.flat.Permits.{bare_in_page, bare_apart}
use Rattle.privilege.proofs.flat.access.bare.Goals as goal

pub returns-then-len-addr : goal.returns-then-len-addr
returns-then-len-addr c = search bare_in_page

pub returns : goal.returns
returns c = search bare_apart
