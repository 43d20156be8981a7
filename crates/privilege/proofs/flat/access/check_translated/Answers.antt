-- `privilege::flat::access::check_translated` meets its contract: denied, in one page, or over two. Assumes nothing.
use Rattle.std.proofs.Common.{rules}
use Rattle.privilege.proofs.flat.Permits.{pages_denied, pages_in_page, pages_apart}
use Rattle.privilege.proofs.flat.access.check_translated.Goals as goal

pub returns-in-Err : goal.returns-in-Err
returns-in-Err c = search (pages_denied, rules)

pub returns-then-len-addr : goal.returns-then-len-addr
returns-then-len-addr c = search (pages_in_page, rules)

pub returns : goal.returns
returns c = search (pages_apart, rules)
