-- `privilege::flat::access::grant_word` meets its contract in each mode. Assumes nothing.
use Rattle.layout.specs.Words.{over_none, over_all}
use Rattle.privilege.proofs.flat.Permits.{grant_apart, grant_bare, grant_off, grant_translated, grant_shut}
use Rattle.std.proofs.Common.{rules}
use Rattle.privilege.proofs.flat.access.grant_word.Goals as goal

pub returns-then-sys-ne-SYSTEM_WORDS : goal.returns-then-sys-ne-SYSTEM_WORDS
returns-then-sys-ne-SYSTEM_WORDS c = search (over_none, rules)

pub returns-then-addr : goal.returns-then-addr
returns-then-addr c = search (over_all, grant_apart, rules)

pub returns-then-sys-eq1-2 : goal.returns-then-sys-eq1-2
returns-then-sys-eq1-2 c = search (over_all, grant_translated, c.in-Some.is, rules)

pub returns-then-sys-eq1 : goal.returns-then-sys-eq1
returns-then-sys-eq1 c = search (over_all, grant_off, rules)

pub returns : goal.returns
returns c = search (over_all, grant_bare, rules)

pub returns-in_default : goal.returns-in_default
returns-in_default c = search (over_all, grant_shut, c.in_default.is, rules)
