-- `machine::flat::access::access_event` meets its contract: a word that is granted at once is stored or read; the check decides any other access. Assumes nothing.
use Rattle.std.proofs.Common.{sym, ap, ◌∙◌, Some}
use Rattle.machine.proofs.Accesses.{kind_reads, word_good, event_read_word, event_written_word, event_other}
use Rattle.machine.proofs.flat.access.access_event.Goals as goal

pub write_granted-requires : goal.write_granted-requires
write_granted-requires c =
    let one = c in
    let g = one in
    let e = g.args.e in
    word_good _ _ _ _ e _ _ g.grant_word.ensures _ one.in-Some.is

pub returns-then-e-eq1 : goal.returns-then-e-eq1
returns-then-e-eq1 c =
    let w = c in
    let test = w in
    let one = test in
    let g = one in
    let k = g in
    let e = k.args.e in
    event_written_word _ _ _ _ e _ _ g.grant_word.ensures _ _ k.access_of-access.ensures _ (one.in-Some.is ∙ ap Some (sym one.in-Some.field-0-is)) _ test.if-e-eq1.true w.write_granted.ensures

pub read_granted-requires : goal.read_granted-requires
read_granted-requires c =
    let test = c in
    let one = test in
    let g = one in
    let k = g in
    let e = k.args.e in
    (kind_reads _ _ test.if-e-eq1.false k.access_of-access.ensures, word_good _ _ _ _ e _ _ g.grant_word.ensures _ one.in-Some.is)

pub returns-in-Some : goal.returns-in-Some
returns-in-Some c =
    let w = c in
    let test = w in
    let one = test in
    let g = one in
    let k = g in
    let e = k.args.e in
    event_read_word _ _ _ _ e _ _ g.grant_word.ensures _ _ k.access_of-access.ensures _ (one.in-Some.is ∙ ap Some (sym one.in-Some.field-0-is)) test.if-e-eq1.false w.read_granted.ensures

pub returns : goal.returns
returns c =
    let w = c in
    let one = w in
    let g = one in
    let e = g.args.e in
    event_other _ _ _ _ e _ _ g.grant_word.ensures _ _ one.in_default.is _ w.access_any.ensures
