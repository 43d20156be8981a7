-- `privilege::flat::state::pack` meets its contract, the state and the registers. Assumes nothing.
use Rattle.privilege.proofs.flat.States.{wholes}
use Rattle.std.proofs.Common.{rules, ◌≡◌, length, sym, ◌∙◌}
use Rattle.privilege.proofs.flat.state.pack.Goals as goal

pub returns : goal.returns
returns c =
    let w = c.in-Some.ensures.cases in
    let same : length c.put_state.new.words ≡ length c.args.words.now = c.put_state.array_long ∙ sym w.long in
    search (wholes, rules)
