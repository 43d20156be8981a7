-- `machine::flat::state::unpack_words` meets its contract. Assumes nothing.
use Rattle.std.proofs.Common.{rules}
use Rattle.machine.proofs.Words.{words}
use Rattle.machine.proofs.flat.state.unpack_words.Goals as goal

pub returns : goal.returns
returns c = search (words, rules)
