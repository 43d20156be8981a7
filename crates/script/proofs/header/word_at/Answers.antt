-- `script::header::word_at` meets its contract. Assumes nothing.
use Rattle.std.proofs.Common.{◌∙◌}
use Rattle.script.proofs.Bytes.{word_padded}
use Rattle.script.proofs.header.word_at.Goals as goal

pub returns : goal.returns
returns c = c.be_word.ensures ∙ word_padded c.args.s.now c.args.at _ c.padded-bytes.ensures
