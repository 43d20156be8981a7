-- `memory::read_word` meets its contract: the word lies in the map, or some of it does not. Assumes nothing.
use Rattle.std.proofs.Common.{rules}
use Rattle.memory.proofs.Places.{word_missing, word_read}
use Rattle.memory.proofs.read_word.Goals as goal

pub returns-in_err-bytes : goal.returns-in_err-bytes
returns-in_err-bytes c = search (word_missing, rules)

pub returns : goal.returns
returns c = search (word_read, rules)
