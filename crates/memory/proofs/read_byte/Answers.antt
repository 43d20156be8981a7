-- `memory::read_byte` meets its contract: the byte lies in the map, or it does not. Assumes nothing.
use Rattle.std.proofs.Common.{rules}
use Rattle.memory.proofs.Places.{byte_missing, byte_read}
use Rattle.memory.proofs.read_byte.Goals as goal

pub returns-in_err-byte : goal.returns-in_err-byte
returns-in_err-byte c = search (byte_missing, rules)

pub returns : goal.returns
returns c = search (byte_read, rules)
