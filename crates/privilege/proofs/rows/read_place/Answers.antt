-- `privilege::rows::read_place` meets its contract: a good map has no byte past its end. Assumes nothing.
use Rattle.std.proofs.Common.{sym, ◌∙◌, arith, rules}
use Rattle.memory.specs.Memory.Bytewise.{byte_small}
use Rattle.common.specs.Cases.{absurd_eq}
use Rattle.privilege.proofs.Places.{read_out}
use Rattle.privilege.proofs.rows.read_place.Goals as goal

pub returns-then-at-ge-MAP_END : goal.returns-then-at-ge-MAP_END
returns-then-at-ge-MAP_END c = record { value = search (read_out, rules); by_index = λ b e. absurd_eq (cc) }

pub returns : goal.returns
returns c =
    record {
      value = c.read_byte.ensures;
      by_index = λ b e. byte_small _ _ b (λ i. omega (arith, c.type_inv.mem i)) (sym c.read_byte.ensures ∙ e);
    }
