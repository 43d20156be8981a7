-- `tables::mapping::good_bits` meets its contract: each test is one of the definition's. Assumes nothing.
use Rattle.std.proofs.Common.{⊎_elim, eq-eqb}
use Rattle.tables.proofs.Judged.{bits_odd, bits_many, bits_none, bits_read_only, bits_written}
use Rattle.tables.proofs.mapping.good_bits.Goals as goal

pub returns-then-bits-ne0 : goal.returns-then-bits-ne0
returns-then-bits-ne0 c = ⊎_elim (bits_odd c.args.bits) (λ h. bits_many c.args.bits h.0 h.1) c.then-bits-ne0.either

pub returns-then-bits-eq0 : goal.returns-then-bits-eq0
returns-then-bits-eq0 c = rw (eq-eqb _ _ c.if-bits-eq0.true) (search bits_read_only)

pub returns-else-bits-eq0 : goal.returns-else-bits-eq0
returns-else-bits-eq0 c = search bits_written

pub returns-else-bits-ne0-2 : goal.returns-else-bits-ne0-2
returns-else-bits-ne0-2 c = rw (eq-eqb _ _ c.if-bits-ne0-2.false) (search bits_none)
