-- `privilege::registers::region_field` meets its contract: the number is below the regions', above them, a field's, or the one between. Assumes nothing.
use Rattle.privilege.proofs.Numbers.{field_below, field_above, field_at, field_none}
use Rattle.privilege.proofs.registers.region_field.Goals as goal

pub returns-then-sr-lt-SR_REGION_BASE : goal.returns-then-sr-lt-SR_REGION_BASE
returns-then-sr-lt-SR_REGION_BASE c = search field_below

pub returns-then-region-ge-REGION_COUNT : goal.returns-then-region-ge-REGION_COUNT
returns-then-region-ge-REGION_COUNT c = search field_above

pub returns-then-field-lt3 : goal.returns-then-field-lt3
returns-then-field-lt3 c = search field_at

pub returns-else-field-lt3 : goal.returns-else-field-lt3
returns-else-field-lt3 c = search field_none
