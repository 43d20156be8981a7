-- Document 01's table 'Numbered refusals'.
use Rattle.std.specs.Prelude.{ℕ}
use Rattle.common.specs.declared.Refusal.{Refusal}
use Rattle.common.specs.declared.Refusal.TheVariants.{Size, Map, Register, Header, Section, Event}

unfoldable pub refusal_number : Refusal → ℕ
refusal_number Size = 1
refusal_number Map = 2
refusal_number Register = 3
refusal_number Header = 4
refusal_number Section = 5
refusal_number Event = 6
