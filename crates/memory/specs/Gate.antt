-- What stops a call before it has looked at anything: document 01, 'Numbered refusals'.
--
--   Gate                == what a gate answers: Ok where it is open, else the refusal
--   opens g             == it is open
--   gated g a f         == what comes behind an open gate, or what a refusal answers
--   first_of g h        == the first refusal of two gates, one behind the other
--   map_good m          == `good_map` of a memory
--   map_gate m          == refusal 2 where the map is not good
--   size_gate legal     == refusal 1 where the size is not legal
--   access_gate m legal == refusal 2 for the map, then 1 for the size
use Rattle.std.specs.Prelude.{Bool, true, false, cond, length, Result, Ok, Err}
use Rattle.common.specs.declared.Refusal.{Refusal}
use Rattle.common.specs.declared.Refusal.TheVariants.{Size, Map}
use Rattle.memory.specs.Memory.{Memory, good_map}
pub mod Laws

abbrev pub Gate : Type 0
Gate = Result (Unit {0}) Refusal

abbrev pub opens : Gate → Bool
opens (Ok tt) = true
opens (Err r) = false

abbrev pub gated : {A : Type 0} → Gate → A → (Refusal → A) → A
gated (Ok tt) answer refused = answer
gated (Err r) answer refused = refused r

abbrev pub first_of : Gate → Gate → Gate
first_of (Ok tt) inner = inner
first_of (Err r) inner = Err r

abbrev pub map_good : Memory → Bool
map_good m = good_map m.base (length m.bytes)

unfoldable pub map_gate : Memory → Gate
map_gate m = cond (map_good m) (Ok tt) (Err Map)

abbrev pub size_gate : Bool → Gate
size_gate legal = cond legal (Ok tt) (Err Size)

-- "Order: for an access or check 2, then 1"
unfoldable pub access_gate : Memory → Bool → Gate
access_gate m legal = first_of (map_gate m) (size_gate legal)
