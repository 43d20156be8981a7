-- The witness meets the premises of demand 3: its tables lie in pages 0 and 1 and open page 2 alone, and page 3 is hidden. Assumes nothing.
use Rattle.std.proofs.Common.{◌≡◌, ℕ, ◌/◌, ◌%◌, ◌<◌, ◌≢◌, ◌∷◌, Some, sym, refl, ◌∙◌, arith}
use Rattle.memory.specs.Memory.{byte_at}
use Rattle.isolation.specs.Premises.{InUserMode, Alike, Sealed}
use Rattle.isolation.specs.Demand3.{Demand3}
use Rattle.isolation.proofs.Runs.{demand3}
use Rattle.witness.proofs.Layouts.{none_resident, layout, unhidden_tables_lem, unhidden_pages_lem, shut_tables_lem, alike}
use Rattle.witness.proofs.Computed.{ran_one, ran_two, computed}
use Rattle.witness.specs.Witness.{visible, memory, machine, hidden, Witness}

closed : (x : ℕ) → Sealed hidden (memory x) machine.sys.vm
closed x =
    let here = layout 4 0 1 2 ((3072, x) ∷ visible) machine.sys.vm (computed.laid_out x) refl (none_resident 2) in
    record { tables = unhidden_tables_lem here 3 refl refl; pages = unhidden_pages_lem here 3 refl; unwritable = shut_tables_lem here refl refl }

both : (x y : ℕ) → Alike hidden (memory x) (memory y)
both x y = alike 4 3072 x y 3 visible refl

in_user_mode : InUserMode machine
in_user_mode = record { user = refl; enabled = refl }

differ : (x y : ℕ) → x < 256 → y < 256 → x ≢ y → byte_at (memory x) 0x3003 ≢ byte_at (memory y) 0x3003
differ x y h g n e =
    let same : Some (x / 1 % 256) ≡ Some (y / 1 % 256) = sym (computed.secret x) ∙ e ∙ computed.secret y in
    let byte : x / 1 % 256 ≡ y / 1 % 256 = cc in
    n (omega arith)

pub witness : Witness
unfolding Demand3
witness =
    record {
      user = in_user_mode;
      slots = refl;
      alike = both;
      closed = closed;
      differ = differ;
      loads = λ x. ran_one _ _ _ _ (computed.loads x);
      stores = λ x. ran_two _ _ _ _ _ _ _ _ (computed.stores x) (computed.loads_back x);
      isolated = λ os x y al. demand3 hidden os machine (memory x) (memory y) al in_user_mode refl (both x y) (closed x);
    }
