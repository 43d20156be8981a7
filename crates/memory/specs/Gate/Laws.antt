-- The laws of the gate. Assumes nothing.
--
--   map_open, map_shut               == the map's gate, by the map
--   size_open, size_shut, size_kept  == an access's gate, by the map's gate and the size
--   map_alone                        == where every size is legal the gate is the map's
--   access_open                      == what an open gate says of the map and the size
--   is_open, is_shut                 == which gate it is, by whether it opens and by the refusal of one that does not
--   shut_number                      == an access's gate refuses with 2 or 1 alone
--   gate_same, access_same           == a gate depends on the map alone
--   gated_holds, gated_case          == what holds in either case holds of what is gated
use Rattle.std.specs.Prelude.{◌<◌, ◌≡◌, Bool, cond, Ok, Err}
use Rattle.std.proofs.Math.Path.{refl, sym}
use Rattle.std.proofs.Math.Bool.{true, false}
use Rattle.std.proofs.Common.{lit<}
use Rattle.common.specs.Cases.{absurd_eq}
use Rattle.common.specs.Refusal.{refusal_number}
use Rattle.common.specs.declared.Refusal.{Refusal}
use Rattle.common.specs.declared.Refusal.TheVariants.{Size, Map}
use Rattle.memory.specs.Gate.{Gate, opens, map_good, gated, map_gate, size_gate, first_of, access_gate}
use Rattle.memory.specs.Memory.{Memory}
use Rattle.memory.specs.Memory.Laws.{SameMap}

-- the refusals of both gates, by what they are asked
few : (good legal : Bool) (r : Refusal) → first_of (cond good (Ok tt) (Err Map)) (size_gate legal) ≡ Err r → refusal_number r < 3
unfolding refusal_number
few true true r e = absurd_eq (cc)
few true false r e = let is : Size ≡ r = cc in rw (← is) (lit< tt)
few false legal r e = let is : Map ≡ r = cc in rw (← is) (lit< tt)

module _ (m : Memory) where
  pub map_open : map_good m ≡ true → map_gate m ≡ Ok tt
  unfolding map_gate
  map_open h = rw h

  pub map_shut : map_good m ≡ false → map_gate m ≡ Err Map
  unfolding map_gate
  map_shut h = rw h

  pub map_alone : access_gate m true ≡ map_gate m
  unfolding access_gate
  map_alone = by (map_gate m)
    where
      by : (g : Gate) → first_of g (Ok tt) ≡ g
      by (Ok tt) = refl
      by (Err r) = refl

  module _ (legal : Bool) where
    pub size_open : map_gate m ≡ Ok tt → legal ≡ true → access_gate m legal ≡ Ok tt
    unfolding access_gate
    size_open h g = rw (h, g)

    pub size_shut : map_gate m ≡ Ok tt → legal ≡ false → access_gate m legal ≡ Err Size
    unfolding access_gate
    size_shut h g = rw (h, g)

    pub size_kept : (r : Refusal) → map_gate m ≡ Err r → access_gate m legal ≡ Err r
    unfolding access_gate
    size_kept r h = rw h

    pub access_open : access_gate m legal ≡ Ok tt → (map_good m ≡ true) × (legal ≡ true)
    unfolding access_gate map_gate
    access_open = by (map_good m) legal
      where
        by : (good l : Bool) → first_of (cond good (Ok tt) (Err Map)) (size_gate l) ≡ Ok tt → (good ≡ true) × (l ≡ true)
        by true true e = (refl, refl)
        by true false e = absurd_eq (cc)
        by false l e = absurd_eq (cc)

    pub shut_number : (r : Refusal) → access_gate m legal ≡ Err r → refusal_number r < 3
    unfolding access_gate map_gate
    shut_number = few (map_good m) legal

    pub is_open : opens (access_gate m legal) ≡ true → access_gate m legal ≡ Ok tt
    is_open = by (access_gate m legal)
      where
        by : (g : Gate) → opens g ≡ true → g ≡ Ok tt
        by (Ok tt) h = refl
        by (Err r) h = absurd_eq (cc)

    pub is_shut : (r : Refusal) → opens (access_gate m legal) ≡ false → Err r ≡ access_gate m false → access_gate m legal ≡ Err r
    unfolding access_gate
    is_shut r = by (map_gate m) legal
      where
        by : (g : Gate) (l : Bool) → opens (first_of g (size_gate l)) ≡ false → Err r ≡ first_of g (Err Size) → first_of g (size_gate l) ≡ Err r
        by (Ok tt) true h e = absurd_eq (cc)
        by (Ok tt) false h e = sym e
        by (Err q) l h e = sym e

module _ (m m' : Memory) (e : SameMap m m') where
  pub gate_same : map_gate m ≡ map_gate m'
  unfolding map_gate
  gate_same = rw (e.base, e.size)

  pub access_same : (legal : Bool) → access_gate m legal ≡ access_gate m' legal
  unfolding access_gate
  access_same legal = rw gate_same

module _ {A : Type 0} (P : A → Type 0) {a : A} {f : Refusal → A} where
  pub gated_case : (g : Gate) → (g ≡ Ok tt → P a) → ((r : Refusal) → g ≡ Err r → P (f r)) → P (gated g a f)
  gated_case (Ok tt) p q = p refl
  gated_case (Err r) p q = q r refl

  pub gated_holds : (g : Gate) → P a → ((r : Refusal) → P (f r)) → P (gated g a f)
  gated_holds g p q = gated_case g (λ e. p) (λ r e. q r)
