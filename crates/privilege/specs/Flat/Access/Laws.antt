-- The laws of permits. Assumes nothing.
--
--   placed, not_placed  == an access that has a place is allowed, and lies there; one that has none failed as its check says
--   permit_place        == an allowed access has a place
--   permit_pa           == there its first byte is where the state's lookup says
--   permit_spots        == and so are all its bytes
--   grant_permits       == a word that is granted lies in its page, and the check permits it
--   grant_stays         == where none is granted nothing has changed
use Rattle.std.specs.Prelude.{◌≡◌, ℕ, ◌%◌, ◌^◌, ◌<◌, ◌≤◌, Bool, true, false, cond, not, ◌||◌, List, length, nat_lt, refl, Option, Some, None, Result, Ok, Err}
use Rattle.std.proofs.Common.{sym, ap, ◌∙◌, ⊎_elim, arith, ltb-false, le-ltb}
use Rattle.std.specs.Result.{result_and}
use Rattle.common.specs.Cases.{bool_is, absurd_eq, and_left}
use Rattle.common.specs.declared.Refusal.TheVariants.{Map}
use Rattle.layout.specs.Words.{over_all}
use Rattle.memory.specs.Gate.{map_good}
use Rattle.memory.specs.Gate.Laws.{map_open, size_open}
use Rattle.memory.specs.Memory.{Memory}
use Rattle.mmu.specs.declared.exception.Access.{Access}
use Rattle.mmu.specs.declared.exception.Access.TheVariants.{Read, Write, Fetch}
use Rattle.privilege.specs.Access.{fetch_size, data_size, legal_size, check_legal, check_access}
use Rattle.privilege.specs.Access.Laws.{check_good}
use Rattle.privilege.specs.Flat.{system_words, sys_at, reg_at}
use Rattle.privilege.specs.Flat.Access.{place_at, permit_of, refused_as, Answers, Permits, permit_for, grant_at, grant_if, left_if, at_once, Grants}
use Rattle.privilege.specs.Rows.{room_of, next_page, rows_of}
use Rattle.privilege.specs.Rows.Laws.{rows_page, rows_spots}
use Rattle.privilege.specs.Transfer.{physical_of, spots}
use Rattle.privilege.specs.declared.check.AccessChecked.{AccessChecked}
use Rattle.privilege.specs.declared.check.AccessError.{AccessError}
use Rattle.privilege.specs.declared.flat.access.Grant.{Grant}
use Rattle.privilege.specs.declared.flat.access.Place.{Place}

pub placed : (p : Result (Unit {0}) AccessError) (at x : Place) → ◌≡◌ {A = Result Place AccessError} (result_and p (Ok at)) (Ok x) → (p ≡ Ok tt) × (x ≡ at)
placed (Ok tt) at x e = (refl, cc)
placed (Err f) at x e = absurd_eq (cc)

pub not_placed : (p : Result (Unit {0}) AccessError) (at : Place) (f : AccessError) → ◌≡◌ {A = Result Place AccessError} (result_and p (Ok at)) (Err f) → p ≡ Err f
not_placed (Ok tt) at f e = absurd_eq (cc)
not_placed (Err g) at f e = cc

module _ (c : AccessChecked) (a n : ℕ) where
  pub permit_place : c.permission ≡ Ok tt → (permit_of c a n).place ≡ Ok (place_at (physical_of c.sys) a n)
  permit_place allowed = rw allowed

module _ (c : AccessChecked) (a n : ℕ) (x : Place) (at : (permit_of c a n).place ≡ Ok x) where
  is : x ≡ place_at (physical_of c.sys) a n
  is = (placed c.permission (place_at (physical_of c.sys) a n) x at).1

  pub permit_pa : x.pa ≡ physical_of c.sys a
  permit_pa = ap (λ (y : Place). y.pa) is

  abbrev second : ℕ
  second = physical_of c.sys (next_page a)

  by_page : (t : Bool) → nat_lt (room_of a) n ≡ t → rows_of a n (physical_of c.sys a) (cond t second 0) ≡ rows_of a n (physical_of c.sys a) second
  by_page true e = refl
  by_page false e = rows_page a (physical_of c.sys a) 0 second n (ltb-false (room_of a) n e)

  pub permit_spots : a < 2 ^ 32 → n ≤ 4096 → rows_of a n x.pa x.pb ≡ spots c.sys a n
  permit_spots small few = rw is (by_page (nat_lt (room_of a) n) refl ∙ rows_spots c.sys a small n few)

-- ---- a grant

word_legal : (k : Access) → legal_size k 4 ≡ true
unfolding legal_size data_size fetch_size
word_legal Read = refl
word_legal Write = refl
word_legal Fetch = refl

-- what a grant r says of the check c, by what it permits
module _ (c : AccessChecked) (l : List ℕ) (a : ℕ) (r : Option Grant) (l' : List ℕ) where
  abbrev Granted : Result (Unit {0}) AccessError → Type 0
  Granted p = (r ≡ grant_if p (grant_at (physical_of c.sys a) c.reads)) × (sys_at l' ≡ left_if p c.sys (sys_at l)) × (reg_at l' ≡ reg_at l)

  answers : (p : Result (Unit {0}) AccessError) (g : Grant) → c.permission ≡ p → Granted p → 4 ≤ room_of a → r ≡ Some g → Answers c l a 4 (permit_for g) l'
  answers (Ok tt) g e w room h =
      let is : g ≡ grant_at (physical_of c.sys a) c.reads = cc in
      (rw (is, e, le-ltb (room_of a) 4 room), w.1, w.2)
  answers (Err x) g e w room h = absurd_eq (cc)

  stays : (p : Result (Unit {0}) AccessError) → c.permission ≡ p → Granted p → r ≡ None → (sys_at l' ≡ sys_at l) × (reg_at l' ≡ reg_at l)
  stays (Ok tt) e w h = absurd_eq (cc)
  stays (Err x) e w h = (w.1, w.2)

module _ (m : Memory) (l : List ℕ) (a : ℕ) (k : Access) (r : Option Grant) (l' : List ℕ) (long : length l ≡ system_words) (w : Grants m l a k r l') where
  abbrev check : AccessChecked
  check = check_legal m (sys_at l) a 4 k

  pub grant_permits : (g : Grant) → map_good m ≡ true → r ≡ Some g → (a % 4096 ≤ 4092) × Permits m l a 4 k (permit_for g) l'
  grant_permits g good h =
      ⊎_elim
      (λ (t : at_once (sys_at l) a ≡ true).
      let inside = page t in
      let open' = check_good m (sys_at l) a 4 k (size_open m (legal_size k 4) (map_open m good) (word_legal k)) in
      let is : Answers check l a 4 (permit_for g) l' = answers check l a r l' check.permission g refl ((w.0 long).1.0 t) (omega arith) h in
      (inside, over_all system_words l (permit_for g) (refused_as Map) l' (Answers (check_access m (sys_at l) a 4 k) l a 4 (permit_for g) l') long ((w.0 long).0 ∙ sym long) (rw open' is)))
      (λ (t : at_once (sys_at l) a ≡ false). let e = ((w.0 long).1.1 t).0 in absurd_eq (cc))
      (bool_is (at_once (sys_at l) a))
    where
      page : at_once (sys_at l) a ≡ true → a % 4096 ≤ 4092
      page t = ltb-false 4092 (a % 4096) (off (nat_lt 4092 (a % 4096)) (and_left (not (nat_lt 4092 (a % 4096))) (not (sys_at l).user || (sys_at l).vm.enabled) t))
        where
          off : (b : Bool) → not b ≡ true → b ≡ false
          off true h = absurd_eq (cc)
          off false h = refl

  pub grant_stays : r ≡ None → (sys_at l' ≡ sys_at l) × (reg_at l' ≡ reg_at l)
  grant_stays h =
      ⊎_elim
      (λ (t : at_once (sys_at l) a ≡ true). stays check l a r l' check.permission refl ((w.0 long).1.0 t) h)
      (λ (t : at_once (sys_at l) a ≡ false). let e = (w.0 long).1.1 t in (e.1, e.2))
      (bool_is (at_once (sys_at l) a))
