-- The ways through the check of an access where the state's words stand. Assumes nothing.
use Rattle.std.proofs.Common.{◌≡◌, ℕ, zero, suc, ◌%◌, ◌^◌, ◌<◌, ◌≤◌, Bool, true, false, cond, eqb, List, length, get_or, sym, refl, ap, ◌∙◌, arith, le-ltb, lt-ltb, eq-eqb, ne_eqb, Option, Some, None, Result, Ok, Err}
use Rattle.std.proofs.Math.Bool.{or-true}
use Rattle.common.specs.Cases.{absurd_eq}
use Rattle.common.specs.declared.Refusal.{Refusal}
use Rattle.common.specs.declared.Refusal.TheVariants.{Map}
use Rattle.layout.specs.Words.{part, put, Over, Reads, part_length, over_none, over_all}
use Rattle.memory.specs.Gate.{access_gate}
use Rattle.memory.specs.Gate.Laws.{access_open}
use Rattle.memory.specs.Memory.{Memory}
use Rattle.mmu.specs.Check.{page_addr, check_page, check_each, last_page, pages_of}
use Rattle.mmu.specs.Check.Pages.{pages_keep, each_page}
use Rattle.mmu.specs.Flat.{vm_at, pages_as, no_pages, CheckedPages, GrantsPage}
use Rattle.mmu.specs.Flat.Laws.{grant_open, grant_none}
use Rattle.mmu.specs.Opened.Laws.{pages_one}
use Rattle.mmu.specs.Vm.{frame_of}
use Rattle.mmu.specs.declared.check.Checked.{Checked}
use Rattle.privilege.specs.declared.check.AccessError.TheVariants.{Denied, Refused}
use Rattle.privilege.specs.declared.check.AccessError.{AccessError}
use Rattle.mmu.specs.declared.exception.Access.{Access}
use Rattle.mmu.specs.declared.exception.Access.TheVariants.{Read, Write, Fetch}
use Rattle.mmu.specs.declared.exception.Exception.{Exception}
use Rattle.mmu.specs.declared.exception.Exception.TheVariants.{ProtectionFault}
use Rattle.mmu.specs.declared.flat.PageGrant.{PageGrant}
use Rattle.mmu.specs.declared.flat.Pages.{Pages}
use Rattle.mmu.specs.declared.vm.Vm.{Vm}
use Rattle.privilege.specs.Access.{fetch_size, data_size, legal_size, translating_of, permission_of, access_answered, from_pages, check_legal, check_access}
use Rattle.privilege.specs.Access.Laws as laws
use Rattle.privilege.specs.Addresses.{addresses}
use Rattle.privilege.specs.Flat.{regions_from, vm_from, system_words, regions_at, sys_at, reg_at}
use Rattle.privilege.specs.Flat.Access.{place_at, permit_at, permit_of, bare_permit, regions_permit, pages_permit, refused_as, Translated, Answers, Permits, grant_at, GrantedBy, at_once, GrantsWord}
use Rattle.privilege.specs.Flat.Access.Laws.{placed}
use Rattle.privilege.specs.Flat.Laws.{sys_vm, reg_vm}
use Rattle.privilege.specs.Region.{all_allowed}
use Rattle.privilege.specs.Rows.{room_of, next_page}
use Rattle.privilege.specs.State.{with_vm}
use Rattle.privilege.specs.Transfer.{joined_to, physical_of}
use Rattle.privilege.specs.Transfer.Laws.{physical_off, physical_on}
use Rattle.privilege.specs.declared.check.AccessChecked.{AccessChecked}
use Rattle.privilege.specs.declared.flat.access.Grant.{Grant}
use Rattle.privilege.specs.declared.flat.access.Permit.{Permit}
use Rattle.privilege.specs.declared.flat.access.Place.{Place}
use Rattle.privilege.specs.declared.region.Region.{Region}
use Rattle.privilege.specs.declared.state.SystemState.{SystemState}
use Rattle.privilege.proofs.Checks.{on, off, by_regions_lem}
use Rattle.privilege.proofs.Transfers.{data_small}
use Rattle.privilege.proofs.flat.Banks.{user_at}
use Rattle.privilege.proofs.flat.States.{enabled_at}

abbrev pub permit : ℕ → ℕ → ℕ → Permit
permit pa pb reads = record { place = Ok (record { pa = pa; pb = pb }); reads = reads }

abbrev pub no_permit : AccessError → ℕ → Permit
no_permit e reads = record { place = Err e; reads = reads }

-- an allowed access whose bytes are where f says, in one page or over two
module _ (f : ℕ → ℕ) (a n reads : ℕ) where
  in_page : (pa : ℕ) → n ≤ room_of a → pa ≡ f a → permit pa 0 reads ≡ permit_at (Ok tt) f a n reads
  in_page pa h e = rw (e, le-ltb (room_of a) n h)

  apart : (pa pb : ℕ) → room_of a < n → pa ≡ f a → pb ≡ f (next_page a) → permit pa pb reads ≡ permit_at (Ok tt) f a n reads
  apart pa pb h e q = rw (e, q, lt-ltb (room_of a) n h)

pub same_places : (p : Result (Unit {0}) AccessError) (f g : ℕ → ℕ) (a n reads : ℕ) → f a ≡ g a → f (next_page a) ≡ g (next_page a) → permit_at p f a n reads ≡ permit_at p g a n reads
same_places p f g a n reads e q = rw (e, q)

-- ---- not translated

module _ (a n : ℕ) where
  pub bare_in_page : n ≤ room_of a → permit a 0 0 ≡ bare_permit a n
  bare_in_page h = in_page (λ (x : ℕ). x) a n 0 a h refl

  pub bare_apart : (pb : ℕ) → room_of a < n → pb ≡ next_page a → permit a pb 0 ≡ bare_permit a n
  bare_apart pb h e = apart (λ (x : ℕ). x) a n 0 a pb h refl e

  module _ (rs : List Region) (k : Access) (ok : Bool) (e : ok ≡ all_allowed rs k (addresses n a)) where
    pub regions_grant : (r : Permit) → r ≡ bare_permit a n → ok ≡ true → r ≡ regions_permit rs a n k
    regions_grant r is t = is ∙ rw (← e, t)

    pub regions_deny : ok ≡ false → no_permit (Denied (ProtectionFault k)) 0 ≡ regions_permit rs a n k
    regions_deny t = rw (← e, t)

-- ---- translated: what the check of the pages found

last_start : (a n : ℕ) → a < 2 ^ 32 → n ≤ 4 → room_of a < n → page_addr (last_page a n) ≡ next_page a
last_start a n small few h = omega arith

module _ (m : Memory) (l l' : List ℕ) (a n : ℕ) (k : Access) (f : Pages) (long : length l ≡ 69)
    (w : Over 69 l l' f no_pages (CheckedPages m k a n (vm_at l) f (vm_at l'))) where
  is : pages_as f (vm_at l') ≡ check_each m k (vm_at l) (pages_of a n)
  is = (w.0 long).1.0

  -- an answer by what was found is one by the check of the pages
  pub found_is : (r : Permit) → r ≡ pages_permit (pages_as f (vm_at l')) a n → Translated m l a n k r l'
  found_is r e = (e ∙ ap (λ (d : Checked). pages_permit d a n) is, ap (λ (d : Checked). d.vm) is)

  pub pages_denied : (e : Exception) → f.frame ≡ Err e → Translated m l a n k (no_permit (Denied e) f.reads) l'
  pages_denied e h = found_is (no_permit (Denied e) f.reads) (rw h)

  module _ (ppn : ℕ) (h : f.frame ≡ Ok ppn) where
    abbrev places : ℕ → ℕ
    places x = joined_to (frame_of (vm_at l') x) x

    pub pages_in_page : (pa : ℕ) → 0 < n → n ≤ room_of a → pa ≡ joined_to ppn a → Translated m l a n k (permit pa 0 f.reads) l'
    pages_in_page pa some room e =
        let frame : frame_of (vm_at l') a ≡ ppn = (w.0 long).1.1 ppn h (omega arith) some in
        found_is (permit pa 0 f.reads) (in_page places a n f.reads pa room (e ∙ rw frame) ∙ rw h)

    pub pages_apart : (first pa next pb : ℕ) → a < 2 ^ 32 → n ≤ 4 → room_of a < n → Reads 69 l' first 0 (frame_of (vm_at l') a) → pa ≡ joined_to first a
        → next ≡ next_page a → pb ≡ joined_to ppn next → Translated m l a n k (permit pa pb f.reads) l'
    pages_apart first pa next pb small few room found e at q =
        let last : ◌≡◌ {A = Result ℕ Exception} (Ok ppn) (Ok (frame_of (vm_at l') (next_page a))) = rw (h, last_start a n small few room) at (w.0 long).1.2 in
        let same : ppn ≡ frame_of (vm_at l') (next_page a) = cc in
        found_is (permit pa pb f.reads)
        (apart places a n f.reads pa pb room (e ∙ rw (found.0 (w.0 long).0)) (q ∙ rw (at, same)) ∙ rw h)

-- ---- the words and the state

module _ (l : List ℕ) where
  vm_is : (sys_at l).vm ≡ vm_at (part vm_from 69 l)
  unfolding sys_at
  vm_is = refl

  regions_are : (sys_at l).regions ≡ regions_at (part regions_from 24 l)
  unfolding sys_at
  regions_are = refl

  translating : get_or l 2 0 % 2 ≡ 1 → get_or l vm_from 0 % 2 ≡ 1 → translating_of (sys_at l) ≡ true
  translating h g = sym (on (sys_at l) (user_at l true (eq-eqb (get_or l 2 0 % 2) 1 h))) ∙ enabled_at l true (eq-eqb (get_or l vm_from 0 % 2) 1 g)

  not_enabled : get_or l 2 0 % 2 ≡ 1 → (get_or l vm_from 0 % 2 ≡ 1 → ⊥) → translating_of (sys_at l) ≡ false
  not_enabled h g = sym (on (sys_at l) (user_at l true (eq-eqb (get_or l 2 0 % 2) 1 h))) ∙ enabled_at l false (ne_eqb (get_or l vm_from 0 % 2) 1 g)

  supervisor : (get_or l 2 0 % 2 ≡ 1 → ⊥) → (sys_at l).user ≡ false
  supervisor h = user_at l false (ne_eqb (get_or l 2 0 % 2) 1 h)

  not_user : (get_or l 2 0 % 2 ≡ 1 → ⊥) → translating_of (sys_at l) ≡ false
  not_user h = sym (off (sys_at l) (supervisor h))

-- ---- the check of a legal access

pub answers_as : (c d : AccessChecked) (l : List ℕ) (a n : ℕ) (r : Permit) (l' : List ℕ) → c ≡ d → Answers d l a n r l' → Answers c l a n r l'
answers_as c d l a n r l' e w = rw e w

module _ (m : Memory) (l : List ℕ) (a n : ℕ) (k : Access) (r : Permit) where
  abbrev S : SystemState
  S = sys_at l

  -- one that is not translated is where its addresses say
  unmoved : translating_of S ≡ false → permit_of (access_answered S (Ok tt)) a n ≡ bare_permit a n
  unmoved t = same_places (Ok tt) (physical_of S) (λ (x : ℕ). x) a n 0 (physical_off S a t) (physical_off S (next_page a) t)

  answers : (p : Result (Unit {0}) AccessError) → check_legal m S a n k ≡ access_answered S p → r ≡ permit_of (access_answered S p) a n → Answers (check_legal m S a n k) l a n r l
  answers p e is = answers_as (check_legal m S a n k) (access_answered S p) l a n r l e (is, refl, refl)

  pub legal_supervisor : (get_or l 2 0 % 2 ≡ 1 → ⊥) → r ≡ bare_permit a n → Answers (check_legal m S a n k) l a n r l
  legal_supervisor h is = answers (Ok tt) (laws.by_supervisor m S a n k (supervisor l h)) (is ∙ sym (unmoved (not_user l h)))

  module _ (h : get_or l 2 0 % 2 ≡ 1) where
    user : S.user ≡ true
    user = user_at l true (eq-eqb (get_or l 2 0 % 2) 1 h)

    by_grant : (ok : Bool) → ok ≡ all_allowed S.regions k (addresses n a) → translating_of S ≡ false
        → r ≡ cond ok (bare_permit a n) (no_permit (Denied (ProtectionFault k)) 0) → Answers (check_legal m S a n k) l a n r l
    by_grant true e t is =
        answers (Ok tt) (laws.by_regions_lem m S a n k t ∙ rw (sym (by_regions_lem S a n k true user e))) (is ∙ sym (unmoved t))
    by_grant false e t is =
        answers (Err (Denied (ProtectionFault k))) (laws.by_regions_lem m S a n k t ∙ rw (sym (by_regions_lem S a n k false user e))) is

    pub legal_regions : (get_or l vm_from 0 % 2 ≡ 1 → ⊥) → r ≡ regions_permit (regions_at (part regions_from 24 l)) a n k → Answers (check_legal m S a n k) l a n r l
    legal_regions g is =
        by_grant (all_allowed (regions_at (part regions_from 24 l)) k (addresses n a)) (ap (λ (rs : List Region). all_allowed rs k (addresses n a)) (sym (regions_are l)))
        (not_enabled l h g) is

    pub legal_translated : (new : List ℕ) → length l ≡ system_words → get_or l vm_from 0 % 2 ≡ 1 → length new ≡ length (part vm_from 69 l)
        → Translated m (part vm_from 69 l) a n k r new → Answers (check_legal m S a n k) l a n r (put vm_from 69 l new)
    legal_translated new long g kept w =
        let v : Vm = vm_at (part vm_from 69 l) in
        let d : Checked = check_each m k v (pages_of a n) in
        let same : length new ≡ 69 = kept ∙ part_length l vm_from 69 (omega arith) in
        let e : check_legal m S a n k ≡ from_pages S d =
        laws.by_pages m S a n k (translating l h g) ∙ ap (λ (x : Vm). from_pages S (check_each m k x (pages_of a n))) (vm_is l) in
        let still : d.vm.enabled ≡ true =
        (pages_keep m k v (pages_of a n)).enabled ∙ ap (λ (x : Vm). x.enabled) (sym (vm_is l)) ∙ enabled_at l true (eq-eqb (get_or l vm_from 0 % 2) 1 g) in
        let t : translating_of (with_vm S d.vm) ≡ true = sym (on (with_vm S d.vm) user) ∙ still in
        answers_as (check_legal m S a n k) (from_pages S d) l a n r (put vm_from 69 l new) e (
          w.0 ∙ sym (same_places (permission_of d.verdict) (physical_of (with_vm S d.vm)) (λ (x : ℕ). joined_to (frame_of d.vm x) x) a n d.reads
              (physical_on (with_vm S d.vm) a t) (physical_on (with_vm S d.vm) (next_page a) t)),
          sys_vm l new long same ∙ ap (with_vm S) w.1,
          reg_vm l new long same,
        )

-- ---- the refusals come first

some_bytes : (k : Access) (n : ℕ) → legal_size k n ≡ true → 0 < n
unfolding legal_size data_size fetch_size
some_bytes Read zero h = absurd_eq (cc)
some_bytes Write zero h = absurd_eq (cc)
some_bytes Fetch zero h = absurd_eq (cc)
some_bytes k (suc n) h = omega arith

few_bytes : (k : Access) (n : ℕ) → legal_size k n ≡ true → n ≤ 4
unfolding legal_size data_size
few_bytes Read n h = data_small n true (sym h) refl
few_bytes Write n h = data_small n true (sym h) refl
few_bytes Fetch n h = data_small n true (rw (h, or-true (eqb n 1))) refl

pub legal_small : (m : Memory) (n : ℕ) (k : Access) (legal : Bool) → legal ≡ legal_size k n → (u : Unit {0}) → Ok u ≡ access_gate m legal → (0 < n) × (n ≤ 4)
legal_small m n k legal is u e = let t = sym is ∙ (access_open m legal (sym e)).1 in (some_bytes k n t, few_bytes k n t)

module _ (m : Memory) (l : List ℕ) (a n : ℕ) (k : Access) (r : Permit) where
  pub no_state : (length l ≡ system_words → ⊥) → r ≡ refused_as Map → Permits m l a n k r l
  no_state h e = over_none system_words l r (refused_as Map) (Answers (check_access m (sys_at l) a n k) l a n r l) h e

  permits_as : (c : AccessChecked) (l' : List ℕ) → length l ≡ system_words → length l' ≡ length l → check_access m (sys_at l) a n k ≡ c → Answers c l a n r l'
      → Permits m l a n k r l'
  permits_as c l' long same e w =
      over_all system_words l r (refused_as Map) l' (Answers (check_access m (sys_at l) a n k) l a n r l') long same
      (answers_as (check_access m (sys_at l) a n k) c l a n r l' e w)

  module _ (long : length l ≡ system_words) (legal : Bool) (size : legal ≡ legal_size k n) where
    pub permit_refused : (f : Refusal) → Err f ≡ access_gate m legal → r ≡ refused_as f → Permits m l a n k r l
    permit_refused f h e =
        permits_as (access_answered (sys_at l) (Err (Refused f))) l long refl
        (laws.check_refused m (sys_at l) a n k f (ap (access_gate m) (sym size) ∙ sym h)) (e, refl, refl)

    pub permit_good : (l' : List ℕ) → (u : Unit {0}) → Ok u ≡ access_gate m legal → length l' ≡ length l → Answers (check_legal m (sys_at l) a n k) l a n r l' → Permits m l a n k r l'
    permit_good l' u h same w =
        permits_as (check_legal m (sys_at l) a n k) l' long same
        (laws.check_good m (sys_at l) a n k (ap (access_gate m) (sym size) ∙ sym h)) w

-- what is permitted over words is over the same words
pub permits_over : (m : Memory) (l o : List ℕ) (a n : ℕ) (k : Access) (r : Permit) (l' : List ℕ) → l ≡ o → Permits m l a n k r l' → Permits m o a n k r l'
permits_over m l o a n k r l' e w = rw (← e) w

-- ---- a word that is granted at once

-- the permit of an access inside its page, as a grant
granted_as : (c : AccessChecked) (l : List ℕ) (a pa n : ℕ) (l' : List ℕ) → Answers c l a 4 (permit pa 0 n) l' → GrantedBy c l a (Some (grant_at pa n)) l'
granted_as c l a pa n l' w =
    let there = placed c.permission (place_at (physical_of c.sys) a 4) _ (sym (ap (λ (p : Permit). p.place) w.0)) in
    let allowed : c.permission ≡ (Ok tt) = there.0 in
    let place : pa ≡ physical_of c.sys a = ap (λ (x : Place). x.pa) there.1 in
    let reads : n ≡ c.reads = ap (λ (p : Permit). p.reads) w.0 in
    (rw (allowed, place, reads), w.1 ∙ rw allowed, w.2)

denied_as : (c : AccessChecked) (l : List ℕ) (a : ℕ) (e : Exception) (l' : List ℕ) (r : Option Grant) → c.permission ≡ Err (Denied e) → r ≡ None → sys_at l' ≡ sys_at l → reg_at l' ≡ reg_at l
    → GrantedBy c l a r l'
denied_as c l a e l' r h is s g = (is ∙ rw h, s ∙ rw h, g)

module _ (m : Memory) (l : List ℕ) (a : ℕ) (k : Access) (r : Option Grant) where
  asked : (l' : List ℕ) → at_once (sys_at l) a ≡ true → GrantedBy (check_legal m (sys_at l) a 4 k) l a r l' → GrantsWord m l a k r l'
  asked l' t w = (λ h. w, λ h. absurd_eq (cc))

  pub not_asked : at_once (sys_at l) a ≡ false → r ≡ None → GrantsWord m l a k r l
  not_asked t e = (λ h. absurd_eq (cc), λ h. (e, refl, refl))

  pub grant_apart : 4092 < a % 4096 → r ≡ None → GrantsWord m l a k r l
  grant_apart h e = not_asked (rw (lt-ltb 4092 (a % 4096) h)) e

  module _ (room : a % 4096 ≤ 4092) where
    pub grant_bare : (get_or l 2 0 % 2 ≡ 1 → ⊥) → r ≡ Some (grant_at a 0) → GrantsWord m l a k r l
    grant_bare h e =
        asked l (rw (le-ltb 4092 (a % 4096) room, supervisor l h))
        (rw e (granted_as (check_legal m (sys_at l) a 4 k) l a a 0 l (legal_supervisor m l a 4 k (permit a 0 0) h (bare_in_page a 4 (omega arith)))))

    module _ (h : get_or l 2 0 % 2 ≡ 1) where
      pub grant_off : (get_or l vm_from 0 % 2 ≡ 1 → ⊥) → r ≡ None → GrantsWord m l a k r l
      grant_off g e =
          not_asked (rw (le-ltb 4092 (a % 4096) room, user_at l true (eq-eqb (get_or l 2 0 % 2) 1 h), enabled_at l false (ne_eqb (get_or l vm_from 0 % 2) 1 g))) e

      module _ (new : List ℕ) (long : length l ≡ system_words) (g : get_or l vm_from 0 % 2 ≡ 1) (kept : length new ≡ length (part vm_from 69 l)) (small : a < 2 ^ 32)
          (f : Option PageGrant) (w : Over 69 (part vm_from 69 l) new f None (GrantsPage m k a (vm_at (part vm_from 69 l)) f (vm_at new))) where
        abbrev v : Vm
        v = vm_at (part vm_from 69 l)

        abbrev c : Checked
        c = check_page m v k a

        abbrev l' : List ℕ
        l' = put vm_from 69 l new

        page : GrantsPage m k a v f (vm_at new)
        page = (w.0 (part_length l vm_from 69 (omega arith))).1

        alone : check_each m k v (pages_of a 4) ≡ c
        alone = ap (check_each m k v) (pages_one a 4 small (omega arith) (omega arith)) ∙ each_page m k v a

        here : at_once (sys_at l) a ≡ true
        here = rw (le-ltb 4092 (a % 4096) room, user_at l true (eq-eqb (get_or l 2 0 % 2) 1 h), enabled_at l true (eq-eqb (get_or l vm_from 0 % 2) 1 g))

        opened : (p : PageGrant) → f ≡ Some p → GrantedBy (check_legal m (sys_at l) a 4 k) l a (Some (grant_at (joined_to p.ppn a) p.reads)) l'
        opened p t =
            let o = grant_open c a v f p (vm_at new) page t in
            let pa : ℕ = joined_to p.ppn a in
            let permits : permit pa 0 p.reads ≡ pages_permit c a 4 =
            in_page (λ (x : ℕ). joined_to (frame_of c.vm x) x) a 4 p.reads pa (omega arith) (rw o.1) ∙ rw (o.0, o.2) in
            granted_as (check_legal m (sys_at l) a 4 k) l a pa p.reads l'
            (legal_translated m l a 4 k (permit pa 0 p.reads) h new long g kept (permits ∙ ap (λ (d : Checked). pages_permit d a 4) (sym alone), o.3 ∙ ap (λ (d : Checked). d.vm) (sym alone)))

        shut : f ≡ None → GrantedBy (check_legal m (sys_at l) a 4 k) l a None l'
        shut t =
            let s = grant_none c a v f (vm_at new) page t in
            let same : length new ≡ 69 = kept ∙ part_length l vm_from 69 (omega arith) in
            let legal : check_legal m (sys_at l) a 4 k ≡ from_pages (sys_at l) c =
            laws.by_pages m (sys_at l) a 4 k (translating l h g) ∙ ap (λ (x : Vm). from_pages (sys_at l) (check_each m k x (pages_of a 4))) (vm_is l) ∙ ap (from_pages (sys_at l)) alone in
            denied_as (check_legal m (sys_at l) a 4 k) l a s.0.0 l' None (rw legal (ap permission_of s.0.1)) refl
            (sys_vm l new long same ∙ ap (with_vm (sys_at l)) (s.1 ∙ sym (vm_is l))) (reg_vm l new long same)

        pub grant_translated : (p : PageGrant) (pa : ℕ) → f ≡ Some p → pa ≡ joined_to p.ppn a → r ≡ Some (grant_at pa p.reads) → GrantsWord m l a k r l'
        grant_translated p pa t at e = asked l' here (rw (e, at) (opened p t))

        pub grant_shut : f ≡ None → r ≡ None → GrantsWord m l a k r l'
        grant_shut t e = asked l' here (rw e (shut t))
