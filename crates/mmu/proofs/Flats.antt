-- The ways through extension V's state as words. Assumes nothing.
use Rattle.std.proofs.Common.{◌≡◌, ℕ, ◌+◌, ◌-◌, ◌*◌, ◌/◌, ◌%◌, ◌^◌, ◌<◌, ◌≤◌, Bool, true, false, cond, eqb, List, [], ◌∷◌, length, get_or, drop, set, sym, refl, ap, ◌∙◌, arith, length-set, get_or-set_same, eq-eqb, ne_eqb, Option, Some, None, Result, Ok, Err}
use Rattle.std.specs.Array.{IsWholeChunk}
use Rattle.std.specs.Int.{from_bool}
use Rattle.std.specs.Result.{result_and}
use Rattle.common.specs.Cases.{absurd_eq}
use Rattle.common.specs.Lists.{map_to, map_to_none, map_to_next, map_to_done, over_to, over_to_none, over_to_next, over_to_done}
use Rattle.layout.specs.Words.{part, word_at, on_at, bit_word, Over, Reads, part_length, over_all, reads_all}
use Rattle.memory.specs.Memory.{Memory}
use Rattle.mmu.specs.Check.{page_addr, permits, faulted, judged, checked, last_page}
use Rattle.mmu.specs.Flat.{tlb_start, tlb_words, vm_words, no_pages, pages_is, pages_as, CheckedPages, CheckedPage, WalkedPage, grant_to, GrantedBy, GrantsPage, GrantsWalk, entry_at, vm_at, with_entry, with_registers, dropped_word}
use Rattle.mmu.specs.Flat.Laws.{words_of, bit_on, tlb_slots, entry_is, slot_is, word_is, vm_enabled_lem, vm_ptbr_lem, vm_vfault, vm_victim, vm_word, vm_entry}
use Rattle.mmu.specs.Opened.Laws.{walked_matches}
use Rattle.mmu.specs.Tlb.{no_entry, no_entries, matches, first_match, dropped, dropped_page}
use Rattle.mmu.specs.Tlb.Laws.{found_after_fill}
use Rattle.mmu.specs.Vm.{new_vm, with_tlb, victim, filled, flushed, invalidated, slot_of, frame_of}
use Rattle.mmu.specs.Vm.Laws.{frame_same}
use Rattle.mmu.specs.Walk.{walk_of}
use Rattle.mmu.specs.declared.check.Checked.{Checked}
use Rattle.mmu.specs.declared.walk.WalkFault.{WalkFault}
use Rattle.mmu.specs.declared.walk.WalkFault.TheVariants as walked
use Rattle.mmu.specs.declared.exception.Access.{Access}
use Rattle.mmu.specs.declared.exception.Exception.{Exception}
use Rattle.mmu.specs.declared.exception.Exception.TheVariants.{BusError}
use Rattle.mmu.specs.declared.flat.Pages.{Pages}
use Rattle.mmu.specs.declared.tlb.TlbEntry.{TlbEntry}
use Rattle.mmu.specs.declared.flat.PageGrant.{PageGrant}
use Rattle.mmu.specs.declared.vm.Vm.{Vm}
use Rattle.mmu.specs.declared.walk.WalkAnswer.{WalkAnswer}
use Rattle.mmu.proofs.Pages.{page_reserved, page_resident, page_walked, walk_leaf_lem, walk_missing, walk_bus, From, reads_fit, reads_few, each_denied, each_last, next_low, next_page_lem, each_more}
use Rattle.mmu.proofs.Search.{none_left, found_here, not_valid, other_page}

-- a word of an entry that is set after others
pub entry_inside : (l w : List ℕ) (slot j : ℕ) → length w ≡ length l → length l ≡ vm_words → slot < 16 → j < 4 → tlb_start + 4 * slot + j < length w
entry_inside l w slot j p q h b = omega arith

-- what a check and a grant promise of lent words l, from what they did to them as an array w
module _ (m : Memory) (k : Access) (l w l' : List ℕ) (same : IsWholeChunk l w vm_words) (long : length l' ≡ vm_words) where
  pub checks_all : (addr size : ℕ) (x : Pages) → CheckedPages m k addr size (vm_at w) x (vm_at l') → Over vm_words l l' x no_pages (CheckedPages m k addr size (vm_at l) x (vm_at l'))
  checks_all addr size x p = over_all vm_words l x no_pages l' _ same.long (long ∙ sym same.long) (rw same.same at p)

  pub grants_all : (va : ℕ) (x : Option PageGrant) → GrantsPage m k va (vm_at w) x (vm_at l') → Over vm_words l l' x None (GrantsPage m k va (vm_at l) x (vm_at l'))
  grants_all va x p = over_all vm_words l x None l' _ same.long (long ∙ sym same.long) (rw same.same at p)

-- a truth value as a number is its word
bit_byte : (b : Bool) → from_bool b ≡ bit_word b
bit_byte true = refl
bit_byte false = refl

-- ---- entries

pub entry_read : (l : List ℕ) (i : ℕ) → i < 16
    → ◌≡◌ {A = TlbEntry} (record { valid = on_at l (tlb_start + 4 * i); vpn = word_at l (tlb_start + 4 * i + 1); ppn = word_at l (tlb_start + 4 * i + 2); flags = word_at l (tlb_start + 4 * i + 3) }) (get_or (vm_at l).tlb i no_entry)
entry_read l i h = sym (entry_is l i h)

pub entry_put : (l : List ℕ) (i b : ℕ) (e : TlbEntry) → length l ≡ vm_words → i < 16 → b ≡ from_bool e.valid
    → vm_at (set (set (set (set l (tlb_start + 4 * i) b) (tlb_start + 4 * i + 1) e.vpn) (tlb_start + 4 * i + 2) e.ppn) (tlb_start + 4 * i + 3) e.flags) ≡ with_entry (vm_at l) i e
entry_put l i b e long h w = vm_entry l i b e.vpn e.ppn e.flags long h ∙ rw (w, bit_byte e.valid, bit_on e.valid)

-- ---- the search

module _ (vpn : ℕ) (l : List ℕ) (i : ℕ) (p : first_match vpn 0 (vm_at l).tlb ≡ first_match vpn i (drop i (vm_at l).tlb)) where
  pub slot_none : 16 ≤ i → None ≡ first_match vpn 0 (vm_at l).tlb
  slot_none h = none_left _ vpn (vm_at l).tlb i p (omega (arith, tlb_slots l))

  module _ (h : i < 16) where
    on_is : (get_or (vm_at l).tlb i no_entry).valid ≡ eqb (get_or l (tlb_start + 4 * i) 0 % 2) 1
    on_is = ap (λ (e : TlbEntry). e.valid) (entry_is l i h)

    page_is : (get_or (vm_at l).tlb i no_entry).vpn ≡ get_or l (tlb_start + 4 * i + 1) 0
    page_is = ap (λ (e : TlbEntry). e.vpn) (entry_is l i h)

    pub slot_here : get_or l (tlb_start + 4 * i + 1) 0 ≡ vpn → get_or l (tlb_start + 4 * i) 0 % 2 ≡ 1 → Some i ≡ first_match vpn 0 (vm_at l).tlb
    slot_here e v = found_here _ vpn (vm_at l).tlb i p (omega (arith, tlb_slots l)) (on_is ∙ eq-eqb _ _ v) (page_is ∙ e)

    pub slot_other : (get_or l (tlb_start + 4 * i + 1) 0 ≡ vpn → ⊥) → first_match vpn 0 (vm_at l).tlb ≡ first_match vpn (i + 1) (drop (i + 1) (vm_at l).tlb)
    slot_other e = other_page _ vpn (vm_at l).tlb i p (omega (arith, tlb_slots l)) (λ q. e (sym page_is ∙ q))

    pub slot_unmarked : (get_or l (tlb_start + 4 * i) 0 % 2 ≡ 1 → ⊥) → first_match vpn 0 (vm_at l).tlb ≡ first_match vpn (i + 1) (drop (i + 1) (vm_at l).tlb)
    slot_unmarked v = not_valid _ vpn (vm_at l).tlb i p (omega (arith, tlb_slots l)) (on_is ∙ ne_eqb _ _ v)

pub ruleset slots = (slot_none, slot_here, slot_other, slot_unmarked)

-- ---- the frame

module _ (l : List ℕ) (va : ℕ) (s : Option ℕ) (is : s ≡ slot_of (vm_at l) va) where
  pub frame_there : (slot : ℕ) (e : TlbEntry) → s ≡ Some slot → e ≡ get_or (vm_at l).tlb slot no_entry → e.ppn ≡ frame_of (vm_at l) va
  unfolding frame_of
  frame_there slot e at g = rw (← is, at, g)

  pub frame_none : s ≡ None → 0 ≡ frame_of (vm_at l) va
  unfolding frame_of
  frame_none at = rw (← is, at)

pub ruleset frames = (frame_there, frame_none)

-- ---- sixteen entries put and read

-- the words l with the first i of the entries t in the place of v's
abbrev pub PutTo : ℕ → List TlbEntry → Vm → List ℕ → Type 0
PutTo i t v l = vm_at l ≡ with_tlb v (over_to i t v.tlb) v.next_victim

pub put_none : (t : List TlbEntry) (l : List ℕ) → PutTo 0 t (vm_at l) l
put_none t l = rw (over_to_none t (vm_at l).tlb)

module _ (i : ℕ) (t : List TlbEntry) (v : Vm) (l : List ℕ) (p : PutTo i t v l) (n : length t ≡ 16) where
  pub put_next : (l' : List ℕ) → i < 16 → vm_at l' ≡ with_entry (vm_at l) i (get_or t i no_entry) → PutTo (i + 1) t v l'
  put_next l' h q = q ∙ rw p (ap (λ (x : List TlbEntry). with_tlb v x v.next_victim) (over_to_next t v.tlb _ i no_entry _ (omega arith) refl refl))

  pub put_done : (l₀ : List ℕ) → v ≡ vm_at l₀ → 16 ≤ i → vm_at l ≡ with_tlb (vm_at l₀) t (vm_at l₀).next_victim
  put_done l₀ e h =
      p ∙ ap (λ (x : List TlbEntry). with_tlb v x v.next_victim) (over_to_done t v.tlb _ i (omega arith) (rw e (tlb_slots l₀) ∙ sym n) refl)
      ∙ ap (λ (x : Vm). with_tlb x t x.next_victim) e

module _ (l : List ℕ) (t z : List TlbEntry) (i : ℕ) (p : t ≡ over_to i (vm_at l).tlb z) where
  pub read_next : (x : TlbEntry) → i < 16 → x ≡ get_or (vm_at l).tlb i no_entry → set t i x ≡ over_to (i + 1) (vm_at l).tlb z
  read_next x h q = over_to_next (vm_at l).tlb z t i no_entry x (omega (arith, tlb_slots l)) p q

  pub read_done : 16 ≤ i → length z ≡ 16 → t ≡ (vm_at l).tlb
  read_done h n = over_to_done (vm_at l).tlb z t i (omega (arith, tlb_slots l)) (n ∙ sym (tlb_slots l)) p

pub unpacked : (l : List ℕ) (t : List TlbEntry) (n : ℕ) → length l ≡ vm_words → t ≡ (vm_at l).tlb → n ≡ get_or l 3 0 + 2 ^ 32 * get_or l 4 0
    → Reads {R = Vm} vm_words l (record { enabled = on_at l 0; ptbr = word_at l 1; vfault = word_at l 2; tlb = t; next_victim = n }) new_vm (vm_at l)
unfolding vm_at
unpacked l t n long p q = reads_all vm_words l _ _ _ long (rw (p, q))

-- ---- a page dropped

marked : (w : List ℕ) (p x : ℕ) → length w ≡ 4 → x ≡ dropped_word p (get_or w 1 0) (get_or w 0 0) → entry_at (set w 0 x) ≡ dropped p (entry_at w)
unfolding entry_at dropped
marked [] p x h e = absurd (omega arith)
marked (a ∷ t) p x h e = rw e (by_page (eqb (get_or t 0 0) p))
  where
    by_page : (b : Bool)
        → ◌≡◌ {A = TlbEntry} (record { valid = eqb (cond b 0 a % 2) 1; vpn = get_or t 0 0; ppn = get_or t 1 0; flags = get_or t 2 0 })
        (cond b (record { valid = false; vpn = get_or t 0 0; ppn = get_or t 1 0; flags = get_or t 2 0 }) (record { valid = eqb (a % 2) 1; vpn = get_or t 0 0; ppn = get_or t 1 0; flags = get_or t 2 0 }))
    by_page true = refl
    by_page false = refl

-- the words l with the first i entries of v rid of page p
abbrev pub DroppedTo : ℕ → ℕ → Vm → List ℕ → Type 0
DroppedTo i p v l = vm_at l ≡ with_tlb v (map_to (dropped p) i v.tlb) v.next_victim

pub drop_none : (p : ℕ) (l : List ℕ) → DroppedTo 0 p (vm_at l) l
drop_none p l = rw (map_to_none (dropped p) (vm_at l).tlb)

module _ (i p : ℕ) (l₀ l : List ℕ) (q : DroppedTo i p (vm_at l₀) l) where
  pub drop_next : (x : ℕ) → length l ≡ vm_words → i < 16 → x ≡ dropped_word p (get_or l (tlb_start + 4 * i + 1) 0) (get_or l (tlb_start + 4 * i) 0) → DroppedTo (i + 1) p (vm_at l₀) (set l (tlb_start + 4 * i) x)
  drop_next x long h e =
      let inner : length (part tlb_start tlb_words l) ≡ tlb_words = part_length l tlb_start tlb_words (omega arith) in
      let w : length (words_of i l) ≡ 4 = part_length (part tlb_start tlb_words l) (4 * i) 4 (omega arith) in
      let here : x ≡ dropped_word p (get_or (words_of i l) 1 0) (get_or (words_of i l) 0 0) =
      rw (word_is l i 1 (tlb_start + 4 * i + 1) h (omega arith) refl, word_is l i 0 (tlb_start + 4 * i) h (omega arith) (omega arith)) e in
      let is : entry_at (set (words_of i l) 0 x) ≡ dropped p (get_or (vm_at l).tlb i no_entry) = marked (words_of i l) p x w here ∙ ap (dropped p) (sym (slot_is l i h)) in
      let z : List TlbEntry = (vm_at l₀).tlb in
      vm_word l i 0 (tlb_start + 4 * i) x h (omega arith) (omega arith)
      ∙ rw (is, q) (ap (λ (t : List TlbEntry). with_tlb (vm_at l₀) t (vm_at l₀).next_victim) (map_to_next (dropped p) z _ i no_entry _ (omega (arith, tlb_slots l₀)) refl refl))

  pub drop_done : (va : ℕ) → p ≡ va / 4096 → 16 ≤ i → vm_at l ≡ invalidated (vm_at l₀) va
  unfolding invalidated dropped_page
  drop_done va e h =
      q ∙ ap (λ (t : List TlbEntry). with_tlb (vm_at l₀) t (vm_at l₀).next_victim) (map_to_done (dropped p) (vm_at l₀).tlb _ i (omega (arith, tlb_slots l₀)) refl) ∙ rw e

pub ruleset drops = (drop_none, drop_next, drop_done)

-- ---- the victim, a flush, and a state put

pub victim_put : (l : List ℕ) (n : ℕ) → length l ≡ vm_words → vm_at (set (set l 3 (n % 2 ^ 32)) 4 (n / 2 ^ 32)) ≡ with_tlb (vm_at l) (vm_at l).tlb n
victim_put l n long =
    let sum : n % 2 ^ 32 + 2 ^ 32 * (n / 2 ^ 32) ≡ n = omega arith in
    vm_victim l long (n % 2 ^ 32) (n / 2 ^ 32) ∙ ap (with_tlb (vm_at l) (vm_at l).tlb) sum

pub flush_done : (l l' l'' : List ℕ) (t : List TlbEntry) → vm_at l' ≡ with_tlb (vm_at l) t (vm_at l).next_victim → vm_at l'' ≡ with_tlb (vm_at l') (vm_at l').tlb 0 → t ≡ no_entries
    → vm_at l'' ≡ flushed (vm_at l)
unfolding flushed
flush_done l l' l'' t p q e = q ∙ rw (p, e)

pub registers_put : (l : List ℕ) (b : ℕ) (on : Bool) (ptbr vfault : ℕ) → length l ≡ vm_words → b ≡ from_bool on
    → vm_at (set (set (set l 0 b) 1 ptbr) 2 vfault) ≡ with_registers (vm_at l) on ptbr vfault
registers_put l b on ptbr vfault long e =
    let m : List ℕ = set l 0 b in
    let n : length m ≡ vm_words = length-set l 0 b ∙ long in
    vm_vfault (set m 1 ptbr) (length-set m 1 ptbr ∙ n) vfault ∙ rw (vm_ptbr_lem m n ptbr, vm_enabled_lem l long b, e, bit_byte on, bit_on on)

pub pack_done : (l l' l'' l''' : List ℕ) (v : Vm) → vm_at l' ≡ with_tlb (vm_at l) v.tlb (vm_at l).next_victim → vm_at l'' ≡ with_tlb (vm_at l') (vm_at l').tlb v.next_victim
    → vm_at l''' ≡ with_registers (vm_at l'') v.enabled v.ptbr v.vfault → vm_at l''' ≡ v
pack_done l l' l'' l''' v p q r = r ∙ rw (q, p)

-- ---- a fill

low_victim : (l : List ℕ) → get_or l 3 0 % 16 ≡ victim (vm_at l)
unfolding vm_at
low_victim l = omega arith

pub fill_done : (l l' l'' : List ℕ) (slot : ℕ) (e : TlbEntry) → slot ≡ get_or l 3 0 % 16 → vm_at l' ≡ with_entry (vm_at l) slot e
    → vm_at l'' ≡ with_tlb (vm_at l') (vm_at l').tlb ((slot + 1) % 16) → vm_at l'' ≡ filled (vm_at l) e
unfolding filled
fill_done l l' l'' slot e p q r = r ∙ rw (q, p ∙ low_victim l)

filled_frame : (v : Vm) (va : ℕ) (e : TlbEntry) → length v.tlb ≡ 16 → slot_of v va ≡ None → matches (va / 4096) e ≡ true → frame_of (filled v e) va ≡ e.ppn
unfolding filled frame_of
filled_frame v va e n none h =
    let at : victim v < length v.tlb = omega arith in
    rw (found_after_fill (va / 4096) v.tlb (victim v) e none h at) (ap (λ (t : TlbEntry). t.ppn) (get_or-set_same v.tlb (victim v) e no_entry at))

-- ---- the check of one page

-- an answer and the state after it, by the verdict
answer_as : (x : Pages) (w : Vm) (v : Result (Unit {0}) Exception) (ppn n : ℕ) → x ≡ pages_is v ppn n → pages_as x w ≡ checked w v n
answer_as x w v ppn n e = ap (λ (y : Pages). pages_as y w) e ∙ ap (λ (u : Result (Unit {0}) Exception). checked w u n) (by v)
  where
    by : (u : Result (Unit {0}) Exception) → ◌≡◌ {A = Result (Unit {0}) Exception} (result_and (result_and u (Ok ppn)) (Ok tt)) u
    by (Ok tt) = refl
    by (Err f) = refl

-- a frame that an answer has is the one that was given
answer_frame : (x : Pages) (v : Result (Unit {0}) Exception) (ppn n f : ℕ) → x ≡ pages_is v ppn n → x.frame ≡ Ok f → ppn ≡ f
answer_frame x v ppn n f e a = by v (sym (ap (λ (y : Pages). y.frame) e) ∙ a)
  where
    by : (u : Result (Unit {0}) Exception) → ◌≡◌ {A = Result ℕ Exception} (result_and u (Ok ppn)) (Ok f) → ppn ≡ f
    by (Ok tt) q = cc
    by (Err g) q = absurd_eq (cc)

-- a denied access has none
no_frame : {A : Type 0} (x : Pages) (v : Result (Unit {0}) Exception) (g : Exception) (n f : ℕ) → x ≡ pages_is v 0 n → v ≡ Err g → x.frame ≡ Ok f → A
no_frame x v g n f e q a =
    let is : ◌≡◌ {A = Result ℕ Exception} (Err g) (Ok f) = rw q at (sym (ap (λ (y : Pages). y.frame) e) ∙ a) in
    absurd_eq (cc)

module _ (m : Memory) (k : Access) (va : ℕ) (l : List ℕ) (x : Pages) where
  pub page_denied : (v : Result (Unit {0}) Exception) → 0xFFFF_0000 ≤ page_addr (va / 4096) → v ≡ faulted k true va → x ≡ pages_is v 0 0 → CheckedPage m k va (vm_at l) x (vm_at l)
  page_denied v h q e = (page_reserved m (vm_at l) k va _ v h q (answer_as x (vm_at l) v 0 0 e), λ f a. no_frame x v _ 0 f e q a)

  pub page_found : (s : Option ℕ) (slot : ℕ) (t : TlbEntry) (v : Result (Unit {0}) Exception) → page_addr (va / 4096) < 0xFFFF_0000 → s ≡ slot_of (vm_at l) va → s ≡ Some slot
      → t ≡ get_or (vm_at l).tlb slot no_entry → v ≡ judged t k va → x ≡ pages_is v t.ppn 0 → CheckedPage m k va (vm_at l) x (vm_at l)
  unfolding frame_of
  page_found s slot t v h f at g j e = (
    page_resident m (vm_at l) k va _ s slot v h f at (j ∙ ap (λ (y : TlbEntry). judged y k va) g) (answer_as x (vm_at l) v t.ppn 0 e),
    λ p a. rw (← f, at) (ap (λ (y : TlbEntry). y.ppn) (sym g) ∙ answer_frame x v t.ppn 0 p e a),
  )

  pub page_walks : (s : Option ℕ) (l' : List ℕ) → page_addr (va / 4096) < 0xFFFF_0000 → s ≡ slot_of (vm_at l) va → s ≡ None
      → WalkedPage m k va (vm_at l) x (vm_at l') → CheckedPage m k va (vm_at l) x (vm_at l')
  page_walks s l' h f at w = let none = sym f ∙ at in (page_walked m (vm_at l) k va _ s h f at (w none).0, (w none).1)

  module _ (w : WalkAnswer) (is : w ≡ walk_of m (get_or l 1 0) va) where
    walks : w ≡ walk_of m (vm_at l).ptbr va
    unfolding vm_at
    walks = is

    pub page_missing : (f : WalkFault) (v : Result (Unit {0}) Exception) → w.walked ≡ Err f → f ≡ walked.Missing → v ≡ faulted k false va → x ≡ pages_is v 0 w.reads → WalkedPage m k va (vm_at l) x (vm_at l)
    page_missing f v p m' q e none = (walk_missing (vm_at l) k va _ w walks _ f v p m' q (answer_as x (vm_at l) v 0 w.reads e), λ g a. no_frame x v _ w.reads g e q a)

    pub page_bus : (f : WalkFault) → w.walked ≡ Err f → f ≡ walked.BusError → x ≡ pages_is (Err BusError) 0 w.reads → WalkedPage m k va (vm_at l) x (vm_at l)
    page_bus f p m' e none = (walk_bus (vm_at l) k va _ w walks _ f p m' (answer_as x (vm_at l) (Err BusError) 0 w.reads e), λ g a. no_frame x (Err BusError) BusError w.reads g e refl a)

    pub page_leaf : (t : TlbEntry) (v : Result (Unit {0}) Exception) (l' : List ℕ) → w.walked ≡ Ok t → vm_at l' ≡ filled (vm_at l) t → v ≡ judged t k va
        → x ≡ pages_is v t.ppn w.reads → WalkedPage m k va (vm_at l) x (vm_at l')
    page_leaf t v l' p q j e none =
        let h = walked_matches m (vm_at l).ptbr va t (sym (ap (λ (o : WalkAnswer). o.walked) walks) ∙ p) in (
          walk_leaf_lem (vm_at l) k va _ w walks _ t (vm_at l') v p q j (answer_as x (vm_at l') v t.ppn w.reads e),
          (λ f a. rw q (filled_frame (vm_at l) va t (tlb_slots l) none h) ∙ answer_frame x v t.ppn w.reads f e a),
        )

pub ruleset pages = (page_denied, page_found, page_walks, page_missing, page_bus, page_leaf)

-- ---- a grant, by the check of the page

grant_opens : (c : Checked) (va : ℕ) (v : Vm) (x : Option PageGrant) (v' : Vm) (p n : ℕ) → c ≡ checked v' (Ok tt) n → frame_of v' va ≡ p → x ≡ Some (grant_to p n) → GrantedBy c va v x v'
grant_opens c va v x v' p n is f e = (e ∙ rw (is, f), rw is)

grant_shuts : (c : Checked) (va : ℕ) (v v' : Vm) (x : Option PageGrant) (e : Exception) (n : ℕ) → c ≡ checked v' (Err e) n → x ≡ None → GrantedBy c va v x v
grant_shuts c va v v' x e n is q = (q ∙ rw is, rw is)

-- what the entry grants is what is judged
judged_open : (t : TlbEntry) (k : Access) (va : ℕ) (b : Bool) → b ≡ permits t k → b ≡ true → judged t k va ≡ Ok tt
unfolding judged
judged_open t k va b is on = rw (← is, on)

judged_shut : (t : TlbEntry) (k : Access) (va : ℕ) (b : Bool) → b ≡ permits t k → b ≡ false → judged t k va ≡ faulted k true va
unfolding judged
judged_shut t k va b is off = rw (← is, off)

module _ (m : Memory) (k : Access) (va : ℕ) (l : List ℕ) (x : Option PageGrant) where
  pub grant_reserved : 0xFFFF_0000 ≤ page_addr (va / 4096) → x ≡ None → GrantsPage m k va (vm_at l) x (vm_at l)
  grant_reserved h e = grant_shuts _ va (vm_at l) (vm_at l) x _ 0 (sym (page_reserved m (vm_at l) k va _ _ h refl refl)) e

  module _ (s : Option ℕ) (slot : ℕ) (t : TlbEntry) (b : Bool) (h : page_addr (va / 4096) < 0xFFFF_0000) (f : s ≡ slot_of (vm_at l) va) (at : s ≡ Some slot)
      (g : t ≡ get_or (vm_at l).tlb slot no_entry) (is : b ≡ permits t k) where
    there : (v : Result (Unit {0}) Exception) → judged t k va ≡ v → CheckedPage m k va (vm_at l) (pages_is v t.ppn 0) (vm_at l)
    there v j = page_found m k va l (pages_is v t.ppn 0) s slot t v h f at g (sym j) refl

    pub grant_resident : b ≡ true → x ≡ Some (grant_to t.ppn 0) → GrantsPage m k va (vm_at l) x (vm_at l)
    grant_resident on e =
        let open' = there (Ok tt) (judged_open t k va b is on) in
        grant_opens _ va (vm_at l) x (vm_at l) t.ppn 0 (sym open'.0) (open'.1 t.ppn refl) e

    pub grant_denied : b ≡ false → x ≡ None → GrantsPage m k va (vm_at l) x (vm_at l)
    grant_denied off e = grant_shuts _ va (vm_at l) (vm_at l) x _ 0 (sym (there _ (judged_shut t k va b is off)).0) e

  pub grant_walks : (s : Option ℕ) (l' : List ℕ) → page_addr (va / 4096) < 0xFFFF_0000 → s ≡ slot_of (vm_at l) va → s ≡ None
      → GrantsWalk m k va (vm_at l) x (vm_at l') → GrantsPage m k va (vm_at l) x (vm_at l')
  grant_walks s l' h f at w = let same = page_walked m (vm_at l) k va _ s h f at refl in rw same at (w (sym f ∙ at))

  module _ (w : WalkAnswer) (is : w ≡ walk_of m (get_or l 1 0) va) where
    pub grant_fault : (f : WalkFault) → w.walked ≡ Err f → x ≡ None → GrantsWalk m k va (vm_at l) x (vm_at l)
    grant_fault walked.Missing p e none = grant_shuts _ va (vm_at l) (vm_at l) x _ w.reads (sym (page_missing m k va l (pages_is (faulted k false va) 0 w.reads) w is _ _ p refl refl refl none).0) e
    grant_fault walked.BusError p e none = grant_shuts _ va (vm_at l) (vm_at l) x _ w.reads (sym (page_bus m k va l (pages_is (Err BusError) 0 w.reads) w is _ p refl refl none).0) e

    module _ (t : TlbEntry) (b : Bool) (p : w.walked ≡ Ok t) (may : b ≡ permits t k) where
      pub grant_leaf : (l' : List ℕ) → b ≡ true → vm_at l' ≡ filled (vm_at l) t → x ≡ Some (grant_to t.ppn w.reads) → GrantsWalk m k va (vm_at l) x (vm_at l')
      grant_leaf l' on q e none =
          let open' = page_leaf m k va l (pages_is (Ok tt) t.ppn w.reads) w is t (Ok tt) l' p q (sym (judged_open t k va b may on)) refl none in
          grant_opens _ va (vm_at l) x (vm_at l') t.ppn w.reads (sym open'.0) (open'.1 t.ppn refl) e

      pub grant_shut : b ≡ false → x ≡ None → GrantsWalk m k va (vm_at l) x (vm_at l)
      grant_shut off e none = grant_shuts _ va (vm_at l) (filled (vm_at l) t) x _ w.reads (sym (walk_leaf_lem (vm_at l) k va _ w (walks m k va l (pages_is (Ok tt) 0 0) w is) _ t (filled (vm_at l) t) _ p refl (sym (judged_shut t k va b may off)) refl)) e

pub ruleset grantings = (grant_reserved, grant_resident, grant_denied, grant_walks, grant_fault, grant_leaf, grant_shut)

-- ---- the page loop

-- an access that stays in its page has that page as its last
one_page : (addr size : ℕ) → addr < 2 ^ 32 → addr % 4096 + size ≤ 4096 → 0 < size → addr / 4096 ≡ last_page addr size
one_page addr size h l g =
    let less : (size + (2 ^ 32 - 1)) % 2 ^ 32 ≡ size - 1 = omega arith in
    rw less (omega arith)

module _ (m : Memory) (k : Access) (addr size : ℕ) (v₀ v v' : Vm) (page va n : ℕ) (p : From m k addr size v₀ v page va n) (x : Pages) (is : CheckedPage m k va v x v') where
  pub words_fit : n ≤ 2 * page → page < 2 ^ 20 → n + x.reads < 2 ^ 32
  words_fit = reads_fit m k addr size v₀ v page va n p (pages_as x v') is.0

  pub words_few : n ≤ 2 * page → n + x.reads ≤ 2 * (page + 1)
  words_few = reads_few m k addr size v₀ v page va n p (pages_as x v') is.0

  pub words_denied : (y : Pages) (e : Exception) → x.frame ≡ Err e → y ≡ pages_is (Err e) 0 (n + x.reads) → CheckedPages m k addr size v₀ y v'
  words_denied y e d q = (
    each_denied m k addr size v₀ v page va n p (pages_as x v') is.0 _ e (ap (λ (f : Result ℕ Exception). result_and f (Ok tt)) d) (ap (λ (z : Pages). pages_as z v') q),
    (λ f a one some. no_frame y (Err e) e (n + x.reads) f q refl a),
    rw q,
  )

  module _ (last : ℕ) (end : last ≡ last_page addr size) (frame : ℕ) (a : x.frame ≡ Ok frame) (h : page < 2 ^ 20) where
    allowed : ◌≡◌ {A = Result (Unit {0}) Exception} (result_and x.frame (Ok tt)) (Ok tt)
    allowed = ap (λ (f : Result ℕ Exception). result_and f (Ok tt)) a

    pub words_last : (y : Pages) → addr < 2 ^ 32 → va / 4096 ≡ page → page ≡ last → y ≡ record { frame = x.frame; reads = n + x.reads } → CheckedPages m k addr size v₀ y v'
    words_last y small here e q =
        let is' : y ≡ pages_is (Ok tt) frame (n + x.reads) = q ∙ rw a in
        let there : frame_of v' (page_addr (last_page addr size)) ≡ frame = frame_same v' _ va (omega arith) ∙ is.1 frame a in (
          each_last m k addr size v₀ v page va n p (pages_as x v') is.0 last end allowed h _ e (answer_as y v' (Ok tt) frame (n + x.reads) is'),
          (λ f ok one some.
              frame_same v' addr va (one_page addr size small one some ∙ sym (here ∙ e ∙ end)) ∙ is.1 frame a
              ∙ answer_frame y (Ok tt) frame (n + x.reads) f is' ok),
          rw (is', there),
        )

    pub words_low : va / 4096 ≡ page → page + 1 < 2 ^ 20
    words_low = next_low m k addr size v₀ v page va n p (pages_as x v') is.0 last end allowed h

    pub words_next : va / 4096 ≡ page → page_addr (page + 1) / 4096 ≡ page + 1
    words_next = next_page_lem m k addr size v₀ v page va n p (pages_as x v') is.0 last end allowed h

    pub words_more : last < 2 ^ 20 → (page ≡ last → ⊥) → From m k addr size v₀ v' (page + 1) (page_addr (page + 1)) (n + x.reads)
    words_more = each_more m k addr size v₀ v page va n p (pages_as x v') is.0 last end allowed h

pub ruleset loops = (words_fit, words_few, words_denied, words_last, words_low, words_next, words_more)
