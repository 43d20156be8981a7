-- The document's sentences, from the definitions. Assumes nothing.
use Rattle.std.proofs.Common.{◌≡◌, ℕ, zero, suc, ◌+◌, ◌*◌, ◌/◌, ◌%◌, ◌^◌, ◌<◌, ◌≤◌, Bool, true, false, ◌&&◌, ◌||◌, eqb, List, get_or, set, sym, refl, ap, ◌∙◌, arith, lit<, length-set, get_or-set_other, get_or-set_same, le-ltb, lt-ltb, le-leb, Ok}
use Rattle.std.proofs.Math.Bool.{and-true, and-false, or-true, or-false}
use Rattle.std.proofs.lemmas.Nat.{or_lt}
use Rattle.std.proofs.lemmas.Bool.{lt-leb}
use Rattle.common.specs.Bits.{bit_set}
use Rattle.common.specs.Bits.Laws.{bit_or_lem, bit_of_zero}
use Rattle.common.specs.Cases.{cond_holds, and_left, and_right}
use Rattle.common.specs.declared.Refusal.TheVariants.{Size, Map}
use Rattle.memory.specs.Gate.{map_good, access_gate}
use Rattle.memory.specs.Gate.Laws.{map_open, map_shut, size_open, size_shut, size_kept}
use Rattle.memory.specs.Memory.{Memory}
use Rattle.memory.specs.Memory.Laws.{over, byte_inside, put_here, put_out}
use Rattle.mmu.specs.Exception.{region_bit}
use Rattle.mmu.specs.declared.exception.Access.{Access}
use Rattle.privilege.specs.Access.{legal_size, allows_of, translating_of}
use Rattle.privilege.specs.Access.Laws.{check_refused, check_good, legal_answers, by_supervisor, by_regions_lem, by_pages}
use Rattle.privilege.specs.Addresses.{addresses}
use Rattle.mmu.specs.Vm.Laws.{flushed_is, invalidated_else, invalidated_entry}
use Rattle.privilege.specs.Meaning.{Registers, Meaning}
use Rattle.privilege.specs.Region.{grants_of, byte_allowed, all_allowed, field_of, with_field}
use Rattle.privilege.specs.Registers.{written, sr_read, sr_written, vm_ptbr}
use Rattle.privilege.specs.State.{bit_if, is_short, status_of, status_set, with_ie, with_vm}
use Rattle.privilege.specs.Trap.{bank_of, with_bank, trapped, returned, enters_user}
use Rattle.mmu.specs.declared.vm.Vm.{Vm}
use Rattle.privilege.specs.declared.check.AccessChecked.{AccessChecked}
use Rattle.privilege.specs.declared.region.Region.{Region}
use Rattle.privilege.specs.declared.state.InstructionMode.{InstructionMode}
use Rattle.privilege.specs.declared.state.SystemState.{SystemState}
use Rattle.privilege.specs.declared.trap.Returned.{Returned}
use Rattle.privilege.specs.declared.trap.Trapped.{Trapped}
use Rattle.privilege.proofs.Data.{looked_up, stolen, big_endian_lem, load_outside, store_outside, store_puts, debug_mode, debug_resident, view_index}
use Rattle.privilege.proofs.Listed.{unknown_read, unknown_written, known_read, known_written, user_read_lem, user_written_lem, region_read_lem, region_written_lem}

-- ---- STATUS

bit_if_lem : (on : Bool) (v i : ℕ) → bit_set (bit_if on v) i ≡ (on && bit_set v i)
bit_if_lem true v i = refl
bit_if_lem false v i = bit_of_zero i

-- a bit of the word is a bit of one of its five parts
status_bit : (s : SystemState) (i : ℕ)
    → bit_set (status_of s) i
    ≡ ((s.ie && bit_set 1 i) || (s.pie && bit_set 2 i) || (s.user && bit_set 4 i) || (s.pu && bit_set 8 i) || (is_short s.psm && bit_set 16 i))
unfolding status_of
status_bit s i = simp (bit_or_lem, bit_if_lem)

status_bits_lem : (s : SystemState)
    → (bit_set (status_of s) 0 ≡ s.ie)
    × (bit_set (status_of s) 1 ≡ s.pie)
    × (bit_set (status_of s) 2 ≡ s.user)
    × (bit_set (status_of s) 3 ≡ s.pu)
    × (bit_set (status_of s) 4 ≡ is_short s.psm)
unfolding bit_set
status_bits_lem s = (
  status_bit s 0 ∙ simp (and-true, and-false, or-false),
  status_bit s 1 ∙ simp (and-true, and-false, or-false),
  status_bit s 2 ∙ simp (and-true, and-false, or-false),
  status_bit s 3 ∙ simp (and-true, and-false, or-false),
  status_bit s 4 ∙ simp (and-true, and-false),
)

part_small : (on : Bool) (v : ℕ) → v < 32 → bit_if on v < 32
part_small true v h = h
part_small false v h = omega arith

status_small : (s : SystemState) → status_of s < 32
unfolding status_of
status_small s =
    or_lt 5 _ _
    (or_lt 5 _ _ (or_lt 5 _ _ (or_lt 5 _ _ (part_small s.ie 1 (lit< tt)) (part_small s.pie 2 (lit< tt))) (part_small s.user 4 (lit< tt))) (part_small s.pu 8 (lit< tt)))
    (part_small (is_short s.psm) 16 (lit< tt))

-- ---- R28 to R30

module _ (reg b : List ℕ) where
  -- the registers with one, two and three of the bank's put
  one : List ℕ
  one = set reg 28 (get_or b 0 0)

  two : List ℕ
  two = set one 29 (get_or b 1 0)

  banked : (i : ℕ) → Registers reg → i < 3 → get_or (with_bank reg b) (28 + i) 0 ≡ get_or b i 0
  unfolding one two
  banked zero n h =
      get_or-set_other two 30 28 (get_or b 2 0) 0 (λ e. omega arith)
      ∙ get_or-set_other one 29 28 (get_or b 1 0) 0 (λ e. omega arith)
      ∙ get_or-set_same reg 28 (get_or b 0 0) 0 (omega arith)
  banked (suc zero) n h =
      get_or-set_other two 30 29 (get_or b 2 0) 0 (λ e. omega arith)
      ∙ get_or-set_same one 29 (get_or b 1 0) 0 (omega (arith, length-set reg 28 (get_or b 0 0)))
  banked (suc (suc zero)) n h = get_or-set_same two 30 (get_or b 2 0) 0 (omega (arith, length-set reg 28 (get_or b 0 0), length-set one 29 (get_or b 1 0)))
  banked (suc (suc (suc i))) n h = absurd (omega arith)

  unbanked : (i : ℕ) → (i ≡ 28 → ⊥) → (i ≡ 29 → ⊥) → (i ≡ 30 → ⊥) → get_or (with_bank reg b) i 0 ≡ get_or reg i 0
  unfolding one two
  unbanked i h g f = get_or-set_other two 30 i (get_or b 2 0) 0 f ∙ get_or-set_other one 29 i (get_or b 1 0) 0 g ∙ get_or-set_other reg 28 i (get_or b 0 0) 0 h

-- ---- traps

module _ (s : SystemState) (reg : List ℕ) (epc cause : ℕ) (mode : InstructionMode) where
  trap_stores : ((trapped s reg epc cause mode).sys.epc ≡ epc) × ((trapped s reg epc cause mode).sys.cause ≡ cause) × ((trapped s reg epc cause mode).sys.psm ≡ mode)
  unfolding trapped
  trap_stores =
      cond_holds (λ (t : Trapped). (t.sys.epc ≡ epc) × (t.sys.cause ≡ cause) × (t.sys.psm ≡ mode)) s.user (refl, refl, refl) (refl, refl, refl)

  trap_copies : ((trapped s reg epc cause mode).sys.pie ≡ s.ie)
      × ((trapped s reg epc cause mode).sys.pu ≡ s.user)
      × ((trapped s reg epc cause mode).sys.ie ≡ false)
      × ((trapped s reg epc cause mode).sys.user ≡ false)
  unfolding trapped
  trap_copies =
      cond_holds (λ (t : Trapped). (t.sys.pie ≡ s.ie) × (t.sys.pu ≡ s.user) × (t.sys.ie ≡ false) × (t.sys.user ≡ false)) s.user
      (refl, refl, refl, refl) (refl, refl, refl, refl)

  trap_else : ((trapped s reg epc cause mode).sys.regions ≡ s.regions) × ((trapped s reg epc cause mode).sys.vm ≡ s.vm)
  unfolding trapped
  trap_else = cond_holds (λ (t : Trapped). (t.sys.regions ≡ s.regions) × (t.sys.vm ≡ s.vm)) s.user (refl, refl) (refl, refl)

  trap_exchanges : s.user ≡ true → ((trapped s reg epc cause mode).reg ≡ with_bank reg s.other_bank) × ((trapped s reg epc cause mode).sys.other_bank ≡ bank_of reg)
  unfolding trapped
  trap_exchanges h = rw h (refl, refl)

  trap_keeps : s.user ≡ false → ((trapped s reg epc cause mode).reg ≡ reg) × ((trapped s reg epc cause mode).sys.other_bank ≡ s.other_bank)
  unfolding trapped
  trap_keeps h = rw h (refl, refl)

module _ (s : SystemState) (reg : List ℕ) where
  iret_answers : ((returned s reg).sys.ie ≡ s.pie) × ((returned s reg).epc ≡ s.epc) × ((returned s reg).mode ≡ s.psm)
  unfolding returned
  iret_answers =
      cond_holds (λ (t : Returned). (t.sys.ie ≡ s.pie) × (t.epc ≡ s.epc) × (t.mode ≡ s.psm)) (enters_user s) (refl, refl, refl) (refl, refl, refl)

  iret_enters : s.pu ≡ true → s.user ≡ false
      → ((returned s reg).sys.user ≡ true) × ((returned s reg).reg ≡ with_bank reg s.other_bank) × ((returned s reg).sys.other_bank ≡ bank_of reg)
  unfolding returned
  iret_enters h g = rw (h, g) (refl, refl, refl)

  iret_stays : enters_user s ≡ false → returned s reg ≡ record { sys = with_ie s s.pie; reg = reg; epc = s.epc; mode = s.psm }
  unfolding returned
  iret_stays h = rw h

  iret_else :
      ((returned s reg).sys.pie ≡ s.pie)
      × ((returned s reg).sys.pu ≡ s.pu)
      × ((returned s reg).sys.psm ≡ s.psm)
      × ((returned s reg).sys.epc ≡ s.epc)
      × ((returned s reg).sys.cause ≡ s.cause)
      × ((returned s reg).sys.regions ≡ s.regions)
      × ((returned s reg).sys.vm ≡ s.vm)
  unfolding returned
  iret_else =
      cond_holds
      (λ (t : Returned).
      (t.sys.pie ≡ s.pie) × (t.sys.pu ≡ s.pu) × (t.sys.psm ≡ s.psm) × (t.sys.epc ≡ s.epc) × (t.sys.cause ≡ s.cause) × (t.sys.regions ≡ s.regions) × (t.sys.vm ≡ s.vm))
      (enters_user s) (refl, refl, refl, refl, refl, refl, refl) (refl, refl, refl, refl, refl, refl, refl)

-- ---- regions

module _ (g : Region) (a : ℕ) (k : Access) where
  granted : eqb (g.flags / region_bit k % 2) 1 ≡ true → g.start ≤ a → a < g.end → grants_of g a k ≡ true
  unfolding grants_of
  granted f h l = rw (f, le-leb g.start a h, lt-ltb a g.end l)

  not_granted : eqb (g.flags / region_bit k % 2) 1 ≡ false → grants_of g a k ≡ false
  unfolding grants_of
  not_granted f = rw f

  before_start : a < g.start → grants_of g a k ≡ false
  unfolding grants_of
  before_start h = rw (lt-leb g.start a h, and-false)

  at_end : g.end ≤ a → grants_of g a k ≡ false
  unfolding grants_of
  at_end h = rw (le-ltb a g.end h, and-false)

-- the next byte's address, counted from the first
step_mod : (a i : ℕ) → ((a + 1) % 2 ^ 32 + i) % 2 ^ 32 ≡ (a + suc i) % 2 ^ 32
step_mod a i = omega arith

module _ (l : List Region) (k : Access) where
  each_byte : (n a i : ℕ) → a < 2 ^ 32 → all_allowed l k (addresses n a) ≡ true → i < n → byte_allowed l k ((a + i) % 2 ^ 32) ≡ true
  unfolding all_allowed addresses
  each_byte zero a i h p q = absurd (omega arith)
  each_byte (suc n) a zero h p q =
      let e : (a + 0) % 2 ^ 32 ≡ a = omega arith in
      rw e (and_left (byte_allowed l k a) (all_allowed l k (addresses n ((a + 1) % 2 ^ 32))) p)
  each_byte (suc n) a (suc i) h p q =
      rw (step_mod a i) at
      (each_byte n ((a + 1) % 2 ^ 32) i (omega arith) (and_right (byte_allowed l k a) (all_allowed l k (addresses n ((a + 1) % 2 ^ 32))) p) (omega arith))

  all_bytes : (n a : ℕ) → a < 2 ^ 32 → ((i : ℕ) → i < n → byte_allowed l k ((a + i) % 2 ^ 32) ≡ true) → all_allowed l k (addresses n a) ≡ true
  unfolding all_allowed addresses
  all_bytes zero a h p = refl
  all_bytes (suc n) a h p =
      let e : (a + 0) % 2 ^ 32 ≡ a = omega arith in
      let first = rw e at (p 0 (omega arith)) in
      let rest = all_bytes n ((a + 1) % 2 ^ 32) (omega arith) (λ i q. rw (step_mod a i) (p (suc i) (omega arith))) in
      rw (first, rest)

module _ (s : SystemState) (a n : ℕ) (k : Access) where
  user_allowed : s.user ≡ true → allows_of s a n k ≡ all_allowed s.regions k (addresses n a)
  unfolding allows_of
  user_allowed h = rw h

  allowed_all : all_allowed s.regions k (addresses n a) ≡ true → allows_of s a n k ≡ true
  unfolding allows_of
  allowed_all h = rw (h, or-true)

  is_off : s.vm.enabled ≡ false → translating_of s ≡ false
  unfolding translating_of
  is_off h = rw (h, and-false)

  is_on : s.user ≡ true → s.vm.enabled ≡ true → translating_of s ≡ true
  unfolding translating_of
  is_on h g = rw (h, g)

opened : (m : Memory) (k : Access) (n : ℕ) → map_good m ≡ true → legal_size k n ≡ true → access_gate m (legal_size k n) ≡ Ok tt
opened m k n h g = size_open m (legal_size k n) (map_open m h) g

pub meaning_holds : Meaning
unfolding status_set sr_read sr_written field_of with_field
meaning_holds =
    record {
      status_bits_lem = status_bits_lem;
      status_small = status_small;
      status_written = λ s v. refl;
      status_user = λ s v reg. refl;
      trap_stores = trap_stores;
      trap_copies = trap_copies;
      trap_exchanges = trap_exchanges;
      trap_keeps = trap_keeps;
      trap_else = trap_else;
      iret_answers = iret_answers;
      iret_enters = iret_enters;
      iret_stays = iret_stays;
      iret_else = iret_else;
      banked = banked;
      unbanked = unbanked;
      unknown_read = unknown_read;
      unknown_written = λ s sr v reg. unknown_written s sr reg v;
      known_read = known_read;
      known_written = λ s sr v reg. known_written s sr reg v;
      trap_registers = λ s reg. (refl, refl, refl);
      trap_registers_written = λ s v reg. (refl, refl, refl);
      user_read_lem = user_read_lem;
      user_written_lem = user_written_lem;
      region_read_lem = region_read_lem;
      region_written_lem = λ s reg n f v hn hf. region_written_lem s reg n f hn hf v;
      fields = λ g. (refl, refl, refl);
      fields_written = λ g v. (refl, refl, refl);
      vm_registers = λ s reg. (refl, refl, refl, refl, refl);
      vctl = λ s v reg. refl;
      ptbr = λ s v reg. ap (λ (vm : Vm). written (with_vm s vm) reg) (flushed_is (vm_ptbr s.vm (v / 4096 * 4096)));
      tlbflush = λ s v reg. ap (λ (vm : Vm). written (with_vm s vm) reg) (flushed_is s.vm);
      tlbinv = λ s v i reg. invalidated_entry s.vm v i;
      tlbinv_else = λ s v reg. ap (λ (vm : Vm). written (with_vm s vm) reg) (invalidated_else s.vm v);
      granted = granted;
      not_granted = not_granted;
      before_start = before_start;
      at_end = at_end;
      reserved = λ l k a h. rw (le-ltb a 0xFFFF_0000 h);
      each_byte = λ s a n i k h u p q. each_byte s.regions k n a i h (sym (user_allowed s a n k u) ∙ p) q;
      all_bytes = λ s a n k h p. allowed_all s a n k (all_bytes s.regions k n a h p);
      check_map = λ m s a n k h. check_refused m s a n k Map (size_kept m (legal_size k n) Map (map_shut m h));
      check_size = λ m s a n k h g. check_refused m s a n k Size (size_shut m (legal_size k n) (map_open m h) g);
      check_answers = λ m s a n k r h g e. legal_answers m s a n k r (sym (ap (λ (c : AccessChecked). c.permission) (check_good m s a n k (opened m k n h g))) ∙ e);
      check_supervisor = λ m s a n k h g u. check_good m s a n k (opened m k n h g) ∙ by_supervisor m s a n k u;
      check_regions = λ m s a n k h g u t. check_good m s a n k (opened m k n h g) ∙ by_regions_lem m s a n k (is_off s a n k t);
      check_pages = λ m s a n k h g u t. check_good m s a n k (opened m k n h g) ∙ by_pages m s a n k (is_on s a n k u t);
      looked_up = looked_up;
      stolen = stolen;
      big_endian_lem = big_endian_lem;
      load_outside = λ m n l i good size h e. load_outside m n good size l i h e;
      store_outside = λ m n l good size h. store_outside m n good size l h;
      store_puts = λ m n l v good size. store_puts m n good size l v;
      inside_put = λ m a b h. put_here m a b ∙ ap (over b) (byte_inside m a h);
      outside_kept = put_out;
      debug_mode = debug_mode;
      debug_resident = debug_resident;
      view_index = view_index;
    }
