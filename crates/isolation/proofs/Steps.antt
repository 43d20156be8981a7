-- One access of two runs. Assumes nothing.
use Rattle.std.proofs.Common.{◌≡◌, ℕ, Bool, true, false, ◌≢◌, List, Some, None, Ok, Err, Option, Result, sym, refl, ap, ◌∙◌}
use Rattle.common.specs.Cases.{absurd_eq}
use Rattle.common.specs.Lists.{Each, each_map}
use Rattle.common.specs.declared.Refusal.{Refusal}
use Rattle.memory.specs.Memory.{Memory, byte_at}
use Rattle.memory.specs.Memory.Laws.{SameMap, outside_same}
use Rattle.privilege.specs.declared.check.AccessError.TheVariants.{Denied, Refused}
use Rattle.privilege.specs.declared.check.AccessError.{AccessError}
use Rattle.privilege.specs.declared.transfer.DataError.{DataError}
use Rattle.mmu.specs.Opened.{TableByte, Opened, opened}
use Rattle.mmu.specs.Opened.Laws.{TablesAgree, Refilled, refilled_ptbr, refilled_slots, refilled_enabled, refilled_usable, table_same, usable_same}
use Rattle.mmu.specs.declared.exception.Access.{Access}
use Rattle.mmu.specs.declared.exception.Access.TheVariants.{Read, Write, Fetch}
use Rattle.mmu.specs.declared.exception.Exception.{Exception}
use Rattle.mmu.specs.declared.vm.Vm.{Vm}
use Rattle.privilege.specs.Access.{check_access}
use Rattle.privilege.specs.Confined.{Running, Refills, tables_check, check_refills, page_open}
use Rattle.privilege.specs.Transfer.{spots, memory_after}
use Rattle.privilege.specs.Transfer.Laws.{load_same, store_same, store_map, store_both, store_other}
use Rattle.privilege.specs.declared.check.AccessChecked.{AccessChecked}
use Rattle.privilege.specs.declared.state.SystemState.{SystemState}
use Rattle.machine.specs.Access.{Effect, is_read, access_answer, asked, read_outcome, write_outcome, access_of}
use Rattle.machine.specs.Access.Laws.{access_refused, access_denied, access_read, access_written}
use Rattle.machine.specs.State.{with_sys, with_cache}
use Rattle.machine.specs.declared.access.Accessed.{Accessed}
use Rattle.machine.specs.declared.state.Machine.{Machine}
use Rattle.isolation.specs.Premises.{Op, InPage, InUserMode, Sixteen, Alike, Sealed}
use Rattle.isolation.specs.Demand3.{result_of, answer_of, Keeps}

-- what one access of two runs leaves, and that the next one may follow
pub record Held (hidden : ℕ → Bool) (vm : Vm) (m m' : Memory) (r r' : Effect) : Type 0 where
  pub answer : answer_of r ≡ answer_of r'
  pub machine : r.accessed.machine ≡ r'.accessed.machine
  pub alike : Alike hidden r.memory r'.memory
  pub closed : Sealed hidden r.memory r.accessed.machine.sys.vm
  pub user : InUserMode r.accessed.machine
  pub slots : Sixteen r.accessed.machine
  pub own : Keeps hidden m r.memory
  pub own' : Keeps hidden m' r'.memory
  -- nothing is newly open, and a byte that is not open for writing stays
  pub opens : (k : Access) (a : ℕ) → Opened r.memory r.accessed.machine.sys.vm k a → Opened m vm k a
  pub writes : (a : ℕ) → ¬ Opened m vm Write a → byte_at r.memory a ≡ byte_at m a

not_hidden : (t : Bool) → ¬ (t ≡ true) → t ≡ false
not_hidden true n = absurd (n refl)
not_hidden false n = refl

flip : {m m' : Memory} → SameMap m m' → SameMap m' m
flip same = record { base = sym same.base; size = sym same.size }

-- what is open after fills from leaves, with the tables' bytes as they were, was open before
back_open : (m m₂ : Memory) (vm vm₂ : Vm) → Refilled m vm vm₂ → TablesAgree m m₂ vm.ptbr → (k : Access) (a : ℕ) → Opened m₂ vm₂ k a → Opened m vm k a
back_open m m₂ vm vm₂ r same k a (opened e u v g f) = opened e (refilled_usable r e (usable_same m m₂ vm₂ (rw (refilled_ptbr r) same) e u)) v g f

-- and so a sealed state stays sealed
sealed_on : (hidden : ℕ → Bool) (m m₂ : Memory) (vm vm₂ : Vm) → Sealed hidden m vm → Refilled m vm vm₂ → TablesAgree m m₂ vm.ptbr → Sealed hidden m₂ vm₂
sealed_on hidden m m₂ vm vm₂ here r same =
    record {
      tables = λ a g t. here.tables a g (back a t);
      pages = λ a g k o. here.pages a g k (back_open m m₂ vm vm₂ r same _ a o);
      unwritable = λ a i t o. here.unwritable a (λ z. i (sym (same a (back a t)) ∙ z)) (back a t) (back_open m m₂ vm vm₂ r same _ a o);
    }
  where
    back : (a : ℕ) → TableByte m₂ vm₂.ptbr a → TableByte m vm.ptbr a
    back a t = table_same m m₂ vm.ptbr same a (rw (refilled_ptbr r) at t)

-- user mode and sixteen slots stay
stays_user : (m : Memory) (s t : SystemState) → Running s → Refills m s t → Running t
stays_user m s t run k =
    record {
      user = ap (λ (x : SystemState). x.user) k.rest ∙ run.user;
      enabled = refilled_enabled k.refilled ∙ run.enabled;
    }

module _ (hidden : ℕ → Bool) (M : Machine) (m m' : Memory) (run : InUserMode M) (slots : Sixteen M) (alike : Alike hidden m m') (here : Sealed hidden m M.sys.vm) where
  agree : TablesAgree m m' M.sys.vm.ptbr
  agree a t = alike.bytes a (not_hidden (hidden a) (λ h. here.tables a h t))

  module _ (o : Op) (al : InPage o) where
    abbrev c : AccessChecked
    c = check_access m M.sys o.addr o.size o.kind

    c_same : c ≡ check_access m' M.sys o.addr o.size o.kind
    c_same = tables_check m m' M.sys o.addr o.size o.kind al.0 alike.map agree

    c_keeps : Refills m M.sys c.sys
    c_keeps = check_refills m M.sys o.addr o.size o.kind al.0

    -- what all ways after the check share: the machine has the check's state, and the memories are left as m₂ and m₂'
    held_after : (x x' : Accessed) (m₂ m₂' : Memory) → x ≡ x' → x.machine.sys ≡ c.sys → Alike hidden m₂ m₂' → TablesAgree m m₂ M.sys.vm.ptbr
        → Keeps hidden m m₂ → Keeps hidden m' m₂' → ((a : ℕ) → ¬ Opened m M.sys.vm Write a → byte_at m₂ a ≡ byte_at m a)
        → Held hidden M.sys.vm m m' (record { accessed = x; memory = m₂ }) (record { accessed = x'; memory = m₂' })
    held_after x x' m₂ m₂' same e like tables own own' stays =
        record {
          answer = ap (λ (y : Accessed). answer_of (record { accessed = y; memory = m₂ })) same;
          machine = ap (λ (y : Accessed). y.machine) same;
          alike = like;
          closed = rw e (sealed_on hidden m m₂ M.sys.vm c.sys.vm here c_keeps.refilled tables);
          user = rw e (stays_user m M.sys c.sys run c_keeps);
          slots = rw e (refilled_slots c_keeps.refilled ∙ slots);
          own = own;
          own' = own';
          opens = rw e (back_open m m₂ M.sys.vm c.sys.vm c_keeps.refilled tables);
          writes = stays;
        }

    -- refused: nothing has moved
    held_refused : (r : Refusal) → c.permission ≡ Err (Refused r) → Held hidden M.sys.vm m m' (result_of o M m) (result_of o M m')
    held_refused r p =
        rw (access_refused o.kind M m o.addr o.size o.value c refl r p, access_refused o.kind M m' o.addr o.size o.value c c_same r p)
        (record {
          answer = refl;
          machine = refl;
          alike = alike;
          closed = here;
          user = run;
          slots = slots;
          own = λ a h. refl;
          own' = λ a h. refl;
          opens = λ k a w. w;
          writes = λ a n. refl;
        })

    -- denied: the TLB may have been refilled
    held_denied : (e : Exception) → c.permission ≡ Err (Denied e) → Held hidden M.sys.vm m m' (result_of o M m) (result_of o M m')
    held_denied e p =
        rw (access_denied o.kind M m o.addr o.size o.value c refl e p, access_denied o.kind M m' o.addr o.size o.value c c_same e p)
        (held_after _ _ m m' refl refl alike (λ a t. refl) (λ a h. refl) (λ a h. refl) (λ a n. refl))

    -- the addresses of an allowed access
    abbrev at : List ℕ
    at = spots c.sys o.addr o.size

    module _ (p : c.permission ≡ Ok tt) where
      open_at : Each (λ b. Opened m M.sys.vm o.kind b) at
      open_at = page_open m M.sys o.addr o.size o.kind run slots al.0 al.1 p

      seen_alike : Each (λ b. byte_at m b ≡ byte_at m' b) at
      seen_alike =
          each_map (λ b. Opened m M.sys.vm o.kind b) (λ b. byte_at m b ≡ byte_at m' b)
          (λ b w. alike.bytes b (not_hidden (hidden b) (λ h. here.pages b h o.kind w))) at open_at

      held_read : is_read o.kind ≡ true → Held hidden M.sys.vm m m' (result_of o M m) (result_of o M m')
      held_read k =
          let M₂ = with_sys M c.sys in
          let ask = asked o.kind M₂ at in
          rw (access_read o.kind M m o.addr o.size o.value c refl k p, access_read o.kind M m' o.addr o.size o.value c c_same k p)
          (held_after _ _ m m'
          (ap (λ (d : Result ℕ DataError). access_answer (with_cache M₂ ask.cache) (read_outcome d) ask.stall c.reads) (load_same m m' o.size at alike.map seen_alike))
          refl alike (λ a t. refl) (λ a h. refl) (λ a h. refl) (λ a n. refl))

      -- a byte that is not open to this access is at none of its addresses
      apart : (b : ℕ) → ¬ Opened m M.sys.vm o.kind b → Each (λ x. b ≢ x) at
      apart b shut = each_map (λ x. Opened m M.sys.vm o.kind x) (λ x. b ≢ x) (λ x w e. shut (rw e w)) at open_at

-- ---- a store

module _ (hidden : ℕ → Bool) (M : Machine) (m m' : Memory) (run : InUserMode M) (slots : Sixteen M) (alike : Alike hidden m m') (here : Sealed hidden m M.sys.vm)
    (a n v : ℕ) (al : InPage (record { kind = Write; addr = a; size = n; value = v })) (p : (check_access m M.sys a n Write).permission ≡ Ok tt) where
  abbrev store : Op
  store = record { kind = Write; addr = a; size = n; value = v }

  abbrev s : SystemState
  s = (check_access m M.sys a n Write).sys

  away : (b : ℕ) → ¬ Opened m M.sys.vm Write b → Each (λ x. b ≢ x) (spots s a n)
  away b shut = apart hidden M m m' run slots alike here store al p b shut

  -- a byte of the tables stays: it is outside the map, or not open for writing
  tables_stay : TablesAgree m (memory_after m s a n v) M.sys.vm.ptbr
  tables_stay b t = by_content (byte_at m b) refl
    where
      by_content : (x : Option ℕ) → byte_at m b ≡ x → byte_at m b ≡ byte_at (memory_after m s a n v) b
      by_content None e = e ∙ sym (outside_same m (memory_after m s a n v) (flip (store_map m n (spots s a n) v)) b e)
      by_content (Some y) e =
          sym (store_other m n (spots s a n) v b (away b (here.unwritable b (λ z. absurd_eq (let q : Some y ≡ None = sym e ∙ z in cc)) t)))

  -- hidden bytes stay, in either memory
  hidden_stays : (x : Memory) → Keeps hidden x (memory_after x s a n v)
  hidden_stays x b h = store_other x n (spots s a n) v b (away b (λ w. here.pages b h Write w))

  still_alike : Alike hidden (memory_after m s a n v) (memory_after m' s a n v)
  still_alike =
      record {
        map =
            record {
              base = (store_map m n (spots s a n) v).base ∙ alike.map.base ∙ sym (store_map m' n (spots s a n) v).base;
              size = (store_map m n (spots s a n) v).size ∙ alike.map.size ∙ sym (store_map m' n (spots s a n) v).size;
            };
        bytes = λ b h. store_both m m' n (spots s a n) v b alike.map (alike.bytes b h);
      }

  pub held_written : Held hidden M.sys.vm m m' (result_of store M m) (result_of store M m')
  held_written =
      let k = check_access m M.sys a n Write in
      let M₂ = with_sys M s in
      let ask = asked Write M₂ (spots s a n) in
      rw (access_written M m a n v k refl p, access_written M m' a n v k (c_same hidden M m m' run slots alike here store al) p)
      (held_after hidden M m m' run slots alike here store al _ _ (memory_after m s a n v) (memory_after m' s a n v)
      (ap (λ (d : Result (Unit {0}) DataError). access_answer (with_cache M₂ ask.cache) (write_outcome d) ask.stall k.reads) (store_same m m' n (spots s a n) alike.map))
      refl still_alike tables_stay (hidden_stays m) (hidden_stays m') (λ b shut. store_other m n (spots s a n) v b (away b shut)))

-- ---- any access

allowed_held : (hidden : ℕ → Bool) (M : Machine) (m m' : Memory) → InUserMode M → Sixteen M → Alike hidden m m' → Sealed hidden m M.sys.vm → (k : Access) (a n v : ℕ)
    → InPage (record { kind = k; addr = a; size = n; value = v }) → (check_access m M.sys a n k).permission ≡ Ok tt
    → Held hidden M.sys.vm m m' (access_of k M m a n v) (access_of k M m' a n v)
allowed_held hidden M m m' run slots alike here Read a n v al p = held_read hidden M m m' run slots alike here (record { kind = Read; addr = a; size = n; value = v }) al p refl
allowed_held hidden M m m' run slots alike here Fetch a n v al p = held_read hidden M m m' run slots alike here (record { kind = Fetch; addr = a; size = n; value = v }) al p refl
allowed_held hidden M m m' run slots alike here Write a n v al p = held_written hidden M m m' run slots alike here a n v al p

pub held : (hidden : ℕ → Bool) (M : Machine) (m m' : Memory) → InUserMode M → Sixteen M → Alike hidden m m' → Sealed hidden m M.sys.vm → (o : Op) → InPage o
    → Held hidden M.sys.vm m m' (result_of o M m) (result_of o M m')
held hidden M m m' run slots alike here o al = by_permission (check_access m M.sys o.addr o.size o.kind).permission refl
  where
    by_permission : (q : Result (Unit {0}) AccessError) → (check_access m M.sys o.addr o.size o.kind).permission ≡ q → Held hidden M.sys.vm m m' (result_of o M m) (result_of o M m')
    by_permission (Ok tt) p = allowed_held hidden M m m' run slots alike here o.kind o.addr o.size o.value al p
    by_permission (Err (Denied e)) p = held_denied hidden M m m' run slots alike here o al e p
    by_permission (Err (Refused r)) p = held_refused hidden M m m' run slots alike here o al r p
