-- The laws of data access that others use. Assumes nothing.
--
--   spots_none, spots_next        == an access's addresses, one by one
--   spots_length                  == there are as many as the access has bytes
--   physical_off, physical_on     == an address that is not translated, and one that is
--   frame_same                    == the frame depends on the page alone
--   physical_next, word_spots_lem == inside a page the next byte has the next address, so a word needs one lookup
--   load_number, store_number     == a load or store is refused with 2 or 1 alone
--   load_same                     == equal maps and equal bytes at the addresses give equal loads
--   store_same                    == equal maps give a store equal answers
--   store_map                     == a store leaves the map
--   store_both, store_other       == a byte after a store: equal ones stay equal, and one that is at none of the addresses stays
use Rattle.std.specs.Prelude.{◌≡◌, ℕ, zero, suc, ◌+◌, ◌/◌, ◌%◌, ◌^◌, ◌<◌, ◌≤◌, Bool, true, false, cond, ◌≢◌, List, [], ◌∷◌, length, Option, Some, None, Result, Ok, Err}
use Rattle.std.proofs.Math.Path.{refl}
use Rattle.std.proofs.Common.{ap, ◌∙◌, arith}
use Rattle.common.specs.Bytes.{bytes_of}
use Rattle.common.specs.Cases.{absurd_eq, cond_holds}
use Rattle.common.specs.Refusal.{refusal_number}
use Rattle.common.specs.declared.Refusal.{Refusal}
use Rattle.memory.specs.Gate.{Gate, gated, access_gate}
use Rattle.memory.specs.Gate.Laws.{gated_holds, gated_case, access_same, shut_number}
use Rattle.common.specs.Lists.{Each}
use Rattle.memory.specs.Memory.{Memory, byte_at, read_at, word_spots, all_writable, put_at}
use Rattle.memory.specs.Memory.Laws.{SameMap, same_map, read_same, all_writable_same, write_map, write_both, write_other}
use Rattle.privilege.specs.declared.transfer.DataError.TheVariants.{Refused}
use Rattle.privilege.specs.declared.transfer.DataError.{DataError}
use Rattle.mmu.specs.Vm.{frame_of}
use Rattle.mmu.specs.declared.vm.Vm.{Vm}
use Rattle.privilege.specs.Access.{data_size, translating_of}
use Rattle.privilege.specs.Addresses.{addresses}
use Rattle.privilege.specs.Transfer.{joined_to, physical_of, spots, read_of, load_at, store_at, memory_at}
use Rattle.privilege.specs.declared.state.SystemState.{SystemState}

module _ (s : SystemState) (va : ℕ) where
  pub spots_none : spots s va 0 ≡ []
  unfolding spots addresses
  spots_none = refl

  pub spots_next : (n : ℕ) → spots s va (suc n) ≡ physical_of s va ∷ spots s ((va + 1) % 2 ^ 32) n
  unfolding spots addresses
  spots_next n = refl

pub spots_length : (s : SystemState) (n va : ℕ) → length (spots s va n) ≡ n
spots_length s zero va = ap length (spots_none s va)
spots_length s (suc n) va = ap length (spots_next s va n) ∙ ap suc (spots_length s n ((va + 1) % 2 ^ 32))

pub physical_off : (s : SystemState) (va : ℕ) → translating_of s ≡ false → physical_of s va ≡ va
unfolding physical_of
physical_off s va h = rw h

pub physical_on : (s : SystemState) (va : ℕ) → translating_of s ≡ true → physical_of s va ≡ joined_to (frame_of s.vm va) va
unfolding physical_of
physical_on s va h = rw h

pub frame_same : (vm : Vm) (a b : ℕ) → a / 4096 ≡ b / 4096 → frame_of vm a ≡ frame_of vm b
unfolding frame_of
frame_same vm a b e = rw e

pub physical_next : (s : SystemState) (va : ℕ) → va < 2 ^ 32 → va % 4096 < 4095 → physical_of s ((va + 1) % 2 ^ 32) ≡ physical_of s va + 1
unfolding physical_of
physical_next s va h g =
    let e : (va + 1) % 2 ^ 32 ≡ va + 1 = omega arith in
    rw e (by_mode (translating_of s) (frame_same s.vm (va + 1) va (omega arith)) (omega arith))
  where
    by_mode : (t : Bool) → frame_of s.vm (va + 1) ≡ frame_of s.vm va → (va + 1) % 4096 ≡ va % 4096 + 1
        → cond t (joined_to (frame_of s.vm (va + 1)) (va + 1)) (va + 1) ≡ cond t (joined_to (frame_of s.vm va) va) va + 1
    by_mode true p q = rw (p, q) (omega arith)
    by_mode false p q = refl

pub word_spots_lem : (s : SystemState) (va : ℕ) → va < 2 ^ 32 → va % 4096 ≤ 4092 → spots s va 4 ≡ word_spots (physical_of s va)
word_spots_lem s va h g =
    let a1 : (va + 1) % 2 ^ 32 ≡ va + 1 = omega arith in
    let a2 : (va + 1 + 1) % 2 ^ 32 ≡ va + 2 = omega arith in
    let a3 : (va + 2 + 1) % 2 ^ 32 ≡ va + 3 = omega arith in
    let p1 : physical_of s (va + 1) ≡ physical_of s va + 1 = rw a1 at (physical_next s va h (omega arith)) in
    let p2 : physical_of s (va + 2) ≡ physical_of s (va + 1) + 1 = rw a2 at (physical_next s (va + 1) (omega arith) (omega arith)) in
    let p3 : physical_of s (va + 3) ≡ physical_of s (va + 2) + 1 = rw a3 at (physical_next s (va + 2) (omega arith) (omega arith)) in
    let q2 : physical_of s (va + 2) ≡ physical_of s va + 2 = omega arith in
    let q3 : physical_of s (va + 3) ≡ physical_of s va + 3 = omega arith in
    rw (spots_next s va 3, a1, spots_next s (va + 1) 2, a2, spots_next s (va + 2) 1, a3, spots_next s (va + 3) 0, spots_none, p1, q2, q3)

-- ---- what loads and stores are refused with

module _ (m : Memory) (n : ℕ) (l : List ℕ) (r : Refusal) where
  not_refused : (c : Option ℕ) → read_of c ≢ Err (Refused r)
  not_refused (Some v) e = absurd_eq (cc)
  not_refused None e = absurd_eq (cc)

  pub load_number : load_at m n l ≡ Err (Refused r) → refusal_number r < 3
  unfolding load_at
  load_number =
      gated_case (λ (d : Result ℕ DataError). d ≡ Err (Refused r) → refusal_number r < 3) (access_gate m (data_size n))
      (λ g e. absurd (not_refused (read_at m l) e)) (λ q g e. let is : q ≡ r = cc in rw is at (shut_number m (data_size n) q g))

  pub store_number : store_at m n l ≡ Err (Refused r) → refusal_number r < 3
  unfolding store_at
  store_number =
      gated_case (λ (d : Result (Unit {0}) DataError). d ≡ Err (Refused r) → refusal_number r < 3) (access_gate m (data_size n))
      (λ g. cond_holds (λ (d : Result (Unit {0}) DataError). d ≡ Err (Refused r) → refusal_number r < 3) (all_writable m l) (λ e. absurd_eq (cc)) (λ e. absurd_eq (cc)))
      (λ q g e. let is : q ≡ r = cc in rw is at (shut_number m (data_size n) q g))

-- ---- what loads and stores depend on, and what they leave: for any addresses l

module _ (m m' : Memory) (n : ℕ) (l : List ℕ) (e : SameMap m m') where
  pub load_same : Each (λ a. byte_at m a ≡ byte_at m' a) l → load_at m n l ≡ load_at m' n l
  unfolding load_at
  load_same h = rw (access_same m m' e (data_size n), read_same m m' l h)

  pub store_same : store_at m n l ≡ store_at m' n l
  unfolding store_at
  store_same = rw (access_same m m' e (data_size n), all_writable_same m m' e l)

-- what holds of the written memory, and of the memory as it was, holds of the memory after a store
after : (P : Memory → Type 0) (m : Memory) (n : ℕ) (l : List ℕ) (v : ℕ) → P (put_at m l (bytes_of n v)) → P m → P (memory_at m n l v)
unfolding memory_at
after P m n l v p q = gated_holds P (access_gate m (data_size n)) p (λ r. q)

pub store_map : (m : Memory) (n : ℕ) (l : List ℕ) (v : ℕ) → SameMap (memory_at m n l v) m
store_map m n l v = after (λ (x : Memory). SameMap x m) m n l v (write_map m l (bytes_of n v)) (same_map m)

pub store_other : (m : Memory) (n : ℕ) (l : List ℕ) (v b : ℕ) → Each (λ a. b ≢ a) l → byte_at (memory_at m n l v) b ≡ byte_at m b
store_other m n l v b h = after (λ (x : Memory). byte_at x b ≡ byte_at m b) m n l v (write_other m l (bytes_of n v) b h) refl

pub store_both : (m m' : Memory) (n : ℕ) (l : List ℕ) (v b : ℕ) → SameMap m m' → byte_at m b ≡ byte_at m' b → byte_at (memory_at m n l v) b ≡ byte_at (memory_at m' n l v) b
unfolding memory_at
store_both m m' n l v b e h = rw (access_same m m' e (data_size n)) (by_gate (access_gate m' (data_size n)))
  where
    by_gate : (g : Gate) → byte_at (gated g (put_at m l (bytes_of n v)) (λ (r : Refusal). m)) b ≡ byte_at (gated g (put_at m' l (bytes_of n v)) (λ (r : Refusal). m')) b
    by_gate (Ok tt) = write_both m m' l (bytes_of n v) b h
    by_gate (Err r) = h
