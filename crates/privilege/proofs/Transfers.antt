-- The ways through data access. Assumes nothing.
use Rattle.std.proofs.Common.{◌≡◌, ℕ, zero, suc, ◌+◌, ◌*◌, ◌/◌, ◌%◌, ◌^◌, ◌<◌, ◌≤◌, Bool, true, false, cond, List, ◌∷◌, sym, refl, ap, ◌∙◌, pow-suc, add-one, arith, Option, Result, Ok, Err, ok_or, bit_and, bit_or}
use Rattle.std.specs.Bool.{then_some}
use Rattle.std.proofs.Math.Decide.{ℕ_discrete}
use Rattle.std.proofs.lemmas.Nat.{and_mask, or_shifted}
use Rattle.common.specs.Bytes.{bytes_of}
use Rattle.common.specs.Cases.{absurd_eq}
use Rattle.common.specs.declared.Refusal.{Refusal}
use Rattle.memory.specs.Gate.{Gate, map_good, access_gate}
use Rattle.memory.specs.Gate.Laws.{access_open}
use Rattle.memory.specs.Memory.{Memory, lent, read_at, word_spots, put_at, all_writable}
use Rattle.privilege.specs.declared.transfer.DataError.TheVariants.{BusError, Refused}
use Rattle.privilege.specs.declared.transfer.DataError.{DataError}
use Rattle.mmu.specs.Vm.{frame_of}
use Rattle.privilege.specs.Access.{data_size, translating_of}
use Rattle.privilege.specs.Transfer.{joined_to, physical_of, spots, read_of, load_at, store_at, memory_at}
use Rattle.privilege.specs.Transfer.Laws.{word_spots_lem}
use Rattle.privilege.specs.declared.state.SystemState.{SystemState}
use Rattle.privilege.proofs.Checks.{size_none}

-- a physical page and the place in it: `(ppn << 12) | (va & 4095)`
pub joined_is : (p v : ℕ) → bit_or (p * 4096 % 2 ^ 32) (bit_and v 4095) ≡ joined_to p v
joined_is p v =
    let m : bit_and v 4095 ≡ v % 4096 = and_mask v 12 in
    let e : p * 4096 % 2 ^ 32 ≡ p % 2 ^ 20 * 2 ^ 12 = omega arith in
    rw (m, e) (or_shifted (p % 2 ^ 20) 12 (v % 4096) (omega arith))

-- `physical`
module _ (s : SystemState) (va : ℕ) (t : Bool) (is : t ≡ translating_of s) where
  pub translated : (f r : ℕ) → t ≡ true → f ≡ frame_of s.vm va → r ≡ joined_to f va → r ≡ physical_of s va
  unfolding physical_of
  translated f r h e q = q ∙ rw (← is, h, e)

  pub untranslated : t ≡ false → va ≡ physical_of s va
  unfolding physical_of
  untranslated h = rw (← is, h)

-- ---- loads

-- the bytes read so far make a number that has room for one more
pub next_small : (k value b : ℕ) → value < 256 ^ k → b < 256 → value * 256 + b < 256 ^ (k + 1)
next_small k value b h g = rw add-one (omega (arith, pow-suc 256 k))

pub next_fits : (k value b : ℕ) → k < 4 → value < 256 ^ k → b < 256 → value * 256 + b < 2 ^ 32
next_fits zero value b l h g = omega arith
next_fits (suc zero) value b l h g = omega arith
next_fits (suc (suc zero)) value b l h g = omega arith
next_fits (suc (suc (suc zero))) value b l h g = omega arith
next_fits (suc (suc (suc (suc k)))) value b l h g = absurd (omega arith)

-- a word inside a page
pub word_read : (m : Memory) (s : SystemState) (va n pa : ℕ) (r : Option ℕ) → va < 2 ^ 32 → va % 4096 ≤ 4092 → n ≡ 4 → pa ≡ physical_of s va
    → r ≡ read_at m (word_spots pa) → r ≡ read_at m (spots s va n)
word_read m s va n pa r h g e f q = q ∙ rw (e, word_spots_lem s va h g, f)

-- an access has at most four bytes
pub data_small : (n : ℕ) (r : Bool) → r ≡ data_size n → r ≡ true → n ≤ 4
data_small n r e t = sizes (ℕ_discrete n 1) (ℕ_discrete n 2) (ℕ_discrete n 4) (sym e ∙ t)
  where
    sizes : Dec (n ≡ 1) → Dec (n ≡ 2) → Dec (n ≡ 4) → data_size n ≡ true → n ≤ 4
    sizes (yes a) b d h = omega arith
    sizes (no a) (yes b) d h = omega arith
    sizes (no a) (no b) (yes d) h = omega arith
    sizes (no a) (no b) (no d) h = absurd_eq (let z : false ≡ true = sym (size_none n a b d) ∙ h in cc)

answered : (all : Bool) → ◌≡◌ {A = Result (Unit {0}) DataError} (ok_or (then_some all tt) BusError) (cond all (Ok tt) (Err BusError))
answered true = refl
answered false = refl

-- the gate, as the code has asked it
module _ (m : Memory) (n : ℕ) (legal : Bool) (size : legal ≡ data_size n) where
  asked : (g : Gate) → g ≡ access_gate m legal → access_gate m (data_size n) ≡ g
  asked g is = ap (access_gate m) (sym size) ∙ sym is

  pub open_good : (u : Unit {0}) → Ok u ≡ access_gate m legal → (n ≤ 4) × (map_good m ≡ true)
  open_good u h = let o = access_open m (data_size n) (asked (Ok tt) h) in (data_small n (data_size n) refl o.1, o.0)

  -- loads and stores from any addresses
  module _ (l : List ℕ) where
    pub read_refused : (r : Refusal) → Err r ≡ access_gate m legal → Err (Refused r) ≡ load_at m n l
    unfolding load_at
    read_refused r h = rw (asked (Err r) h)

    pub write_refused : (r : Refusal) → Err r ≡ access_gate m legal → Err (Refused r) ≡ store_at m n l
    unfolding store_at
    write_refused r h = rw (asked (Err r) h)

    pub read_good : (c : Option ℕ) (r : Result ℕ DataError) → (u : Unit {0}) → Ok u ≡ access_gate m legal → c ≡ read_at m l → r ≡ read_of c → r ≡ load_at m n l
    unfolding load_at
    read_good c r u h e q = q ∙ rw (asked (Ok tt) h, e)

    pub write_good : (all : Bool) (r : Result (Unit {0}) DataError) → (u : Unit {0}) → Ok u ≡ access_gate m legal → all ≡ all_writable m l → (o : Option (Unit {0})) → o ≡ then_some all tt → r ≡ ok_or o BusError → r ≡ store_at m n l
    unfolding store_at
    write_good all r u h e o s q = q ∙ ap (λ (x : Option (Unit {0})). ok_or x BusError) s ∙ answered all ∙ rw (asked (Ok tt) h, e)

    pub memory_written : (v : ℕ) (bs : List ℕ) → (u : Unit {0}) → Ok u ≡ access_gate m legal → bs ≡ (put_at m l (bytes_of n v)).bytes → bs ≡ (memory_at m n l v).bytes
    unfolding memory_at
    memory_written v bs u h q = q ∙ rw (asked (Ok tt) h)

-- a refused store leaves the memory
pub memory_kept : (base : ℕ) (bs : List ℕ) (n : ℕ) (legal : Bool) → legal ≡ data_size n
    → (l : List ℕ) (v : ℕ) (r : Refusal) → Err r ≡ access_gate (lent base bs) legal → bs ≡ (memory_at (lent base bs) n l v).bytes
unfolding memory_at
memory_kept base bs n legal size l v r h = rw (asked (lent base bs) n legal size (Err r) h)

-- ---- stores

pub bytes_next : (n v : ℕ) → bytes_of (suc n) v ≡ v / 256 ^ n % 256 ∷ bytes_of n v
unfolding bytes_of
bytes_next n v = refl
