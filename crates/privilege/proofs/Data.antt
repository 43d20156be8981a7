-- Document 01's sentences of data access and of the debugger's view. Assumes nothing.
use Rattle.std.proofs.Common.{◌≡◌, ℕ, zero, suc, ◌+◌, ◌*◌, ◌%◌, ◌^◌, ◌<◌, Bool, true, false, List, [], ◌∷◌, map, length, get_or, refl, ap, ◌∙◌, arith, Option, Some, None, Ok, Err}
use Rattle.common.specs.Bytes.{big_endian, bytes_of}
use Rattle.memory.specs.Gate.{map_good, access_gate}
use Rattle.memory.specs.Gate.Laws.{map_open, size_open}
use Rattle.memory.specs.Memory.{Memory, byte_at, gathered, read_at, put_at, all_writable}
use Rattle.privilege.specs.declared.transfer.DataError.TheVariants.{BusError}
use Rattle.mmu.specs.Tlb.{no_entry}
use Rattle.mmu.specs.Vm.{slot_of, frame_of}
use Rattle.mmu.specs.declared.vm.Vm.{Vm}
use Rattle.privilege.specs.Access.{fetch_size, data_size, translating_of}
use Rattle.privilege.specs.Debug.{mapped_to, debug_translated, slot_view}
use Rattle.privilege.specs.State.{with_user}
use Rattle.privilege.specs.Transfer.{physical_of, spots, load_at, store_at, memory_at}
use Rattle.privilege.specs.Transfer.Laws.{spots_next, physical_on}
use Rattle.privilege.specs.declared.state.SystemState.{SystemState}

-- ---- where the bytes are

pub looked_up : (s : SystemState) (va n i : ℕ) → va < 2 ^ 32 → i < n → get_or (spots s va n) i 0 ≡ physical_of s ((va + i) % 2 ^ 32)
looked_up s va zero i h g = absurd (omega arith)
looked_up s va (suc n) zero h g = let e : va ≡ (va + 0) % 2 ^ 32 = omega arith in rw (spots_next s va n) (ap (physical_of s) e)
looked_up s va (suc n) (suc i) h g =
    let e : ((va + 1) % 2 ^ 32 + i) % 2 ^ 32 ≡ (va + suc i) % 2 ^ 32 = omega arith in
    rw (spots_next s va n) (looked_up s ((va + 1) % 2 ^ 32) n i (omega arith) (omega arith) ∙ ap (physical_of s) e)

pub stolen : (s : SystemState) (va : ℕ) → translating_of s ≡ true → slot_of s.vm va ≡ None → physical_of s va ≡ va % 4096
unfolding frame_of
stolen s va t h = physical_on s va t ∙ rw h (omega arith)

-- ---- loads and stores

module _ (m : Memory) (n : ℕ) (good : map_good m ≡ true) (size : data_size n ≡ true) where
  opened : access_gate m (data_size n) ≡ Ok tt
  opened = size_open m (data_size n) (map_open m good) size

  -- one byte outside makes the whole unreadable
  missing : (high : ℕ) (l : List ℕ) (i : ℕ) → i < length l → byte_at m (get_or l i 0) ≡ None → gathered high (map (byte_at m) l) ≡ None
  unfolding gathered
  missing high [] i h e = absurd (omega arith)
  missing high (a ∷ l) zero h e = rw e
  missing high (a ∷ l) (suc i) h e = goes_on (byte_at m a) (λ b. missing (high * 256 + b) l i (omega arith) e)
    where
      goes_on : (c : Option ℕ) → ((b : ℕ) → gathered (high * 256 + b) (map (byte_at m) l) ≡ None) → gathered high (c ∷ map (byte_at m) l) ≡ None
      goes_on None f = refl
      goes_on (Some b) f = f b

  pub load_outside : (l : List ℕ) (i : ℕ) → i < length l → byte_at m (get_or l i 0) ≡ None → load_at m n l ≡ Err BusError
  unfolding load_at read_at
  load_outside l i h e = rw (opened, missing 0 l i h e)

  pub store_outside : (l : List ℕ) → all_writable m l ≡ false → store_at m n l ≡ Err BusError
  unfolding store_at
  store_outside l h = rw (opened, h)

  pub store_puts : (l : List ℕ) (v : ℕ) → memory_at m n l v ≡ put_at m l (bytes_of n v)
  unfolding memory_at
  store_puts l v = rw opened

pub big_endian_lem : (m : Memory) (p₀ p₁ p₂ p₃ b₀ b₁ b₂ b₃ : ℕ) → map_good m ≡ true
    → byte_at m p₀ ≡ Some b₀ → byte_at m p₁ ≡ Some b₁ → byte_at m p₂ ≡ Some b₂ → byte_at m p₃ ≡ Some b₃
    → load_at m 4 (p₀ ∷ p₁ ∷ p₂ ∷ p₃ ∷ []) ≡ Ok (big_endian (b₀ ∷ b₁ ∷ b₂ ∷ b₃ ∷ []))
unfolding load_at read_at gathered data_size fetch_size
big_endian_lem m p₀ p₁ p₂ p₃ b₀ b₁ b₂ b₃ good e f g h = rw (size_open m true (map_open m good) refl, e, f, g, h)

-- ---- the debugger's view

pub debug_mode : (m : Memory) (s : SystemState) (va : ℕ) (user : Bool) → debug_translated m (with_user s user) va ≡ debug_translated m s va
unfolding debug_translated
debug_mode m s va user = refl

pub debug_resident : (m : Memory) (s : SystemState) (va i : ℕ) → map_good m ≡ true → slot_of s.vm va ≡ Some i
    → debug_translated m s va ≡ Ok (mapped_to (get_or s.vm.tlb i no_entry) va true)
unfolding debug_translated
debug_resident m s va i good h = rw (map_open m good, h)

pub view_index : (vm : Vm) (i : ℕ) → slot_view vm (i + 16) ≡ slot_view vm i
unfolding slot_view
view_index vm i = let e : (i + 16) % 16 ≡ i % 16 = omega arith in rw e
