-- Data access: document 01, 'Access and translation'; `physical`, `read_data` and `write_data` of cpu_privilege.rs.
--
--   joined_to ppn va                      == va's byte in a physical page; what passes 32 bits is dropped
--   physical_of s va                      == the physical address of a byte, looked up in the TLB again: `physical`
--   spots s va n                          == the physical addresses of an access's bytes, each looked up again
--   load_at m n l                         == a load of n bytes that stand at the addresses l
--   store_at m n l, memory_at m n l v     == a store's answer, and the memory that it leaves
--   data_read, data_written, memory_after == the same at an access's spots: `read_data`, `write_data`
--
-- `spots` is the one place where an access's addresses come from; loads and stores are over any list of addresses. A word
-- inside a page is one lookup in the Rust and in the code; here every byte is looked up, and the two are proved equal.
use Rattle.std.specs.Prelude.{ℕ, ◌+◌, ◌%◌, cond, List, map, Option, Result, Ok, Err, ok_or}
use Rattle.common.specs.Bytes.{bytes_of}
use Rattle.common.specs.declared.Refusal.{Refusal}
use Rattle.memory.specs.Gate.{gated, access_gate}
use Rattle.memory.specs.Memory.{Memory, read_at, put_at, all_writable}
use Rattle.privilege.specs.declared.transfer.DataError.TheVariants.{BusError, Refused}
use Rattle.privilege.specs.declared.transfer.DataError.{DataError}
use Rattle.mmu.specs.Check.{page_addr}
use Rattle.mmu.specs.Vm.{frame_of}
use Rattle.privilege.specs.Access.{data_size, translating_of}
use Rattle.privilege.specs.Addresses.{addresses}
use Rattle.privilege.specs.declared.state.SystemState.{SystemState}
pub mod Laws

abbrev pub joined_to : ℕ → ℕ → ℕ
joined_to ppn va = page_addr ppn + va % 4096

unfoldable pub physical_of : SystemState → ℕ → ℕ
physical_of s va = cond (translating_of s) (joined_to (frame_of s.vm va) va) va

unfoldable pub spots : SystemState → ℕ → ℕ → List ℕ
spots s va n = map (physical_of s) (addresses n va)

-- "A load .. with any byte outside the map answers bus error and no value"
abbrev pub read_of : Option ℕ → Result ℕ DataError
read_of c = ok_or c BusError

-- a load of n bytes from any addresses
unfoldable pub load_at : Memory → ℕ → List ℕ → Result ℕ DataError
load_at m n l = gated (access_gate m (data_size n)) (read_of (read_at m l)) (λ (r : Refusal). Err (Refused r))

-- "a store writes its inside bytes and answers bus error"
unfoldable pub store_at : Memory → ℕ → List ℕ → Result (Unit {0}) DataError
store_at m n l = gated (access_gate m (data_size n)) (cond (all_writable m l) (Ok tt) (Err BusError)) (λ (r : Refusal). Err (Refused r))

unfoldable pub memory_at : Memory → ℕ → List ℕ → ℕ → Memory
memory_at m n l v = gated (access_gate m (data_size n)) (put_at m l (bytes_of n v)) (λ (r : Refusal). m)

abbrev pub data_read : Memory → SystemState → ℕ → ℕ → Result ℕ DataError
data_read m s va n = load_at m n (spots s va n)

abbrev pub data_written : Memory → SystemState → ℕ → ℕ → Result (Unit {0}) DataError
data_written m s va n = store_at m n (spots s va n)

abbrev pub memory_after : Memory → SystemState → ℕ → ℕ → ℕ → Memory
memory_after m s va n v = memory_at m n (spots s va n) v
