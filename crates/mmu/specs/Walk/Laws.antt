-- The laws of the walk, by the words that it reads. Assumes nothing.
--
--   leaf_by_bits, leaf_alone == a walk looks at a leaf's bits and not at its frame
--   table_followed           == a frame's address and V is a word that the walk follows; none_followed: 0 is none
--   walk_two, walk_one       == a walk by the words that it reads
--   leaf_found, no_leaf      == what the second word leads to
--   entry_of_lem             == the entry of a leaf, from its frame and bits
use Rattle.std.specs.Prelude.{◌≡◌, ℕ, ◌+◌, ◌*◌, ◌/◌, ◌%◌, ◌^◌, ◌<◌, true, false, not, ◌&&◌, ◌||◌, ◌==◌, refl, Option, Some, Ok, Err}
use Rattle.std.proofs.Common.{ap, ◌∙◌, div-one, arith}
use Rattle.common.specs.Bits.{bit_set}
use Rattle.memory.specs.Memory.{Memory, read_at, word_spots}
use Rattle.mmu.specs.declared.walk.WalkFault.TheVariants.{Missing}
use Rattle.mmu.specs.Walk.{table_ok, leaf_ok, leaf_entry, spot1, spot2, walk_leaf, walk_table, walk_of}

-- the word 4096 q + 2 c + 1, where c has four bits
leaf_word : (q c : ℕ) → c < 16 → leaf_ok (4096 * q + 2 * c + 1) ≡ (not (c % 8 == 0) && (not (c / 2 % 2 == 1) || c % 2 == 1))
unfolding leaf_ok bit_set
leaf_word q c k =
    let w = 4096 * q + 2 * c + 1 in
    let valid : w % 2 ≡ 1 = omega arith in
    let above : w / 64 ≡ 64 * q = omega arith in
    let reserved : 64 * q % 4 ≡ 0 = omega arith in
    let half : w / 2 ≡ 2048 * q + c = omega arith in
    let any : (2048 * q + c) % 8 ≡ c % 8 = omega arith in
    let quarter : w / 2 ^ 2 ≡ 1024 * q + c / 2 = omega arith in
    let write : (1024 * q + c / 2) % 2 ≡ c / 2 % 2 = omega arith in
    let read : (2048 * q + c) % 2 ≡ c % 2 = omega arith in
    rw (div-one, valid, above, reserved, half, any, quarter, write, read)

pub leaf_by_bits : (a b : ℕ) → a % 4096 ≡ 0 → b % 2 ≡ 0 → b < 32
    → leaf_ok (a + b + 1) ≡ (not (b / 2 % 8 == 0) && (not (bit_set b 2) || bit_set b 1))
unfolding bit_set
leaf_by_bits a b h g k =
    let whole : a + b + 1 ≡ 4096 * (a / 4096) + 2 * (b / 2) + 1 = omega arith in
    let quarter : b / 2 ^ 2 ≡ b / 2 / 2 = omega arith in
    rw (whole, leaf_word (a / 4096) (b / 2) (omega arith), quarter)

pub leaf_alone : (b : ℕ) → b % 2 ≡ 0 → b < 32 → leaf_ok (b + 1) ≡ (not (b / 2 % 8 == 0) && (not (bit_set b 2) || bit_set b 1))
leaf_alone b g k = let e : b + 1 ≡ 0 + b + 1 = omega arith in ap leaf_ok e ∙ leaf_by_bits 0 b refl g k

-- ---- a walk by its words

pub table_followed : (a : ℕ) → a % 4096 ≡ 0 → table_ok (a + 1) ≡ true
unfolding table_ok bit_set
table_followed a h =
    let valid : (a + 1) % 2 ≡ 1 = omega arith in
    let above : (a + 1) / 64 ≡ a / 4096 * 64 = omega arith in
    let reserved : a / 4096 * 64 % 4 ≡ 0 = omega arith in
    let half : (a + 1) / 2 ≡ a / 4096 * 2048 = omega arith in
    let none : a / 4096 * 2048 % 8 ≡ 0 = omega arith in
    rw (div-one, valid, above, reserved, half, none)

pub none_followed : table_ok 0 ≡ false
unfolding table_ok bit_set
none_followed = refl

module _ (m : Memory) (ptbr va w : ℕ) (p : read_at m (word_spots (spot1 ptbr va)) ≡ Some w) where
  pub walk_two : (o : Option ℕ) → table_ok w ≡ true → read_at m (word_spots (spot2 w va)) ≡ o → walk_of m ptbr va ≡ walk_leaf va o
  unfolding walk_of walk_table
  walk_two o t q = rw (p, t, q)

  pub walk_one : table_ok w ≡ false → (walk_of m ptbr va).walked ≡ Err Missing
  unfolding walk_of walk_table
  walk_one t = rw (p, t)

pub leaf_found : (va w : ℕ) → leaf_ok w ≡ true → (walk_leaf va (Some w)).walked ≡ Ok (leaf_entry va w)
unfolding walk_leaf
leaf_found va w t = rw t

pub no_leaf : (va : ℕ) → (walk_leaf va (Some 0)).walked ≡ Err Missing
unfolding walk_leaf leaf_ok bit_set
no_leaf va = refl

-- ---- an entry by its leaf

pub entry_of_lem : (va p b : ℕ) → p < 0xFFFF0 → b % 2 ≡ 0 → b < 32
    → leaf_entry va (p * 4096 % 2 ^ 32 + b + 1) ≡ record { valid = true; vpn = va / 4096; ppn = p; flags = b }
unfolding leaf_entry
entry_of_lem va p b h g k =
    let frame : (p * 4096 % 2 ^ 32 + b + 1) / 4096 ≡ p = omega arith in
    let half : (p * 4096 % 2 ^ 32 + b + 1) / 2 ≡ 2048 * p + b / 2 = omega arith in
    let low : (2048 * p + b / 2) % 16 ≡ b / 2 = omega arith in
    let bits : b / 2 * 2 ≡ b = omega arith in
    rw (frame, half, low, bits)
