-- FNV-1a over 32 bits.
--
--   fnv_byte h b      == the digest h with one byte more
--   fnv_bytes h l     == the digest h with the bytes l, in order
--   fnv_word h w      == the digest h with a word's four bytes, highest first
--   fnv_words h l     == the digest h with the words l, in order
--
-- The product is taken modulo 2^32: what passes 32 bits is dropped.
use Rattle.std.specs.Prelude.{ℕ, ◌*◌, ◌%◌, ◌^◌, List, [], ◌∷◌}
use Rattle.std.specs.Int.Bits.{bit_xor}
use Rattle.common.specs.Bytes.{bytes_of}

unfoldable pub fnv_byte : ℕ → ℕ → ℕ
fnv_byte h b = bit_xor h b * 0x0100_0193 % 2 ^ 32

abbrev pub fnv_bytes : ℕ → List ℕ → ℕ
fnv_bytes h [] = h
fnv_bytes h (b ∷ l) = fnv_bytes (fnv_byte h b) l

unfoldable pub fnv_word : ℕ → ℕ → ℕ
fnv_word h w = fnv_bytes h (bytes_of 4 w)

unfoldable pub fnv_words : ℕ → List ℕ → ℕ
fnv_words h [] = h
fnv_words h (w ∷ l) = fnv_words (fnv_word h w) l
