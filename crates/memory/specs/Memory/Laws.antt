-- The laws of lent memory. Assumes nothing.
--
--   read_same                       == what is read depends on the bytes read alone
--   put_here, put_other, put_both   == a byte after one was written
--   write_both, write_other         == a byte after several were written
--   put_base, put_length, write_map == the map stays
--   inside_same, outside_same       == which addresses are inside depends on the map alone
--   same_map                        == a memory has its own map
--   inside_map, inside_bounds       == inside is between the map's first address and its end
--   good_map_is, good_map_end       == the tests that a good map passes; it ends at 0xFFFF0000 or before
--   lent_put                        == a byte written at a base keeps the base
use Rattle.std.specs.Prelude.{ℕ, ◌+◌, ◌-◌, ◌%◌, ◌≤◌, ◌<◌, ◌≡◌, refl, true, false, ◌&&◌, List, [], ◌∷◌, map, ◌≢◌, leb, ltb, eqb, length, get_or, set, Option, Some, None}
use Rattle.std.proofs.Common.{sym, ap, ◌∙◌, ⊎_elim, arith, length-set, get_or-set_same, get_or-set_other, leb-true, ltb-true, le-leb, lt-ltb}
use Rattle.std.proofs.Math.Decide.{ℕ_discrete}
use Rattle.common.specs.Cases.{absurd_eq, bool_is, cond_holds, and_left, and_right}
use Rattle.common.specs.Lists.{Each}
use Rattle.memory.specs.Memory.{Memory, lent, good_map, inside, readable, writable, byte_at, read_at, put_byte, put_at, all_writable}

pub good_map_is : (base n : ℕ) → good_map base n ≡ (eqb (base % 4096) 0 && eqb (n % 4096) 0 && leb (base + n) 0xFFFF_0000)
unfolding good_map
good_map_is base n = refl

pub good_map_end : (base n : ℕ) → good_map base n ≡ true → base + n ≤ 0xFFFF_0000
unfolding good_map
good_map_end base n g = leb-true _ _ (and_right (eqb (base % 4096) 0 && eqb (n % 4096) 0) (leb (base + n) 0xFFFF_0000) g)

-- two memories of one map: the same base and the same length
pub record SameMap (m m' : Memory) : Type 0 where
  pub base : m.base ≡ m'.base
  pub size : length m.bytes ≡ length m'.bytes

pub same_map : (m : Memory) → SameMap m m
same_map m = record { base = refl; size = refl }

pub inside_map : (m : Memory) (a : ℕ) → m.base ≤ a → a < m.base + length m.bytes → inside m a ≡ true
unfolding inside
inside_map m a h g = rw (le-leb m.base a h, lt-ltb (a - m.base) (length m.bytes) (omega arith))

pub inside_bounds : (m : Memory) (a : ℕ) → inside m a ≡ true → (m.base ≤ a) × (a < m.base + length m.bytes)
unfolding inside
inside_bounds m a h =
    let low = leb-true m.base a (and_left (leb m.base a) (ltb (a - m.base) (length m.bytes)) h) in
    let high = ltb-true (a - m.base) (length m.bytes) (and_right (leb m.base a) (ltb (a - m.base) (length m.bytes)) h) in
    (low, omega arith)

pub inside_same : (m m' : Memory) → SameMap m m' → (a : ℕ) → inside m a ≡ inside m' a
unfolding inside
inside_same m m' s a = rw (s.base, s.size)

pub all_writable_same : (m m' : Memory) → SameMap m m' → (l : List ℕ) → all_writable m l ≡ all_writable m' l
unfolding all_writable
all_writable_same m m' s [] = refl
all_writable_same m m' s (a ∷ l) = rw (inside_same m m' s a, all_writable_same m m' s l)

-- ---- reading

map_same : (m m' : Memory) (l : List ℕ) → Each (λ a. byte_at m a ≡ byte_at m' a) l → map (byte_at m) l ≡ map (byte_at m') l
map_same m m' [] h = refl
map_same m m' (a ∷ l) h = rw (h.0, map_same m m' l h.1)

pub read_same : (m m' : Memory) (l : List ℕ) → Each (λ a. byte_at m a ≡ byte_at m' a) l → read_at m l ≡ read_at m' l
unfolding read_at
read_same m m' l h = rw (map_same m m' l h)

-- a byte of the map, and an address outside it
pub byte_inside : (m : Memory) (a : ℕ) → readable m a ≡ true → byte_at m a ≡ Some (get_or m.bytes (a - m.base) 0)
unfolding byte_at
byte_inside m a h = rw h

pub byte_outside : (m : Memory) (a : ℕ) → readable m a ≡ false → byte_at m a ≡ None
unfolding byte_at
byte_outside m a h = rw h

-- an address that is outside one memory is outside another of the same map
pub outside_same : (m m' : Memory) → SameMap m m' → (a : ℕ) → byte_at m a ≡ None → byte_at m' a ≡ None
outside_same m m' same a h =
    ⊎_elim
    (λ (t : inside m a ≡ true). absurd_eq (let z : Some _ ≡ None = sym (byte_inside m a t) ∙ h in cc))
    (λ (t : inside m a ≡ false). byte_outside m' a (sym (inside_same m m' same a) ∙ t))
    (bool_is (inside m a))

-- ---- writing one byte

pub put_base : (m : Memory) (a b : ℕ) → (put_byte m a b).base ≡ m.base
unfolding put_byte
put_base m a b = cond_holds (λ (n : Memory). n.base ≡ m.base) (inside m a) refl refl

pub put_length : (m : Memory) (a b : ℕ) → length (put_byte m a b).bytes ≡ length m.bytes
unfolding put_byte
put_length m a b = cond_holds (λ (n : Memory). length n.bytes ≡ length m.bytes) (inside m a) (length-set m.bytes (a - m.base) b) refl

pub put_map : (m : Memory) (a b : ℕ) → SameMap (put_byte m a b) m
put_map m a b = record { base = put_base m a b; size = put_length m a b }

pub lent_put : (m : Memory) (a b : ℕ) → lent m.base (put_byte m a b).bytes ≡ put_byte m a b
lent_put m a b = ap (λ (n : ℕ). lent n (put_byte m a b).bytes) (sym (put_base m a b))

-- a written byte, if there is one
abbrev pub over : ℕ → Option ℕ → Option ℕ
over v None = None
over v (Some x) = Some v

pub put_in : (m : Memory) (a v : ℕ) → writable m a ≡ true → put_byte m a v ≡ lent m.base (set m.bytes (a - m.base) v)
unfolding put_byte
put_in m a v h = rw h

pub put_out : (m : Memory) (a v : ℕ) → writable m a ≡ false → put_byte m a v ≡ m
unfolding put_byte
put_out m a v h = rw h

pub put_here : (m : Memory) (a v : ℕ) → byte_at (put_byte m a v) a ≡ over v (byte_at m a)
put_here m a v =
    ⊎_elim
    (λ (h : inside m a ≡ true).
    rw (byte_inside m a h)
    (byte_inside (put_byte m a v) a (inside_same (put_byte m a v) m (put_map m a v) a ∙ h)
    ∙ rw (put_in m a v h) (ap Some (get_or-set_same m.bytes (a - m.base) v 0 (omega (arith, inside_bounds m a h))))))
    (λ (h : inside m a ≡ false). rw (put_out m a v h, byte_outside m a h))
    (bool_is (inside m a))

pub put_other : (m : Memory) (a v b : ℕ) → b ≢ a → byte_at (put_byte m a v) b ≡ byte_at m b
put_other m a v b ne =
    ⊎_elim
    (λ (h : inside m a ≡ true).
    ⊎_elim
    (λ (g : inside m b ≡ true).
    let off : b - m.base ≢ a - m.base = λ e. ne (omega (arith, (inside_bounds m a h).0, (inside_bounds m b g).0)) in
    byte_inside (put_byte m a v) b (inside_same (put_byte m a v) m (put_map m a v) b ∙ g)
    ∙ rw (put_in m a v h) (ap Some (get_or-set_other m.bytes (a - m.base) (b - m.base) v 0 off))
    ∙ sym (byte_inside m b g))
    (λ (g : inside m b ≡ false).
    byte_outside (put_byte m a v) b (inside_same (put_byte m a v) m (put_map m a v) b ∙ g) ∙ sym (byte_outside m b g))
    (bool_is (inside m b)))
    (λ (h : inside m a ≡ false). rw (put_out m a v h))
    (bool_is (inside m a))

-- equal writes keep equal bytes equal
pub put_both : (m m' : Memory) (a v b : ℕ) → byte_at m b ≡ byte_at m' b → byte_at (put_byte m a v) b ≡ byte_at (put_byte m' a v) b
put_both m m' a v b h = by_place (ℕ_discrete b a)
  where
    by_place : Dec (b ≡ a) → byte_at (put_byte m a v) b ≡ byte_at (put_byte m' a v) b
    by_place (yes e) = rw e (rw (put_here, put_here) (ap (over v) (rw e at h)))
    by_place (no ne) = put_other m a v b ne ∙ h ∙ sym (put_other m' a v b ne)

-- ---- writing several bytes

pub write_map : (m : Memory) (l bs : List ℕ) → SameMap (put_at m l bs) m
unfolding put_at
write_map m [] bs = same_map m
write_map m (a ∷ l) [] = same_map m
write_map m (a ∷ l) (b ∷ bs) =
    let r = write_map (put_byte m a b) l bs in
    record { base = r.base ∙ put_base m a b; size = r.size ∙ put_length m a b }

pub write_both : (m m' : Memory) (l bs : List ℕ) (b : ℕ) → byte_at m b ≡ byte_at m' b → byte_at (put_at m l bs) b ≡ byte_at (put_at m' l bs) b
unfolding put_at
write_both m m' [] bs b h = h
write_both m m' (a ∷ l) [] b h = h
write_both m m' (a ∷ l) (v ∷ bs) b h = write_both (put_byte m a v) (put_byte m' a v) l bs b (put_both m m' a v b h)

pub write_other : (m : Memory) (l bs : List ℕ) (b : ℕ) → Each (λ a. b ≢ a) l → byte_at (put_at m l bs) b ≡ byte_at m b
unfolding put_at
write_other m [] bs b h = refl
write_other m (a ∷ l) [] b h = refl
write_other m (a ∷ l) (v ∷ bs) b h = write_other (put_byte m a v) l bs b h.1 ∙ put_other m a v b h.0
