-- The table's rows 4, 2 and 5, proved of the definitions. Assumes nothing.
use Rattle.std.proofs.Common.{◌≡◌, ℕ, ◌+◌, ◌%◌, ◌<◌, ◌≤◌, max, Bool, true, false, cond, ◌&&◌, ◌||◌, eqb, leb, ◌≢◌, ◌⊎◌, ◌↔◌, List, length, refl, inl, inr, ⊎_elim, arith, ne_eqb, leb-false, Result, Ok, Err}
use mathlib.Core.Logic.Iff
use borrow.Author.Tests.{lt-leb, eqb-false}
use Rattle.common.specs.Cases.{absurd_eq}
use Rattle.common.specs.declared.Refusal.TheVariants as refusal
use Rattle.memory.specs.Memory.{good_map}
use Rattle.script.specs.Header.Laws.{good_sound, image_is}
use Rattle.script.specs.Header.{header_least, header_size, header_at, length_ok, counts_ok, events_section, image_section, section_ok, apart, sections_ok, decided, script_of}
use Rattle.script.specs.Image.Laws.{bytes_length, bytes_get_d}
use Rattle.script.specs.Meaning.{BadHeader, BadMap, Misplaced, Overlap, BadSections, Meaning}
use Rattle.script.specs.declared.header.Header.{Header}
use Rattle.std.specs.declared.ops.Range.{Range}
use Rattle.common.specs.declared.Refusal.{Refusal}
use Rattle.memory.specs.Memory.Laws.{good_map_is}

-- ---- what it means that a test fails

abbrev Fails : Bool → Type 0 → Type 0
Fails b P = (b ≡ false) ↔ P

passes : {P : Type 0} → Fails true P → P → ⊥
passes f x = let e = f.1 x in absurd_eq (cc)

fails_leb : (a b : ℕ) → Fails (leb a b) (b < a)
fails_leb a b = (leb-false a b, lt-leb a b)

fails_eqb : (a b : ℕ) → Fails (eqb a b) (a ≢ b)
fails_eqb a b = (eqb-false a b, ne_eqb a b)

fails_and : {a b : Bool} {P Q : Type 0} → Fails a P → Fails b Q → Fails (a && b) (P ⊎ Q)
fails_and {a = true} f g = (λ e. inr (g.0 e), ⊎_elim (λ x. absurd (passes f x)) g.1)
fails_and {a = false} f g = (λ e. inl (f.0 refl), λ x. refl)

fails_or : {a b : Bool} {P Q : Type 0} → Fails a P → Fails b Q → Fails (a || b) (P × Q)
fails_or {a = true} f g = (λ e. absurd_eq (cc), λ x. absurd (passes f x.0))
fails_or {a = false} f g = (λ e. (f.0 refl, g.0 e), λ x. g.1 x.1)

-- ---- the tests of a header

header_fails : (n : ℕ) (h : Header) → Fails (length_ok n && counts_ok h) (BadHeader n h)
unfolding length_ok counts_ok
header_fails n h =
    fails_and (fails_and (fails_leb header_least n) (fails_leb n 61440))
    (fails_and (fails_and (fails_leb h.events 2048) (fails_leb h.image 32768)) (fails_eqb (h.image % 4096) 0))

map_fails : (h : Header) → Fails (good_map h.base h.image) (BadMap h)
map_fails h =
    rw good_map_is
    (fails_and (fails_and (fails_eqb (h.base % 4096) 0) (fails_eqb (h.image % 4096) 0)) (fails_leb (h.base + h.image) 0xFFFF_0000))

section_fails : (h : Header) (n : ℕ) (p : Range ℕ) → Fails (section_ok (header_size h) n p) (Misplaced h n p)
unfolding section_ok
section_fails h n p =
    fails_or (fails_eqb p.start p.end) (fails_and (fails_leb (header_size h) p.start) (fails_leb p.end n))

-- two sections that are not empty share a byte exactly when each starts before the other ends
apart_fails : (p q : Range ℕ) → p.start ≤ p.end → q.start ≤ q.end → Fails (apart p q) (Overlap p q)
unfolding apart
apart_fails p q h g =
    Iff.trans
    (fails_or (fails_or (fails_or (fails_eqb p.start p.end) (fails_eqb q.start q.end)) (fails_leb p.end q.start)) (fails_leb q.end p.start))
    (to, from)
  where
    Crossed : Type 0
    Crossed = (((p.start ≢ p.end) × (q.start ≢ q.end)) × (q.start < p.end)) × (p.start < q.end)

    to : Crossed → Overlap p q
    to x =
        let a : p.start < p.end = omega (arith, x.0.0.0) in
        let b : q.start < q.end = omega (arith, x.0.0.1) in
        (max p.start q.start, (omega arith, omega arith), (omega arith, omega arith))

    from : Overlap p q → Crossed
    from y = (((λ e. omega (arith, y.1), λ e. omega (arith, y.2)), omega (arith, y.1, y.2)), omega (arith, y.1, y.2))

sections_fail : (n : ℕ) (h : Header) → Fails (sections_ok n h) (BadSections n h)
unfolding sections_ok
sections_fail n h =
    fails_and (fails_and (section_fails h n (events_section h)) (section_fails h n (image_section h)))
    (apart_fails (events_section h) (image_section h) (omega arith) (omega arith))

-- ---- the refusals in order

pub record Ordered (h : Header) (x : Result Header Refusal) (First Second Third : Type 0) : Type 0 where
  pub header : (x ≡ Err refusal.Header) ↔ First
  pub map : (x ≡ Err refusal.Map) ↔ ((First → ⊥) × Second)
  pub section : (x ≡ Err refusal.Section) ↔ ((First → ⊥) × (Second → ⊥) × Third)
  pub good : (x ≡ Ok h) ↔ ((First → ⊥) × (Second → ⊥) × (Third → ⊥))

module _ (h : Header) {P Q R : Type 0} where
  ordered : (a b c : Bool) → Fails a P → Fails b Q → Fails c R
      → Ordered h (cond a (cond b (cond c (Ok h) (Err refusal.Section)) (Err refusal.Map)) (Err refusal.Header)) P Q R
  ordered false b c f g k =
      record {
        header = (λ e. f.0 refl, λ x. refl);
        map = (λ e. absurd_eq (cc), λ x. absurd (x.0 (f.0 refl)));
        section = (λ e. absurd_eq (cc), λ x. absurd (x.0 (f.0 refl)));
        good = (λ e. absurd_eq (cc), λ x. absurd (x.0 (f.0 refl)));
      }
  ordered true false c f g k =
      record {
        header = (λ e. absurd_eq (cc), λ x. absurd (passes f x));
        map = (λ e. (passes f, g.0 refl), λ x. refl);
        section = (λ e. absurd_eq (cc), λ x. absurd (x.1 (g.0 refl)));
        good = (λ e. absurd_eq (cc), λ x. absurd (x.1 (g.0 refl)));
      }
  ordered true true false f g k =
      record {
        header = (λ e. absurd_eq (cc), λ x. absurd (passes f x));
        map = (λ e. absurd_eq (cc), λ x. absurd (passes g x.1));
        section = (λ e. (passes f, passes g, k.0 refl), λ x. refl);
        good = (λ e. absurd_eq (cc), λ x. absurd (x.2 (k.0 refl)));
      }
  ordered true true true f g k =
      record {
        header = (λ e. absurd_eq (cc), λ x. absurd (passes f x));
        map = (λ e. absurd_eq (cc), λ x. absurd (passes g x.1));
        section = (λ e. absurd_eq (cc), λ x. absurd (passes k x.2));
        good = (λ e. (passes f, passes g, passes k), λ x. refl);
      }

script_ordered : (s : List ℕ) → Ordered (header_at s) (script_of s) (BadHeader (length s) (header_at s)) (BadMap (header_at s)) (BadSections (length s) (header_at s))
unfolding script_of decided
script_ordered s =
    ordered (header_at s) (length_ok (length s) && counts_ok (header_at s)) (good_map (header_at s).base (header_at s).image) (sections_ok (length s) (header_at s))
    (header_fails (length s) (header_at s)) (map_fails (header_at s)) (sections_fail (length s) (header_at s))

pub meaning_holds : Meaning
meaning_holds =
    record {
      header = λ s. (script_ordered s).header;
      map = λ s. (script_ordered s).map;
      section = λ s. (script_ordered s).section;
      good = λ s. (script_ordered s).good;
      image_length = bytes_length;
      image_bytes = bytes_get_d;
      event_inside = λ s h k g e. (good_sound s h g).event_inside k e;
      image_is = λ s h g. image_is s h (good_sound s h g);
    }
