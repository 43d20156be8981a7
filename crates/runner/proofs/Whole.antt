-- An input that is longer than the buffer has the listing of its front: both are refused. Assumes nothing.
use Rattle.std.specs.Prelude.{◌≡◌, ℕ, ◌<◌, Bool, true, false, ◌&&◌, List, length, take, None, Some, IfSome, refl}
use Rattle.std.proofs.Common.{inl, inr, sym, ◌∙◌, ap, subst, arith, nat_le}
use Rattle.std.specs.declared.option.Option.{Option}
use borrow.Author.Tests.{lt-leb}
use Rattle.std.specs.Io.KnownBytes.{Appends}
use Rattle.std.proofs.lemmas.Bool.Decides.{leb_tells}
use Rattle.std.proofs.lemmas.List.{take_all, length-take-le}
use Rattle.common.specs.Refusal.{refusal_number}
use Rattle.common.specs.declared.Refusal.TheVariants as refusal
use Rattle.listing.specs.Listing.{refused_text}
use Rattle.machine.specs.Run.{listed, listing_of}
use Rattle.script.specs.Header.{header_least, length_ok, decided, script_of}

and_false : (a : Bool) → (a && false) ≡ false
and_false true = refl
and_false false = refl

too_long : (n : ℕ) → 61440 < n → length_ok n ≡ false
unfolding length_ok
too_long n h = rw (lt-leb n 61440 h) (and_false (nat_le header_least n))

refused_long : (s : List ℕ) → 61440 < length s → listing_of s ≡ refused_text (refusal_number refusal.Header)
unfolding listing_of listed script_of decided
refused_long s h = rw (too_long (length s) h)

pub listing_cut : (s : List ℕ) → listing_of (take 65536 s) ≡ listing_of s
listing_cut s =
    elim (leb_tells (length s) 65536) [
      | inl h ↦ ap listing_of (take_all 65536 s h.1)
      | inr h ↦
          let k : length (take 65536 s) ≡ 65536 = length-take-le 65536 s (omega arith) in
          refused_long (take 65536 s) (omega arith) ∙ sym (refused_long s (omega arith))
    ]

-- what was written of the part that was read is the whole input's listing
pub shown : (a b c : Option (List ℕ)) (part buf : List ℕ) → length buf ≡ 65536 → IfSome a (λ s. part ≡ take (length buf) s) → Appends b c (listing_of part)
    → IfSome a (λ s. Appends b c (listing_of s))
shown None b c part buf k e p = tt
shown (Some s) b c part buf k e p = subst (Appends b c) (ap listing_of (e ∙ ap (λ (n : ℕ). take n s) k) ∙ listing_cut s) p
