-- Proves laws of octets that are read, and of octets that are written, one part after another.
use Rattle.std.proofs.Common.{◌≡◌, ℕ, ◌+◌, ◌≤◌, List, [], ◌++◌, length, take, refl, sym, ◌∙◌, ap, subst, append_assoc, append-nil, arith, length-append}
use Rattle.std.specs.Prelude.{Option, Some, None}
use Rattle.std.specs.Io.KnownBytes.{prepend_known, append_known, IsAtEnd}
use Rattle.std.proofs.lemmas.List.{length-take-le, take-append-le}
use Rattle.std.proofs.Math.Seq.{take-append-add}
use borrow.Rule.Slice.PartMut.{put_mid, post_of}

pub taken_none : (left : Option (List ℕ)) → left ≡ prepend_known [] left
taken_none None = refl
taken_none (Some xs) = refl

pub taken_more : (one two : List ℕ) (left now new : Option (List ℕ)) → left ≡ prepend_known one now →
    now ≡ prepend_known two new → left ≡ prepend_known (one ++ two) new
taken_more one two left now None first second = first ∙ ap (prepend_known one) second
taken_more one two left now (Some xs) first second =
    first ∙ ap (prepend_known one) second ∙ ap Some (sym (append_assoc one two xs))

pub written_none : (held : Option (List ℕ)) → held ≡ append_known held []
written_none None = refl
written_none (Some xs) = ap Some (sym (append-nil xs))

pub written_more : (one two : List ℕ) (held now new : Option (List ℕ)) → now ≡ append_known held one →
    new ≡ append_known now two → new ≡ append_known held (one ++ two)
written_more one two None now new first second = second ∙ ap (λ h. append_known h two) first
written_more one two (Some xs) now new first second =
    second ∙ ap (λ h. append_known h two) first ∙ ap Some (append_assoc xs one two)

-- The rest of a known input.
pub rest_of : (taken : List ℕ) (left now : Option (List ℕ)) (input : List ℕ) → left ≡ Some input →
    left ≡ prepend_known taken now → (more : List ℕ) × (now ≡ Some more) × (input ≡ taken ++ more)
rest_of taken left None input told took = absurd (let e : Some input ≡ None = sym told ∙ took in cc)
rest_of taken left (Some more) input told took =
    (more, refl, let e : Some input ≡ Some (taken ++ more) = sym told ∙ took in cc)

-- An input that has ended has no rest.
pub ended : (left : Option (List ℕ)) (more : List ℕ) → IsAtEnd left → left ≡ Some more → more ≡ []
ended left more over told = subst (λ (l : Option (List ℕ)). IsAtEnd l) told over

-- If nothing was read at the end of the input, it is still the end.
pub still_ended : (left now : Option (List ℕ)) → IsAtEnd left → left ≡ prepend_known [] now → IsAtEnd now
still_ended left None over took = tt
still_ended left (Some xs) over took = subst (λ (l : Option (List ℕ)). IsAtEnd l) took over

-- Octets are written to a buffer after others.
pub put_long : (at n k : ℕ) (xs ys : List ℕ) → at ≤ length xs → n ≤ length ys →
    at + n ≤ length (put_mid at k xs ys)
put_long at n k xs ys fits few =
    omega (
      arith,
      length-append (take at xs) (ys ++ post_of at k xs),
      length-append ys (post_of at k xs),
      length-take-le at xs fits,
    )

pub put_more : (at n k : ℕ) (xs ys : List ℕ) → at ≤ length xs → n ≤ length ys →
    take (at + n) (put_mid at k xs ys) ≡ take at xs ++ take n ys
put_more at n k xs ys fits few =
    ap (λ m. take (m + n) (take at xs ++ (ys ++ post_of at k xs))) (sym (length-take-le at xs fits))
    ∙ take-append-add (take at xs) (ys ++ post_of at k xs) n
    ∙ ap (λ t. take at xs ++ t) (take-append-le n ys (post_of at k xs) few)
