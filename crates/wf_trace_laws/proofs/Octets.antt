-- Laws of octets that are read and written, one text after another.
use Rattle.std.proofs.Common.{◌≡◌, ℕ, ◌≤◌, List, [], ◌++◌, length, take, drop, Bool, true, refl, sym, ◌∙◌, ap, append_assoc, append-nil}
use Rattle.std.specs.Prelude.{Option, Some, None, IsSome}
use Rattle.std.specs.Io.KnownBytes.{prepend_known, append_known}
use Rattle.std.proofs.lemmas.List.{take-append-drop}
use Rattle.wf_trace.specs.declared.fault.End.{End}
use Rattle.wf_trace.specs.Cutting.{Fits}
use Rattle.wf_io.specs.Fronts.{HoldsFront}
use Rattle.wf_trace_laws.specs.Leaving.{Leaves}

pub append_known-nil : (held : Option (List ℕ)) → held ≡ append_known held []
append_known-nil None = refl
append_known-nil (Some xs) = ap Some (sym (append-nil xs))

pub append_known-append : (held : Option (List ℕ)) (one two : List ℕ) →
    append_known (append_known held one) two ≡ append_known held (one ++ two)
append_known-append None one two = refl
append_known-append (Some xs) one two = ap Some (append_assoc xs one two)

pub prepend_known-nil : (left : Option (List ℕ)) → left ≡ prepend_known [] left
prepend_known-nil None = refl
prepend_known-nil (Some xs) = refl

pub prepend_known-append : (one two : List ℕ) (left : Option (List ℕ)) →
    prepend_known one (prepend_known two left) ≡ prepend_known (one ++ two) left
prepend_known-append one two None = refl
prepend_known-append one two (Some xs) = ap Some (sym (append_assoc one two xs))

pub told : (taken : List ℕ) (left_now : Option (List ℕ)) (input : List ℕ) →
    Some input ≡ prepend_known taken left_now → (left : List ℕ) × (left_now ≡ Some left) ×
    (input ≡ taken ++ left)
told taken None input is = absurd (cc)
told taken (Some left) input is = (left, refl, cc)

pub fits_back : (old new : Option End) (left_now left_new : Option (List ℕ)) (octets : List ℕ) (closed : Bool)
    (more : List ℕ) → (IsSome old → IsSome new) → left_now ≡ prepend_known octets left_new →
    Fits new left_new closed more → Fits old left_now closed (octets ++ more)
fits_back None new left_now left_new octets closed more sticky taken fits = tt
fits_back (Some end) None left_now left_new octets closed more sticky taken fits =
    absurd (let bad = sticky (refl) in cc)
fits_back (Some end) (Some other) left_now left_new octets closed more sticky taken fits =
    (fits.0, taken ∙ rw (fits.1) refl)

pub fits_rest : (end : Option End) (left : List ℕ) → Fits end (Some left) true left
fits_rest None left = tt
fits_rest (Some end) left = (refl, refl)

-- a part of a line was written
pub partly : (line : List ℕ) (held held_new : Option (List ℕ)) → (n : ℕ) × (n ≤ length line) ×
    (held_new ≡ append_known held (take n line)) → HoldsFront held held_new line
partly line held held_new some = record {
  written = take some.0 line;
  rest = drop some.0 line;
  is =
      sym (take-append-drop some.0 line);
  holds = some.2;
}

-- nothing is left of a text that was written completely
pub leaves_none : (held held_new : Option (List ℕ)) (text : List ℕ) → held_new ≡ append_known held text →
    Leaves held held_new text []
leaves_none held held_new text wrote = record { written = text; is = sym (append-nil text); holds = wrote }
