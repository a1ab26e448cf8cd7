-- Proves laws of prefixes, for texts that are written piece by piece.
use Rattle.std.proofs.Common.{◌≡◌, ℕ, zero, suc, ◌+◌, ◌≤◌, List, [], ◌∷◌, ◌++◌, length, take, drop, refl, sym, ◌∙◌, ap, append_assoc, append-nil, arith}
use Rattle.std.specs.Prelude.{Option, None, Some, slice_get}
use Rattle.std.specs.Io.KnownBytes.{append_known}
use Rattle.std.proofs.lemmas.List.{take-append-drop}
use Rattle.wf_io.specs.Fronts.{HoldsFront}

pub take_got : {X : Type 0} → (xs : List X) (i : ℕ) (x : X) → slice_get xs i ≡ Some x →
    take (i + 1) xs ≡ take i xs ++ x ∷ []
take_got [] i x is = absurd (cc)
take_got (y ∷ ys) zero x is = let same : y ≡ x = (cc) in ap (λ z. z ∷ []) same
take_got (y ∷ ys) (suc i) x is =
    let next : suc i + 1 ≡ suc (i + 1) = omega arith in
    rw next (ap (λ l. y ∷ l) (take_got ys i x is))

pub append_known-nil : (held : Option (List ℕ)) → append_known held [] ≡ held
append_known-nil None = refl
append_known-nil (Some xs) = ap Some (append-nil xs)

pub append_known-append : (held : Option (List ℕ)) (one two : List ℕ) →
    append_known (append_known held one) two ≡ append_known held (one ++ two)
append_known-append None one two = refl
append_known-append (Some xs) one two = ap Some (append_assoc xs one two)

pub front_partly : (line : List ℕ) (old new : Option (List ℕ)) → (n : ℕ) × (n ≤ length line) ×
    (new ≡ append_known old (take n line)) → HoldsFront old new line
front_partly line old new some = record {
  written = take some.0 line;
  rest = drop some.0 line;
  is =
      sym (take-append-drop some.0 line);
  holds = some.2;
}

pub front_first : (old new : Option (List ℕ)) (one two : List ℕ) → HoldsFront old new one →
    HoldsFront old new (one ++ two)
front_first old new one two front = record {
  written = front.written;
  rest = front.rest ++ two;
  is = ap (λ l. l ++ two) front.is ∙ append_assoc front.written front.rest two;
  holds = front.holds;
}

pub front_next : (old now new : Option (List ℕ)) (one two : List ℕ) → now ≡ append_known old one →
    HoldsFront now new two → HoldsFront old new (one ++ two)
front_next old now new one two wrote front = record {
  written = one ++ front.written;
  rest = front.rest;
  is = ap (λ l. one ++ l) front.is ∙ sym (append_assoc one front.written front.rest);
  holds = front.holds ∙ ap (λ h. append_known h front.written) wrote
      ∙ append_known-append old one front.written;
}

pub front_whole : (old new : Option (List ℕ)) (one : List ℕ) → new ≡ append_known old one →
    HoldsFront old new one
front_whole old new one wrote = record { written = one; rest = []; is = sym (append-nil one); holds = wrote }

pub two_written : (old now new : Option (List ℕ)) (one two : List ℕ) → now ≡ append_known old one →
    new ≡ append_known now two → new ≡ append_known old (one ++ two)
two_written old now new one two first second =
    second ∙ ap (λ h. append_known h two) first ∙ append_known-append old one two

pub three_written : (old now later new : Option (List ℕ)) (one two three : List ℕ) →
    now ≡ append_known old one → later ≡ append_known now two → new ≡ append_known later three →
    new ≡ append_known old ((one ++ two) ++ three)
three_written old now later new one two three first second third =
    two_written old later new (one ++ two) three (two_written old now later one two first second) third
