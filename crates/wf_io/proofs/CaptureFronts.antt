-- Proves what a sink contains after a text of two parts, or a prefix of it, was written.
use Rattle.std.proofs.Common.{◌≡◌, ℕ, ◌+◌, ◌≤◌, List, ◌++◌, length, take, refl, sym, ◌∙◌, ap, append_assoc, arith}
use Rattle.std.specs.Prelude.{Option, None, Some}
use Rattle.std.specs.Io.KnownBytes.{append_known}
use Rattle.std.proofs.lemmas.List.{take-append-le, length-append}
use Rattle.std.proofs.Math.Seq.{take-append-add}

-- a prefix of the text was written
abbrev pub HasFront : Option (List ℕ) → Option (List ℕ) → List ℕ → Type 0
HasFront old new text = (n : ℕ) × (n ≤ length text) × (new ≡ append_known old (take n text))

pub one_after_another : (held : Option (List ℕ)) (one two : List ℕ) →
    append_known (append_known held one) two ≡ append_known held (one ++ two)
one_after_another None one two = refl
one_after_another (Some xs) one two = ap Some (append_assoc xs one two)

pub front_of_first : (old new : Option (List ℕ)) (one two : List ℕ) → HasFront old new one →
    HasFront old new (one ++ two)
front_of_first old new one two front = (
  front.0,
  omega (arith, front.1, length-append one two),
  front.2 ∙ ap (append_known old) (sym (take-append-le front.0 one two front.1)),
)

pub front_of_second : (old now new : Option (List ℕ)) (one two : List ℕ) → now ≡ append_known old one →
    HasFront now new two → HasFront old new (one ++ two)
front_of_second old now new one two wrote front = (
  length one + front.0,
  omega (arith, front.1, length-append one two),
  front.2 ∙ ap (λ h. append_known h (take front.0 two)) wrote ∙ one_after_another old one (take front.0 two)
      ∙ ap (append_known old) (sym (take-append-add one two front.0)),
)
