-- Laws of the octets that a sink holds, as one text is written after another.
use Rattle.std.proofs.Common.{◌≡◌, ℕ, ◌≤◌, List, [], ◌++◌, length, take, drop, refl, sym, ap, append_assoc, append-nil}
use Rattle.std.specs.Prelude.{Option, Some, None}
use Rattle.std.specs.Io.KnownBytes.{append_known}
use Rattle.std.proofs.lemmas.List.{take-append-drop}
use Rattle.wf_io.specs.Fronts.{HoldsFront}

pub append_known-nil : (held : Option (List ℕ)) → held ≡ append_known held []
append_known-nil None = refl
append_known-nil (Some xs) = ap Some (sym (append-nil xs))

pub append_known-append : (held : Option (List ℕ)) (one two : List ℕ) →
    append_known (append_known held one) two ≡ append_known held (one ++ two)
append_known-append None one two = refl
append_known-append (Some xs) one two = ap Some (append_assoc xs one two)

-- a part of a line was written
pub partly : (line : List ℕ) (held held_new : Option (List ℕ)) → (n : ℕ) × (n ≤ length line) ×
    (held_new ≡ append_known held (take n line)) → HoldsFront held held_new line
partly line held held_new some = record {
  written = take some.0 line;
  rest = drop some.0 line;
  is =
      sym (take-append-drop some.0 line);
  holds = some.2;
}
