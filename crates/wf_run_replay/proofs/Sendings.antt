-- Proves laws of octets that wait to be written: the octets written and those that still wait are together
-- the text.
use Rattle.std.proofs.Common.{◌≡◌, ℕ, List, [], ◌++◌, refl, sym, ◌∙◌, ap, append_assoc, append-nil}
use Rattle.std.specs.Prelude.{Option, Result, Ok, Err, OnOk}
use Rattle.std.specs.Io.KnownBytes.{append_known}
use Rattle.wf_io.specs.Fronts.{HoldsFront}
use Rattle.wf_trace_laws.specs.Leaving.{Leaves}
use Rattle.wf_trace_laws.proofs.Octets.{append_known-nil, append_known-append}

pub leaves_all : (held : Option (List ℕ)) (text : List ℕ) → Leaves held held text text
leaves_all held text = record { written = []; is = refl; holds = append_known-nil held }

pub leaves_more : (held held_new : Option (List ℕ)) (text rest line : List ℕ) →
    Leaves held held_new text rest → Leaves held held_new (text ++ line) (rest ++ line)
leaves_more held held_new text rest line some = record {
  written = some.written;
  is = ap (λ l. l ++ line) some.is ∙ append_assoc some.written rest line;
  holds = some.holds;
}

pub leaves_then : (held held_now held_new : Option (List ℕ)) (text rest left : List ℕ) →
    Leaves held held_now text rest → Leaves held_now held_new rest left → Leaves held held_new text left
leaves_then held held_now held_new text rest left first second = record {
  written = first.written ++ second.written;
  is = first.is ∙ ap (λ l. first.written ++ l) second.is
      ∙ sym (append_assoc first.written second.written left);
  holds = second.holds ∙ ap (λ h. append_known h second.written) first.holds
      ∙ append_known-append held first.written second.written;
}

pub front_more : (held held_new : Option (List ℕ)) (text line : List ℕ) → HoldsFront held held_new text →
    HoldsFront held held_new (text ++ line)
front_more held held_new text line some = record {
  written = some.written;
  rest = some.rest ++ line;
  is = ap (λ l. l ++ line) some.is ∙ append_assoc some.written some.rest line;
  holds = some.holds;
}

pub front_then : (held held_now held_new : Option (List ℕ)) (text rest : List ℕ) →
    Leaves held held_now text rest → HoldsFront held_now held_new rest → HoldsFront held held_new text
front_then held held_now held_new text rest first second = record {
  written = first.written ++ second.written;
  rest = second.rest;
  is = first.is ∙ ap (λ l. first.written ++ l) second.is
      ∙ sym (append_assoc first.written second.written second.rest);
  holds = second.holds ∙ ap (λ h. append_known h second.written) first.holds
      ∙ append_known-append held first.written second.written;
}

pub front_of_leaves : (held held_new : Option (List ℕ)) (text rest : List ℕ) →
    Leaves held held_new text rest → HoldsFront held held_new text
front_of_leaves held held_new text rest some =
    record { written = some.written; rest = rest; is = some.is; holds = some.holds }

-- No octet waits.
pub all_sent : (held held_new : Option (List ℕ)) (text : List ℕ) {rest : List ℕ} →
    Leaves held held_new text rest → rest ≡ [] → held_new ≡ append_known held text
all_sent held held_new text some none = some.holds
    ∙ ap (append_known held) (sym (some.is ∙ ap (λ l. some.written ++ l) none ∙ append-nil some.written))

-- A consequence of two facts that hold after success.
pub on_both : {T E P Q R : Type 0} (r : Result T E) → OnOk r P → OnOk r Q → (P → Q → R) → OnOk r R
on_both (Ok x) p q follows = follows p q
on_both (Err e) p q follows = tt

-- Everything that waits is written, and then a line.
pub then_written : (held held_now held_new : Option (List ℕ)) (text line : List ℕ) →
    held_now ≡ append_known held text → held_new ≡ append_known held_now line →
    held_new ≡ append_known held (text ++ line)
then_written held held_now held_new text line first second =
    second ∙ ap (λ h. append_known h line) first ∙ append_known-append held text line

pub then_front : (held held_now held_new : Option (List ℕ)) (text line : List ℕ) →
    held_now ≡ append_known held text → HoldsFront held_now held_new line →
    HoldsFront held held_new (text ++ line)
then_front held held_now held_new text line first second =
    front_then held held_now held_new (text ++ line) line
    (record { written = text; is = refl; holds = first }) second
