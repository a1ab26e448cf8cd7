-- Laws of the prefixes of a history: their lines, and their ranges, entry by entry.
use Rattle.std.proofs.Common.{◌≡◌, ℕ, zero, suc, ◌+◌, ◌≤◌, List, [], ◌∷◌, ◌++◌, length, length-append, take, drop, refl, sym, ◌∙◌, ap, subst, append_assoc, append-nil, arith}
use Rattle.std.specs.Prelude.{Option, Some, slice_get}
use Rattle.std.proofs.lemmas.List.{take-append-drop}
use Rattle.wf_frame.specs.declared.notes.Note.{Note}
use Rattle.wf_trace.specs.Meanings.{greatest_caller}
use Rattle.wf_trace.specs.Printing.{note_text, note_line, NumbersAreInRange, IsPrintable}
use Rattle.wf_def_world.specs.Run.{Entry}
use Rattle.wf_io.specs.Fronts.{HoldsFront}
use Rattle.wf_io.proofs.FrontLaws.{front_first, take_got}
use Rattle.wf_trace.specs.Traces.{entry_lines, CanBeNamed, ArePrintable}

lines-append : (one two : List Entry) → entry_lines (one ++ two) ≡ entry_lines one ++ entry_lines two
lines-append [] two = refl
lines-append (e ∷ es) two = ap (λ l. note_line e.0 e.1 ++ l) (lines-append es two)
    ∙ sym (append_assoc (note_line e.0 e.1) (entry_lines es) (entry_lines two))

-- one more line
pub lines-more : (es : List Entry) (i : ℕ) (e : Entry) (front out : List ℕ) → slice_get es i ≡ Some e →
    front ++ out ≡ entry_lines (take i es) →
    front ++ (out ++ note_line e.0 e.1) ≡ entry_lines (take (i + 1) es)
lines-more es i e front out at is =
    sym (append_assoc front out (note_line e.0 e.1)) ∙ ap (λ l. l ++ note_line e.0 e.1) is
    ∙ ap (λ l. entry_lines (take i es) ++ l) (sym (append-nil (note_line e.0 e.1)))
    ∙ sym (lines-append (take i es) (e ∷ [])) ∙ ap entry_lines (sym (take_got es i e at))

range-append : (one : List Entry) (e : Entry) → CanBeNamed one → (e.0 ≤ greatest_caller) ×
    NumbersAreInRange e.1 → CanBeNamed (one ++ e ∷ [])
range-append [] e are is = (is, tt)
range-append (x ∷ es) e are is = (are.0, range-append es e are.1 is)

pub range-more : (es : List Entry) (i : ℕ) (e : Entry) → slice_get es i ≡ Some e → e.0 ≤ greatest_caller →
    NumbersAreInRange e.1 → CanBeNamed (take i es) → CanBeNamed (take (i + 1) es)
range-more es i e at caller note are = subst (λ l. CanBeNamed l) (sym (take_got es i e at))
    (range-append (take i es) e are (caller, note))

pub printable-at : (es : List Entry) (i : ℕ) (e : Entry) → slice_get es i ≡ Some e → ArePrintable es →
    (e.0 ≤ greatest_caller) × IsPrintable e.1
printable-at [] i e at are = absurd (cc)
printable-at (x ∷ es) zero e at are =
    let same : x ≡ e = cc in subst (λ (y : Entry). (y.0 ≤ greatest_caller) × IsPrintable y.1) same are.0
printable-at (x ∷ es) (suc i) e at are = printable-at es i e at are.1

pub line-short : (caller : ℕ) (note : Note) → length (note_text caller note) ≤ 160 →
    length (note_line caller note) ≤ 161
line-short caller note short = let all = length-append (note_text caller note) (10 ∷ []) in omega arith

-- a part of the lines of a prefix is a part of all lines
pub lines-front : {old new : Option (List ℕ)} (es : List Entry) (from to : ℕ) (lines : List ℕ) →
    entry_lines (take from es) ++ lines ≡ entry_lines (take to es) →
    HoldsFront old new (entry_lines (take from es) ++ lines) → HoldsFront old new (entry_lines es)
lines-front {old} {new} es from to lines is front =
    let all : entry_lines (take to es) ++ entry_lines (drop to es) ≡ entry_lines es =
    sym (lines-append (take to es) (drop to es)) ∙ ap entry_lines (take-append-drop to es) in
    subst (λ l. HoldsFront old new l) all (front_first old new (entry_lines (take to es))
    (entry_lines (drop to es)) (subst (λ l. HoldsFront old new l) is front))
