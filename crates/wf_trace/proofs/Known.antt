-- Proves that it is known how a script ends once its input has ended, by induction over its lines.
use Rattle.std.proofs.Common.{ℕ, ◌+◌, List, [], ◌∷◌, true, false, cond}
use Rattle.std.specs.Prelude.{Option, Some, None, Result, Ok, Err}
use Rattle.wf_trace.specs.declared.cut.Piece.{Piece}
use Rattle.wf_trace.specs.declared.cut.Piece.TheVariants.{Text, Ended}
use Rattle.wf_trace.specs.declared.cut.Piece.TheVariants.{Bad as Flawed}
use Rattle.wf_trace.specs.declared.fault.End.{End}
use Rattle.wf_trace.specs.declared.fault.End.TheVariants.{Over, Flaw}
use Rattle.wf_trace.specs.declared.fault.FaultKind.{FaultKind}
use Rattle.wf_trace.specs.Lines.{Line, Texts, before_texts, flaw, lines, texts_of}
use Rattle.wf_trace.specs.Pieces.{Numbered, Pieces, pieces, pieces_from, with_line, ending_piece}
use Rattle.wf_trace.specs.Words.{words, skipped}
use Rattle.wf_trace.specs.Scripts.{Script, Grammar, script, read_lines, script_told, within, is_end, ends, ended}

abbrev pub Known : {T : Type 0} → Option T → Type 0
Known None = ⊥
Known (Some thing) = Unit {0}

-- the texts of a closed input have an ending
before_known : (fault : Option FaultKind) (text : List ℕ) (others : Texts) → Known others.ending →
    Known (before_texts fault text others).ending
before_known None text others is = is
before_known (Some kind) text others is = tt

texts_known : (ls : List Line) → Known (texts_of true ls).ending
texts_known [] = tt
texts_known (line ∷ others) = before_known (flaw line.end line.octets) line.octets (texts_of true others)
    (texts_known others)

-- its pieces have an ending, which is no line
abbrev pub EndsInput : Option Piece → Type 0
EndsInput None = ⊥
EndsInput (Some (Text line)) = ⊥
EndsInput (Some (Ended line)) = Unit {0}
EndsInput (Some (Flawed fault)) = Unit {0}

ending_known : (line : ℕ) (end : Option End) → Known end → EndsInput (ending_piece line end)
ending_known line None is = absurd is
ending_known line (Some Over) is = tt
ending_known line (Some (Flaw kind)) is = tt

from_known : (line : ℕ) (texts : List (List ℕ)) (end : Option End) → Known end →
    EndsInput (pieces_from line texts end).ending
from_known line [] end is = ending_known line end is
from_known line (text ∷ texts) end is =
    let others = from_known (line + 1) texts end is in
    elim (skipped (words text)) as (λ b. let p : Pieces =
    cond b (pieces_from (line + 1) texts end) (with_line line text (pieces_from (line + 1) texts end)) in
    EndsInput p.ending) [ true ↦ others | false ↦ others ]

pub pieces_known : (input : List ℕ) → EndsInput (pieces true input).ending
pieces_known input =
    let t : Texts = texts_of true (lines true 0 input) in
    from_known 1 t.texts t.ending (texts_known (lines true 0 input))

-- and the script has an ending
told_known : {E : Type 0} (line : ℕ) (read : Result E FaultKind) (others : Script E) → Known others.ending →
    Known (script_told line read others).ending
told_known line (Ok event) others is = is
told_known line (Err kind) others is = tt

lines_known : {E : Type 0} (g : Grammar E) (count : ℕ) (ls : List Numbered) (ending : Option Piece) →
    EndsInput ending → Known (read_lines g count ls ending).ending
lines_known g count [] None is = absurd is
lines_known g count [] (Some (Text line)) is = absurd is
lines_known g count [] (Some (Ended line)) is = tt
lines_known g count [] (Some (Flawed fault)) is = tt
lines_known {E} g count (line ∷ ls) ending is =
    let others = told_known line.line (within g.most count (g.meant (words line.octets)))
    (read_lines g (count + 1) ls ending) (lines_known g (count + 1) ls ending is) in
    elim (is_end (words line.octets)) as (λ b. let s : Script E =
    cond b (ends (ended line.line (words line.octets)))
    (script_told line.line (within g.most count (g.meant (words line.octets)))
    (read_lines g (count + 1) ls ending)) in Known s.ending) [ true ↦ tt | false ↦ others ]

pub known : {E : Type 0} (g : Grammar E) (input : List ℕ) → Known (script g true input).ending
known g input =
    let p : Pieces = pieces true input in
    lines_known g 0 p.lines p.ending (pieces_known input)
