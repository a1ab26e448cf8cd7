-- Defines the lines of a trace that are not skipped, with their numbers, and how the input ends.
use Rattle.std.specs.Prelude.{ℕ, ◌+◌, List, [], ◌∷◌, Bool, if◌then◌else◌, Option, Some, None}
use Rattle.wf_trace.specs.declared.fault.End.{End}
use Rattle.wf_trace.specs.declared.fault.End.TheVariants.{Over, Flaw}
use Rattle.wf_trace.specs.declared.cut.Piece.{Piece}
use Rattle.wf_trace.specs.declared.cut.Piece.TheVariants.{Ended, Bad}
use Rattle.wf_trace.specs.Lines.{Texts, lines, texts_of}
use Rattle.wf_trace.specs.Words.{words, skipped}

-- a line that is not skipped: its number, counted from 1, and its octets
pub record Numbered : Type 0 where
  pub line : ℕ
  pub octets : List ℕ

-- the lines that are not skipped, in order, and the piece that ends them, once known
pub record Pieces : Type 0 where
  pub lines : List Numbered
  pub ending : Option Piece

-- a line before others
abbrev pub with_line : ℕ → List ℕ → Pieces → Pieces
with_line line octets others = record {
  lines = record { line = line; octets = octets } ∷ others.lines;
  ending = others.ending;
}

-- the piece that ends an input, if the line with this number is the first that cannot be cut
abbrev pub ending_piece : ℕ → Option End → Option Piece
ending_piece line None = None
ending_piece line (Some Over) = Some (Ended line)
ending_piece line (Some (Flaw kind)) = Some (Bad (record { line = line; kind = kind }))

-- the pieces of lines, the first of which has this number
abbrev pub pieces_from : ℕ → List (List ℕ) → Option End → Pieces
pieces_from line [] end = record { lines = []; ending = ending_piece line end }
pieces_from line (text ∷ texts) end =
    if skipped (words text) then pieces_from (line + 1) texts end
    else with_line line text (pieces_from (line + 1) texts end)

-- the pieces of an input; if closed, it ends with these octets
abbrev pub pieces : Bool → List ℕ → Pieces
pieces closed octets =
    let t : Texts = texts_of closed (lines closed 0 octets) in
    pieces_from 1 t.texts t.ending
