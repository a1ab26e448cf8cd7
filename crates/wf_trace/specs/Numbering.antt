-- Defines what contracts see of a cutter of numbered lines, and what a call of it returns.
use Rattle.std.specs.Prelude.{◌≡◌, ℕ, List, [], ◌++◌, Bool, true, false, Option, Some, None, Result, Ok, Err}
use Rattle.std.specs.Io.KnownBytes.{prepend_known}
use Rattle.wf_io.specs.declared.source.Failed.{Failed}
use Rattle.wf_trace.specs.declared.cut.Piece.{Piece}
use Rattle.wf_trace.specs.declared.cut.Piece.TheVariants.{Text, Ended, Bad}
use Rattle.wf_trace.specs.Lines.{Texts}
use Rattle.wf_trace.specs.Pieces.{Pieces, with_line, pieces_from}
use Rattle.wf_trace.specs.Cutting.{Cutting, to_come, Fits, will_read as will_cut}

-- a cutter of lines, the number of its next line, and the piece that ended the input, once it was returned
pub record Numbering : Type 0 where
  pub cutter : Cutting
  pub line : ℕ
  pub ended : Option Piece

-- the pieces that are still to come, given the texts, the first of which has this number
abbrev pub pieces_left_of : Option Piece → ℕ → Texts → Pieces
pieces_left_of (Some piece) line t = record { lines = []; ending = Some piece }
pieces_left_of None line t = pieces_from line t.texts t.ending

-- the pieces that are still to come if these octets follow; if closed, the input ends with them
abbrev pub pieces_left : Numbering → Bool → List ℕ → Pieces
pieces_left c closed more = pieces_left_of c.ended c.line (to_come c.cutter closed more)

-- the octets of the line that was cut last
abbrev pub line_of : Numbering → List ℕ
line_of c = c.cutter.scanner.line

-- the last call returned a line
pub record HasText (c : Numbering) : Type 0 where
  pub given : c.cutter.given ≡ true
  pub open_ : c.ended ≡ None

-- nothing waits, and the line that has begun has not ended: a failed call leaves the cutter so
pub record HasNoLine (c : Numbering) : Type 0 where
  pub waiting : c.cutter.scanner.waiting ≡ []
  pub given : c.cutter.given ≡ false
  pub going : c.cutter.ended ≡ None
  pub open_ : c.ended ≡ None

-- a fact that holds if a call returned a line
abbrev pub OnText : Result Piece Failed → Type 0 → Type 0
OnText (Ok (Text line)) fact = fact
OnText (Ok (Ended line)) fact = Unit {0}
OnText (Ok (Bad fault)) fact = Unit {0}
OnText (Err failed) fact = Unit {0}

-- how the pieces before a call follow from its result and the pieces after it
abbrev pub GivesPiece : Result Piece Failed → Numbering → Pieces → Pieces → Type 0
GivesPiece (Ok (Text line)) new before after = before ≡ with_line line (line_of new) after
GivesPiece (Ok (Ended line)) new before after = (new.ended ≡ Some (Ended line)) × (before ≡ after)
GivesPiece (Ok (Bad fault)) new before after = (new.ended ≡ Some (Bad fault)) × (before ≡ after)
GivesPiece (Err failed) new before after = before ≡ after

-- the octets that a call read, and the pieces that it returned of them
pub record Cuts (old : Numbering) (left : Option (List ℕ)) (result : Result Piece Failed)
    (new : Numbering) (left_new : Option (List ℕ)) (octets : List ℕ) : Type 0 where
  pub taken : left ≡ prepend_known octets left_new
  pub gives : (closed : Bool) (more : List ℕ) → Fits new.cutter.ended left_new closed more →
      GivesPiece result new (pieces_left old closed (octets ++ more)) (pieces_left new closed more)

-- the piece can end an input, if it is known
abbrev pub IsLastPiece : Option Piece → Type 0
IsLastPiece None = Unit {0}
IsLastPiece (Some (Text line)) = ⊥
IsLastPiece (Some (Ended line)) = Unit {0}
IsLastPiece (Some (Bad fault)) = Unit {0}

-- whether the next call may read the source: it does not if the end is known, or if a whole line waits that
-- is not skipped
abbrev pub will_read_of : Option Piece → Cutting → Bool
will_read_of None cutter = will_cut cutter
will_read_of (Some piece) cutter = false

-- the same for a cutter of numbered lines
abbrev pub will_read : Numbering → Bool
will_read c = will_read_of c.ended c.cutter
