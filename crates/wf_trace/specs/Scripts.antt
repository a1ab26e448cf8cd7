-- Defines scripts: lines, cut and numbered as those of a trace, each of which is an event, up to the line
-- `end`.
use Rattle.std.specs.Prelude.{ℕ, ◌+◌, List, [], ◌∷◌, codes, Bool, false, nat_le, if◌then◌else◌, Option, Some, None, Result, Ok, Err}
use Rattle.std.specs.Str.{bytes_eq}
use Rattle.wf_trace.specs.declared.cut.Piece.{Piece}
use Rattle.wf_trace.specs.declared.cut.Piece.TheVariants.{Text, Ended}
use Rattle.wf_trace.specs.declared.cut.Piece.TheVariants.{Bad as Flawed}
use Rattle.wf_trace.specs.declared.fault.FaultKind.{FaultKind}
use Rattle.wf_trace.specs.declared.fault.FaultKind.TheVariants.{Count, NoEnd, TooLong}
use Rattle.wf_trace.specs.Pieces.{Numbered, Pieces, pieces}
use Rattle.wf_trace.specs.Words.{words}
use Rattle.wf_trace.specs.declared.script.ending.Ending.{Ending}
use Rattle.wf_trace.specs.declared.script.ending.Ending.TheVariants.{Finish, Bad}

-- the events of a script, in order, and how it ends, once known
pub record Script (E : Type 0) : Type 0 where
  pub events : List E
  pub ending : Option Ending

-- the grammar of a script: the meaning of an event's line, or its first fault; and the most events of a
-- script, if there is a limit
pub record Grammar (E : Type 0) : Type 0 where
  pub meant : List (List ℕ) → Result E FaultKind
  pub most : Option ℕ

-- an event before others
abbrev pub with_event : {E : Type 0} → E → Script E → Script E
with_event event others = record { events = event ∷ others.events; ending = others.ending }

abbrev pub ends : {E : Type 0} → Ending → Script E
ends ending = record { events = []; ending = Some ending }

abbrev pub bad : ℕ → FaultKind → Ending
bad line kind = Bad (record { line = line; kind = kind })

-- whether a line begins with the word `end`; it must have no other word
abbrev pub is_end : List (List ℕ) → Bool
is_end [] = false
is_end (word ∷ others) = bytes_eq word (codes "end")

abbrev pub ended : ℕ → List (List ℕ) → Ending
ended line [] = bad line Count
ended line (word ∷ []) = Finish
ended line (word ∷ other ∷ others) = bad line Count

-- an event after `count` others: another fault of its line comes before the fault that it is one too many
abbrev pub within : {E : Type 0} → Option ℕ → ℕ → Result E FaultKind → Result E FaultKind
within most count (Err kind) = Err kind
within None count (Ok event) = Ok event
within (Some most) count (Ok event) = if nat_le most count then Err TooLong else Ok event

-- the meaning of a line before that of the other lines
abbrev pub script_told : {E : Type 0} → ℕ → Result E FaultKind → Script E → Script E
script_told line (Ok event) others = with_event event others
script_told line (Err kind) others = ends (bad line kind)

-- the lines are over, and none was `end`
abbrev pub stopped : {E : Type 0} → Option Piece → Script E
stopped None = record { events = []; ending = None }
stopped (Some (Ended line)) = ends (bad line NoEnd)
stopped (Some (Flawed fault)) = ends (Bad fault)
stopped (Some (Text line)) = record { events = []; ending = None }

-- what lines say after `count` events
abbrev pub read_lines : {E : Type 0} → Grammar E → ℕ → List Numbered → Option Piece → Script E
read_lines g count [] ending = stopped ending
read_lines g count (line ∷ lines) ending =
    if is_end (words line.octets) then ends (ended line.line (words line.octets))
    else script_told line.line (within g.most count (g.meant (words line.octets)))
    (read_lines g (count + 1) lines ending)

-- what octets say as a script; if closed, the input ends with them
abbrev pub script : {E : Type 0} → Grammar E → Bool → List ℕ → Script E
script g closed octets = let p : Pieces = pieces closed octets in read_lines g 0 p.lines p.ending
