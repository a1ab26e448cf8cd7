-- Defines what a trace says: its head, its calls and its ending.
use Rattle.std.specs.Prelude.{ℕ, List, [], ◌∷◌, ◌++◌, Bool, not, if◌then◌else◌, Option, Some, None, Result, Ok, Err, option_map, count_by}
use Rattle.wf_frame.specs.declared.settings.Config.{Config}
use Rattle.wf_trace.specs.declared.fault.FaultKind.{FaultKind}
use Rattle.wf_trace.specs.declared.fault.FaultKind.TheVariants.{NoHead, NoEnd}
use Rattle.wf_trace.specs.declared.cut.Piece.{Piece}
use Rattle.wf_trace.specs.declared.cut.Piece.TheVariants as piece
use Rattle.wf_trace.specs.declared.meaning.Meaning.{Meaning}
use Rattle.wf_trace.specs.declared.meaning.Meaning.TheVariants as meaning
use Rattle.wf_trace.specs.declared.meaning.Place.{Place}
use Rattle.wf_trace.specs.declared.reader.Item.{Item}
use Rattle.wf_trace.specs.declared.reader.Item.TheVariants.{Head, Entry, Finish, Bad}
use Rattle.wf_trace.specs.Pieces.{Numbered, Pieces, pieces}
use Rattle.wf_trace.specs.Words.{words}
use Rattle.wf_trace.specs.Meanings.{meant, is_head, settings_of}

-- the head and the calls in order, and how the trace ends, once known
pub record Reading : Type 0 where
  pub items : List Item
  pub ending : Option Item

-- an item before others
abbrev pub with_item : Item → Reading → Reading
with_item item reading = record { items = item ∷ reading.items; ending = reading.ending }

-- no item, but this ending
abbrev pub reading_that_ends : Item → Reading
reading_that_ends item = record { items = []; ending = Some item }

-- a fault of this kind on a line
abbrev pub bad : ℕ → FaultKind → Item
bad line kind = Bad (record { line = line; kind = kind })

-- the settings of a line, if it is a head
abbrev pub head_of : List (List ℕ) → Option Config
head_of ws = if is_head ws then settings_of ws else None

-- the first if it is there, otherwise the other
abbrev pub first_some : Option Config → Option Config → Option Config
first_some None other = other
first_some (Some config) other = Some config

-- the settings of the first head among lines
abbrev pub head_among : List Numbered → Option Config
head_among [] = None
head_among (line ∷ lines) = first_some (head_of (words line.octets)) (head_among lines)

-- whether a line is a call. A line without a fault, before the line `end`, is a head or a call.
abbrev pub is_call : Numbered → Bool
is_call line = not (is_head (words line.octets))

-- the place after these lines, which have no fault: None without a head, otherwise its limit of calls and
-- how many came
abbrev pub place_behind : List Numbered → Option Place
place_behind front =
    option_map (λ (c : Config). record { limit = c.calls; count = count_by is_call front }) (head_among front)

-- the fault of an input that ends here: a head or an end is missing
abbrev pub missing : Option Place → FaultKind
missing None = NoHead
missing (Some place) = NoEnd

-- no further line comes, by the piece that ends the input; a text does not end it
abbrev pub stopped : Option Place → Option Piece → Reading
stopped place None = record { items = []; ending = None }
stopped place (Some (piece.Text line)) = record { items = []; ending = None }
stopped place (Some (piece.Ended line)) = reading_that_ends (bad line (missing place))
stopped place (Some (piece.Bad fault)) = reading_that_ends (Bad fault)

-- the meaning of a line before that of the other lines
abbrev pub line_told : ℕ → Result Meaning FaultKind → Reading → Reading
line_told line (Ok (meaning.Head config)) others = with_item (Head config) others
line_told line (Ok (meaning.Entry caller note)) others = with_item (Entry caller note) others
line_told line (Ok meaning.Finish) others = reading_that_ends Finish
line_told line (Err kind) others = reading_that_ends (bad line kind)

-- lines, each judged by itself and by the lines before it
abbrev pub read_behind : List Numbered → List Numbered → Option Piece → Reading
read_behind front [] end = stopped (place_behind front) end
read_behind front (line ∷ lines) end =
    line_told line.line (meant (place_behind front) (words line.octets))
    (read_behind (front ++ line ∷ []) lines end)

-- what octets say as a trace; if closed, the input ends with them
abbrev pub reading : Bool → List ℕ → Reading
reading closed octets = let p : Pieces = pieces closed octets in read_behind [] p.lines p.ending
