-- Defines what contracts see of a reader, and what a call of it returns.
use Rattle.std.specs.Prelude.{◌≡◌, ℕ, ◌+◌, ◌<◌, List, [], ◌∷◌, ◌++◌, Bool, false, Option, Some, None, Result, Ok, Err, IsSome}
use Rattle.std.specs.Io.KnownBytes.{prepend_known}
use Rattle.wf_io.specs.declared.source.Failed.{Failed}
use Rattle.wf_trace.specs.declared.fault.FaultKind.{FaultKind}
use Rattle.wf_trace.specs.declared.cut.Piece.{Piece}
use Rattle.wf_trace.specs.declared.meaning.Meaning.{Meaning}
use Rattle.wf_trace.specs.declared.meaning.Meaning.TheVariants as meaning
use Rattle.wf_trace.specs.declared.meaning.Place.{Place}
use Rattle.wf_trace.specs.declared.reader.Item.{Item}
use Rattle.wf_trace.specs.declared.reader.Item.TheVariants.{Head, Entry, Finish, Bad}
use Rattle.wf_trace.specs.Pieces.{Numbered, Pieces}
use Rattle.wf_trace.specs.Numbering.{Numbering, HasNoLine, pieces_left, will_read as will_cut}
use Rattle.wf_trace.specs.Words.{words}
use Rattle.wf_trace.specs.Meanings.{meant, HasRoomForLine}
use Rattle.wf_trace.specs.Reading.{Reading, with_item, reading_that_ends, bad, stopped}
use Rattle.wf_trace.specs.Cutting.{Fits, room}

-- the place after a call
abbrev pub next_place : Option Place → Option Place
next_place None = None
next_place (Some place) = Some (record { limit = place.limit; count = place.count + 1 })

-- the meaning of a line before that of the other lines, which are read from their place
abbrev pub said : Result Meaning FaultKind → Option Place → ℕ → (Option Place → Reading) → Reading
said (Ok (meaning.Head config)) place line others =
    with_item (Head config) (others (Some (record { limit = config.calls; count = 0 })))
said (Ok (meaning.Entry caller note)) place line others =
    with_item (Entry caller note) (others (next_place place))
said (Ok meaning.Finish) place line others = reading_that_ends Finish
said (Err kind) place line others = reading_that_ends (bad line kind)

-- what lines say, read from a place
abbrev pub read_lines : List Numbered → Option Piece → Option Place → Reading
read_lines [] end place = stopped place end
read_lines (line ∷ lines) end place =
    said (meant place (words line.octets)) place line.line (λ next. read_lines lines end next)

-- a reader: its cutter, the place of the next line, and the ending, once it was returned
pub record Reader : Type 0 where
  pub cut : Numbering
  pub place : Option Place
  pub ended : Option Item

-- the reading that is still to come, given the pieces
abbrev pub rest_of : Option Item → Option Place → Pieces → Reading
rest_of (Some item) place p = reading_that_ends item
rest_of None place p = read_lines p.lines p.ending place

-- the reading that is still to come if these octets follow
abbrev pub rest : Reader → Bool → List ℕ → Reading
rest r closed more = rest_of r.ended r.place (pieces_left r.cut closed more)

-- how the reading before a call follows from its result and from the reading after it
abbrev pub GivesItem : Result Item Failed → Reader → Reading → Reading → Type 0
GivesItem (Ok (Head config)) new before after = before ≡ with_item (Head config) after
GivesItem (Ok (Entry caller note)) new before after = before ≡ with_item (Entry caller note) after
GivesItem (Ok Finish) new before after = (new.ended ≡ Some Finish) × (before ≡ after)
GivesItem (Ok (Bad fault)) new before after = (new.ended ≡ Some (Bad fault)) × (before ≡ after)
GivesItem (Err failed) new before after = before ≡ after

-- the octets that a call read, and what it returned of them
pub record Reads (old : Reader) (left : Option (List ℕ)) (result : Result Item Failed)
    (new : Reader) (left_new : Option (List ℕ)) (octets : List ℕ) : Type 0 where
  pub taken : left ≡ prepend_known octets left_new
  pub gives : (closed : Bool) (more : List ℕ) → Fits new.cut.cutter.ended left_new closed more →
      GivesItem result new (rest old closed (octets ++ more)) (rest new closed more)

-- nothing waits, and the line that has begun has not ended: a failed call leaves the reader so
pub record IsHeld (r : Reader) : Type 0 where
  pub cut : HasNoLine r.cut
  pub open_ : r.ended ≡ None

-- less can still come than before, by `room`
abbrev pub IsFurther : Reader → Reader → Type 0
IsFurther old new = room new.cut.cutter < room old.cut.cutter

-- how a call goes on: a head comes first, an entry after it, and each uses up some of what may come
abbrev pub Goes : Result Item Failed → Reader → Reader → Type 0
Goes (Ok (Head config)) old new = (old.place ≡ None) × IsSome new.place × (new.ended ≡ None) ×
    IsFurther old new
Goes (Ok (Entry caller note)) old new = IsSome old.place × IsSome new.place × (new.ended ≡ None) ×
    IsFurther old new
Goes (Ok Finish) old new = Unit {0}
Goes (Ok (Bad fault)) old new = Unit {0}
Goes (Err failed) old new = new.place ≡ old.place

-- some line has this meaning in its place
abbrev pub IsLine : Option Place → Meaning → Type 0
IsLine place meaning = (ws : List (List ℕ)) × (meant place ws ≡ Ok meaning)

-- which item is allowed in its place: some line has its meaning there; a head begins the count of calls,
-- and a call is one more of those that the head allows
abbrev pub IsPlaced : Result Item Failed → Option Place → Option Place → Type 0
IsPlaced (Ok (Head config)) old new = IsLine old (meaning.Head config) ×
    (new ≡ Some (record { limit = config.calls; count = 0 }))
IsPlaced (Ok (Entry caller note)) old new =
    IsLine old (meaning.Entry caller note) × HasRoomForLine (Ok (meaning.Entry caller note)) old ×
    (new ≡ next_place old)
IsPlaced (Ok Finish) old new = Unit {0}
IsPlaced (Ok (Bad fault)) old new = Unit {0}
IsPlaced (Err failed) old new = new ≡ old

-- whether the next call may read the source: it does not if the ending is known, or if a whole line waits
-- that is not skipped
abbrev pub will_read_of : Option Item → Numbering → Bool
will_read_of None cut = will_cut cut
will_read_of (Some item) cut = false

-- the same for a reader
abbrev pub will_read : Reader → Bool
will_read r = will_read_of r.ended r.cut
