-- Defines what contracts see of a cutter of lines, and what a call of it returns.
use Rattle.std.specs.Prelude.{◌≡◌, ℕ, ◌+◌, ◌-◌, List, [], ◌∷◌, ◌++◌, Bool, true, false, not, ◌&&◌, Option, Some, None, Result, Ok, Err}
use Rattle.std.specs.Io.KnownBytes.{prepend_known}
use Rattle.wf_io.specs.declared.source.Failed.{Failed}
use Rattle.wf_trace.specs.declared.fault.End.{End}
use Rattle.wf_trace.specs.Lines.{Texts, longest_trace}
use Rattle.wf_trace.specs.Scanning.{Scanning, untouched, texts_from, texts_behind, holds_text}

-- a cutter: its octets, whether the line that has begun was returned, and why no further line comes, once
-- known
pub record Cutting : Type 0 where
  pub scanner : Scanning
  pub given : Bool
  pub ended : Option End

-- a cutter that has read nothing
abbrev pub fresh : Cutting
fresh = record { scanner = untouched; given = false; ended = None }

-- the texts that are still to come if these octets follow; if closed, the input ends with them
abbrev pub to_come_of : Option End → Bool → Scanning → Bool → List ℕ → Texts
to_come_of (Some end) given scanner closed more = record { texts = []; ending = Some end }
to_come_of None true scanner closed more = texts_behind scanner closed more
to_come_of None false scanner closed more = texts_from scanner closed more

-- the same for a cutter
abbrev pub to_come : Cutting → Bool → List ℕ → Texts
to_come c closed more = to_come_of c.ended c.given c.scanner closed more

-- which octets may follow: any, or once the end is known only those that are left in the source
abbrev pub Fits : Option End → Option (List ℕ) → Bool → List ℕ → Type 0
Fits None left closed more = Unit {0}
Fits (Some end) left closed more = (closed ≡ true) × (left ≡ Some more)

-- how the texts before a call follow from its result and the texts after it
abbrev pub Follows : Result (Option End) Failed → Cutting → Texts → Texts → Type 0
Follows (Ok None) new before after =
    before ≡ record { texts = new.scanner.line ∷ after.texts; ending = after.ending }
Follows (Ok (Some end)) new before after = (new.ended ≡ Some end) × (before ≡ after)
Follows (Err failed) new before after = before ≡ after

-- the octets that a call read, and the texts that it returned of them
pub record TakesPieces (old : Cutting) (left : Option (List ℕ)) (result : Result (Option End) Failed)
    (new : Cutting) (left_new : Option (List ℕ)) (octets : List ℕ) : Type 0 where
  pub taken : left ≡ prepend_known octets left_new
  pub gives : (closed : Bool) (more : List ℕ) → Fits new.ended left_new closed more →
      Follows result new (to_come old closed (octets ++ more)) (to_come new closed more)

-- an upper bound of the lines that can still be cut: the octets that may still be looked at, and one more
-- as long as the end is not known
abbrev pub room_of : ℕ → Option End → ℕ
room_of looked None = (longest_trace - looked) + 1
room_of looked (Some end) = longest_trace - looked

-- the same for a cutter
abbrev pub room : Cutting → ℕ
room c = room_of c.scanner.looked c.ended

-- whether the next call may read the source. It does not if the end is known, or if a line was returned and
-- another one waits.
abbrev pub will_read_of : Option End → Bool → List ℕ → Bool
will_read_of None given waiting = not (given && holds_text waiting)
will_read_of (Some end) given waiting = false

-- the same for a cutter
abbrev pub will_read : Cutting → Bool
will_read c = will_read_of c.ended c.given c.scanner.waiting
