-- Defines what contracts see of a script that is being read.
use Rattle.std.specs.Prelude.{◌≡◌, ℕ, ◌+◌, List, ◌++◌, Bool, Option, Result, Ok, Err}
use Rattle.std.specs.Io.KnownBytes.{prepend_known}
use Rattle.wf_io.specs.declared.source.Failed.{Failed}
use Rattle.wf_trace.specs.Cutting.{Fits}
use Rattle.wf_trace.specs.Numbering.{Numbering, pieces_left}
use Rattle.wf_trace.specs.Pieces.{Pieces}
use Rattle.wf_trace.specs.declared.script.reading.Item.{Item}
use Rattle.wf_trace.specs.declared.script.reading.Item.TheVariants.{Event, Ended}
use Rattle.wf_trace.specs.Scripts.{Grammar, Script, with_event, ends, read_lines}

-- the script that is still to come after `count` events, if these octets follow
abbrev pub rest : {E : Type 0} → Grammar E → ℕ → Numbering → Bool → List ℕ → Script E
rest g count c closed more = let p : Pieces = pieces_left c closed more in read_lines g count p.lines p.ending

-- how the script before a call follows from its result, and from the script with one more event or none
abbrev pub Says : {E : Type 0} → Result (Item E) Failed → Script E → Script E → Script E → Type 0
Says (Ok (Event event)) before more same = before ≡ with_event event more
Says (Ok (Ended ending)) before more same = before ≡ ends ending
Says (Err failed) before more same = before ≡ same

-- the octets that a call read, and what they say
pub record Reads {E : Type 0} (g : Grammar E) (count : ℕ) (old : Numbering) (left : Option (List ℕ))
    (result : Result (Item E) Failed)
    (new : Numbering) (left_new : Option (List ℕ)) (octets : List ℕ) : Type 0 where
  pub taken : left ≡ prepend_known octets left_new
  pub says : (closed : Bool) (more : List ℕ) → Fits new.cutter.ended left_new closed more →
      Says result (rest g count old closed (octets ++ more)) (rest g (count + 1) new closed more)
      (rest g count new closed more)

-- a fact that holds if a call returned an event, and a fact about that event
abbrev pub OnEvent : {E : Type 0} → Result (Item E) Failed → Type 0 → Type 0
OnEvent (Ok (Event event)) fact = fact
OnEvent (Ok (Ended ending)) fact = Unit {0}
OnEvent (Err failed) fact = Unit {0}

abbrev pub IfEvent : {E : Type 0} → Result (Item E) Failed → (E → Type 0) → Type 0
IfEvent (Ok (Event event)) fact = fact event
IfEvent (Ok (Ended ending)) fact = Unit {0}
IfEvent (Err failed) fact = Unit {0}
