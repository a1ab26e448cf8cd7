-- Defines the lines of a trace: each ends with the octet 10, and a rest that is not empty is a line too.
use Rattle.std.specs.Prelude.{ℕ, ◌+◌, List, [], ◌∷◌, length, Bool, true, false, ◌==◌, ◌&&◌, nat_lt, nat_le, if◌then◌else◌, Option, Some, None}
use Rattle.std.specs.List.{list_all}
use Rattle.wf_io.specs.declared.source.TheConstants.{MOST_OCTETS}
use Rattle.wf_trace.specs.declared.fault.FaultKind.{FaultKind}
use Rattle.wf_trace.specs.declared.fault.FaultKind.TheVariants.{TooBig, LongLine, NotAscii}
use Rattle.wf_trace.specs.declared.fault.End.{End}
use Rattle.wf_trace.specs.declared.fault.End.TheVariants.{Over, Flaw}

-- a line without its octet 10, and the number of octets of the input up to its end, with that octet
pub record Line : Type 0 where
  pub octets : List ℕ
  pub end : ℕ

-- the lines with an octet added at the front of the first one; if there is none, the octet is a line only
-- if the input ends there
abbrev pub onto : Bool → ℕ → ℕ → List Line → List Line
onto false octet at [] = []
onto true octet at [] = record { octets = octet ∷ []; end = at } ∷ []
onto closed octet at (line ∷ others) = record { octets = octet ∷ line.octets; end = line.end } ∷ others

-- the lines of octets that come after `at` others; if closed, the input ends with them
abbrev pub lines : Bool → ℕ → List ℕ → List Line
lines closed at [] = []
lines closed at (octet ∷ octets) =
    if octet == 10 then record { octets = []; end = at + 1 } ∷ lines closed (at + 1) octets
    else onto closed octet (at + 1) (lines closed (at + 1) octets)

-- the most octets of a trace up to the end of its line `end`, 2^40
abbrev pub longest_trace : ℕ
longest_trace = MOST_OCTETS

-- the most octets of a line, without its octet 10
abbrev pub longest_line : ℕ
longest_line = 160

-- whether an octet is a printable ASCII character or a space
abbrev pub is_printable : ℕ → Bool
is_printable octet = nat_le 32 octet && nat_le octet 126

-- the first fault of a line in its octets
abbrev pub flaw : ℕ → List ℕ → Option FaultKind
flaw end octets =
    if nat_lt longest_trace end then Some TooBig
    else if nat_lt longest_line (length octets) then Some LongLine
    else if list_all is_printable octets then None
    else Some NotAscii

-- the texts of lines, in order, and why no more come, once known
pub record Texts : Type 0 where
  pub texts : List (List ℕ)
  pub ending : Option End

-- a text before others; if it has a fault, nothing follows
abbrev pub before_texts : Option FaultKind → List ℕ → Texts → Texts
before_texts None text others = record { texts = text ∷ others.texts; ending = others.ending }
before_texts (Some kind) text others = record { texts = []; ending = Some (Flaw kind) }

-- the texts of lines up to the first line with a fault
abbrev pub texts_of : Bool → List Line → Texts
texts_of closed [] = record { texts = []; ending = if closed then Some Over else None }
texts_of closed (line ∷ others) = before_texts (flaw line.end line.octets) line.octets
    (texts_of closed others)
