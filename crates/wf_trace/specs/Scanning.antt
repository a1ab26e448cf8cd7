-- Defines what contracts see of the octets that were read and not yet returned as lines.
use Rattle.std.specs.Prelude.{◌≡◌, ℕ, ◌+◌, ◌-◌, ◌<◌, ◌≤◌, ◌==◌, slice_index, slice_range, ◌&&◌, not, if◌then◌else◌, List, [], ◌∷◌, ◌++◌, Bool, true, false, Option, Some, None}
use Rattle.std.specs.List.{list_any}
use Rattle.wf_trace.specs.declared.fault.FaultKind.TheVariants.{TooBig}
use Rattle.wf_trace.specs.declared.fault.End.TheVariants.{Flaw}
use Rattle.wf_trace.specs.declared.cut.Found.{Found}
use Rattle.wf_trace.specs.declared.cut.Found.TheVariants as found
use Rattle.wf_trace.specs.Lines.{Line, Texts, texts_of, before_texts, flaw}

-- the number of octets that were looked at, the line that has begun (up to 161 octets of it), and the
-- octets that were read and not looked at
pub record Scanning : Type 0 where
  pub looked : ℕ
  pub line : List ℕ
  pub waiting : List ℕ

-- the most octets that are read from a source at once
abbrev pub buffer_size : ℕ
buffer_size = 4096

-- nothing was read
abbrev pub untouched : Scanning
untouched = record { looked = 0; line = []; waiting = [] }

-- the line that has begun, if no octet 10 follows: it is a line only if the input ends and it is not empty
abbrev pub rest_line : Bool → ℕ → List ℕ → List Line
rest_line false at begun = []
rest_line true at [] = []
rest_line true at (octet ∷ octets) = record { octets = octet ∷ octets; end = at } ∷ []

-- the lines that end after the first `at` octets, the last of which are the line that has begun
abbrev pub lines_behind : Bool → ℕ → List ℕ → List ℕ → List Line
lines_behind closed at begun [] = rest_line closed at begun
lines_behind closed at begun (octet ∷ octets) =
    if octet == 10 then record { octets = begun; end = at + 1 } ∷ lines_behind closed (at + 1) [] octets
    else lines_behind closed (at + 1) (begun ++ octet ∷ []) octets

-- the texts that are still to come if these octets follow
abbrev pub texts_from : Scanning → Bool → List ℕ → Texts
texts_from s closed more = texts_of closed (lines_behind closed s.looked s.line (s.waiting ++ more))

-- the same, directly after the end of a line
abbrev pub texts_behind : Scanning → Bool → List ℕ → Texts
texts_behind s closed more = texts_of closed (lines_behind closed s.looked [] (s.waiting ++ more))

-- what was found among the octets: no end of a line, the end of the line that has begun, or an octet after
-- the most that a trace may have
abbrev pub Finds : Scanning → Option Found → Scanning → Type 0
Finds old None new =
    (closed : Bool) (more : List ℕ) → texts_from old closed more ≡ texts_from new closed more
Finds old (Some found.Line) new =
    (closed : Bool) (more : List ℕ) → texts_from old closed more ≡
    before_texts (flaw new.looked new.line) new.line (texts_behind new closed more)
Finds old (Some found.TooBig) new =
    (more : List ℕ) → texts_from old true more ≡ record { texts = []; ending = Some (Flaw TooBig) }

-- whether the end of a line is among octets
abbrev pub has_end : List ℕ → Bool
has_end octets = list_any (λ octet. octet == 10) octets

-- whether octets begin with the first word of a line that is not skipped: the first octet is no end of a
-- line, no space and no #
abbrev pub begins_word : List ℕ → Bool
begins_word [] = false
begins_word (octet ∷ octets) = not (octet == 10) && not (octet == 32) && not (octet == 35)

-- whether a whole line waits that is not skipped, by its first octet
abbrev pub holds_text : List ℕ → Bool
holds_text waiting = has_end waiting && begins_word waiting

-- a scan keeps the first octet of a line, and does not pass an end of a line without finding it
abbrev pub Keeps : Scanning → Option Found → Scanning → Type 0
Keeps old None new = (has_end new.waiting ≡ has_end old.waiting) ×
    (begins_word (new.line ++ new.waiting) ≡ begins_word (old.line ++ old.waiting))
Keeps old (Some found.Line) new = begins_word (old.line ++ old.waiting) ≡ true → begins_word new.line ≡ true
Keeps old (Some found.TooBig) new = Unit {0}

-- the last end of a line in the first `to` octets of a buffer is directly before `ends`; if there is none,
-- `ends` is 0
abbrev pub LineEndsAt : List ℕ → ℕ → ℕ → Type 0
LineEndsAt buffer ends to = (ends ≤ to) × (has_end (slice_range buffer ends to) ≡ false) ×
    (0 < ends → slice_index buffer (ends - 1) ≡ 10)
