-- Defines the meaning of a line in its place.
use Rattle.std.specs.Prelude.{◌≡◌, ℕ, ◌<◌, List, [], ◌∷◌, codes, Bool, false, ◌==◌, nat_le, if◌then◌else◌, Option, Some, None, Result, Ok, Err, replicate}
use Rattle.std.specs.Str.{bytes_eq}
use Rattle.wf_trace.specs.declared.fault.FaultKind.{FaultKind}
use Rattle.wf_trace.specs.declared.fault.FaultKind.TheVariants as kind
use Rattle.wf_frame.specs.declared.settings.Config.{Config}
use Rattle.wf_frame.specs.declared.notes.Note.{Note}
use Rattle.wf_trace.specs.declared.meaning.Meaning.{Meaning}
use Rattle.wf_trace.specs.declared.meaning.Meaning.TheVariants.{Head, Entry, Finish}
use Rattle.wf_trace.specs.declared.meaning.Place.{Place}
use Rattle.wf_trace.specs.Faults.{earlier_fault}
use Rattle.wf_trace.specs.Words.{number_of, in_range}
use Rattle.wf_trace.specs.Notes.{read_call}
use Rattle.wf_frame.specs.Settings.{standard}
use Rattle.wf_trace.specs.Settings.{read_words}

-- the settings of a head, given its words after `cell`; a setting that it does not set has its standard
-- value
abbrev pub read_head : List (List ℕ) → Result Config FaultKind
read_head words = read_words words (replicate 28 false) standard

-- a call, if one is allowed in this place
abbrev pub allowed : ℕ → Option Place → Result Note FaultKind → Result Meaning FaultKind
allowed caller place (Err fault) = Err fault
allowed caller None (Ok note) = Err kind.NoHead
allowed caller (Some place) (Ok note) =
    if nat_le place.limit place.count then Err kind.TooLong else Ok (Entry caller note)

-- the call of a caller, given its words, if it is allowed in this place
abbrev pub entry_of : ℕ → Option Place → List (List ℕ) → Result Meaning FaultKind
entry_of caller place words = allowed caller place (read_call words)

-- the greatest number of a caller
abbrev pub greatest_caller : ℕ
greatest_caller = 65535

-- the caller, given the octets after @
abbrev pub caller_of : List ℕ → Result ℕ FaultKind
caller_of octets = in_range 0 greatest_caller (number_of octets)

-- the fault of the caller, or a fault of the call after it that comes first in the order of the kinds
abbrev pub against : FaultKind → Result Meaning FaultKind → Result Meaning FaultKind
against fault (Ok meaning) = Err fault
against fault (Err other) = Err (earlier_fault fault other)

-- a call, given its caller, which may have a fault
abbrev pub caller_first : Result ℕ FaultKind → Option Place → List (List ℕ) → Result Meaning FaultKind
caller_first (Ok caller) place words = entry_of caller place words
caller_first (Err fault) place words = against fault (entry_of 0 place words)

-- the head, if none came before
abbrev pub headed : Option Place → Result Config FaultKind → Result Meaning FaultKind
headed (Some place) read = Err kind.Word
headed None (Ok config) = Ok (Head config)
headed None (Err fault) = Err fault

-- the line `end`, which has no other word and comes after a head
abbrev pub finished : Option Place → List (List ℕ) → Result Meaning FaultKind
finished place (word ∷ words) = Err kind.Count
finished None [] = Err kind.NoHead
finished (Some place) [] = Ok Finish

-- a line, given its first word
abbrev pub named : Option Place → List ℕ → List (List ℕ) → Result Meaning FaultKind
named place word words =
    if bytes_eq word (codes "cell") then headed place (read_head words)
    else if bytes_eq word (codes "end") then finished place words
    else entry_of 0 place (word ∷ words)

-- the meaning of a line, given its words. A call follows a word that begins with @.
abbrev pub meant : Option Place → List (List ℕ) → Result Meaning FaultKind
meant place [] = Err kind.Word
meant place ([] ∷ words) = Err kind.Word
meant place ((octet ∷ octets) ∷ words) =
    if octet == 64 then caller_first (caller_of octets) place words
    else named place (octet ∷ octets) words

-- whether words are those of a head
abbrev pub is_head : List (List ℕ) → Bool
is_head [] = false
is_head (word ∷ words) = bytes_eq word (codes "cell")

-- the settings, if they have no fault
abbrev pub settings_if : Result Config FaultKind → Option Config
settings_if (Ok config) = Some config
settings_if (Err fault) = None

-- the settings of a head, given its words
abbrev pub settings_of : List (List ℕ) → Option Config
settings_of [] = None
settings_of (word ∷ words) = settings_if (read_head words)

-- a head is the first line, and a call comes only if the head allows one more
abbrev pub HasRoomForLine : Result Meaning FaultKind → Option Place → Type 0
HasRoomForLine (Ok (Entry caller note)) None = ⊥
HasRoomForLine (Ok (Entry caller note)) (Some p) = p.count < p.limit
HasRoomForLine (Ok (Head config)) place = place ≡ None
HasRoomForLine (Ok Finish) place = Unit {0}
HasRoomForLine (Err kind) place = Unit {0}
