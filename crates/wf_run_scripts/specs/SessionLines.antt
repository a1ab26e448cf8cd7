-- Defines the lines of a script of `session`: the word and the arguments of each event.
use Rattle.std.specs.Prelude.{ℕ, ◌≤◌, List, [], ◌∷◌, codes, find, Bool, if◌then◌else◌, Option, Some, None, Result, Err}
use Rattle.std.specs.Str.{bytes_eq}
use Rattle.wf_frame.specs.declared.calls.Arg.{Arg}
use Rattle.wf_frame.specs.declared.calls.Arg.TheVariants.{Number, Long, End}
use Rattle.wf_frame.specs.declared.calls.Value.{Value}
use Rattle.wf_trace.specs.declared.fault.FaultKind.{FaultKind}
use Rattle.wf_trace.specs.declared.fault.FaultKind.TheVariants as kind
use Rattle.wf_trace.specs.Grammar.{read_args, result_seen}
use Rattle.wf_trace.specs.Notes.{long_at, end_at}
use Rattle.wf_def_lists.specs.Bounds.{greatest_window, greatest_start}
use Rattle.wf_session.specs.declared.event.Event.{Event}
use Rattle.wf_session.specs.declared.event.Event.TheVariants as event
use Rattle.wf_trace.specs.Scripts.{Grammar, Script, script}
use Rattle.wf_run_scripts.specs.declared.session.verb.Verb.{Verb}
use Rattle.wf_run_scripts.specs.declared.session.verb.Verb.TheVariants.{Ask, Again, To, Close, Restart}

-- The word of an event.
abbrev pub session_word : Verb → List ℕ
session_word Ask = codes "ask"
session_word Again = codes "again"
session_word To = codes "to"
session_word Close = codes "close"
session_word Restart = codes "restart"

abbrev pub verbs : List Verb
verbs = Ask ∷ Again ∷ To ∷ Close ∷ Restart ∷ []

abbrev pub verb_named : List ℕ → Option Verb
verb_named word = find (λ verb. bytes_eq (session_word verb) word) verbs

-- Its arguments in order: a window and a start, an end and the number of a message, or an end.
abbrev pub session_args : Verb → List Arg
session_args Ask = Number 1 greatest_window ∷ Number 0 greatest_start ∷ []
session_args Again = []
session_args To = End ∷ Long ∷ []
session_args Close = End ∷ []
session_args Restart = End ∷ []

-- The event for the originator, `a`, or the one for the recipient, `b`.
abbrev pub by_end : Bool → Event → Event → Event
by_end recipient originators recipients = if recipient then recipients else originators

-- The event with these arguments.
abbrev pub event_of : Verb → List Value → Event
event_of Ask values = event.Ask (long_at values 0) (long_at values 1)
event_of Again values = event.Again
event_of To values = by_end (end_at values 0) (event.ToOriginator (long_at values 1))
    (event.ToRecipient (long_at values 1))
event_of Close values = by_end (end_at values 0) event.CloseOriginator event.CloseRecipient
event_of Restart values = by_end (end_at values 0) event.RestartOriginator event.RestartRecipient

-- The window and the start of an ask are in their ranges.
abbrev pub AreInRange : Verb → List Value → Type 0
AreInRange Ask values = (1 ≤ long_at values 0) × (long_at values 0 ≤ greatest_window) ×
    (long_at values 1 ≤ greatest_start)
AreInRange Again values = Unit {0}
AreInRange To values = Unit {0}
AreInRange Close values = Unit {0}
AreInRange Restart values = Unit {0}

-- The event that the words of a line encode.
abbrev pub named : Option Verb → List (List ℕ) → Result Event FaultKind
named None words = Err kind.Word
named (Some verb) words = result_seen (event_of verb) (read_args (session_args verb) words)

abbrev pub meant : List (List ℕ) → Result Event FaultKind
meant [] = Err kind.Word
meant (word ∷ words) = named (verb_named word) words

-- The most events of a script.
abbrev pub most : ℕ
most = 65536

abbrev pub grammar : Grammar Event
grammar = record { meant = meant; most = Some most }

-- The events of a script, and how it ends.
abbrev pub reading : Bool → List ℕ → Script Event
reading closed octets = script grammar closed octets

-- An ask is for a window of 1 to 256 numbers.
abbrev pub IsValidEvent : Event → Type 0
IsValidEvent (event.Ask window start) = (1 ≤ window) × (window ≤ greatest_window)
IsValidEvent event.Again = Unit {0}
IsValidEvent (event.ToOriginator index) = Unit {0}
IsValidEvent (event.ToRecipient index) = Unit {0}
IsValidEvent event.CloseOriginator = Unit {0}
IsValidEvent event.CloseRecipient = Unit {0}
IsValidEvent event.RestartOriginator = Unit {0}
IsValidEvent event.RestartRecipient = Unit {0}
