-- Defines the lines of a script of `uplink`: the word and the arguments of each event.
use Rattle.std.specs.Prelude.{◌≡◌, ◌⊎◌, ℕ, ◌≤◌, List, [], ◌∷◌, codes, find, slice_get, not, ◌||◌, Bool, false, if◌then◌else◌, Option, Some, None, Result, Ok, Err}
use Rattle.std.specs.Str.{bytes_eq}
use Rattle.wf_frame.specs.declared.calls.Arg.{Arg}
use Rattle.wf_frame.specs.declared.calls.Arg.TheVariants.{Number, Guard}
use Rattle.wf_frame.specs.declared.calls.Value.{Value}
use Rattle.wf_trace.specs.declared.fault.FaultKind.{FaultKind}
use Rattle.wf_trace.specs.declared.fault.FaultKind.TheVariants as kind
use Rattle.wf_trace.specs.Grammar.{read_args, result_seen, short_most}
use Rattle.wf_trace.specs.Notes.{long_at, guard_at}
use Rattle.wf_def_lists.specs.Bounds.{greatest_mcs, greatest_tick}
use Rattle.wf_def_air.specs.Airtime.{Ht}
use Rattle.wf_trace.specs.Scripts.{Grammar, Script, script}
use Rattle.wf_run_scripts.specs.declared.uplink.event.Event.{Event}
use Rattle.wf_run_scripts.specs.declared.uplink.event.Event.TheVariants as event
use Rattle.wf_run_scripts.specs.declared.uplink.verb.Verb.{Verb}
use Rattle.wf_run_scripts.specs.declared.uplink.verb.Verb.TheVariants.{Open, Plain, Rate, Tick, Frame, Bar}
use Rattle.wf_run_scripts.specs.UplinkOctets.{octets_of_word}

-- The word of an event.
abbrev pub uplink_word : Verb → List ℕ
uplink_word Open = codes "open"
uplink_word Plain = codes "plain"
uplink_word Rate = codes "rate"
uplink_word Tick = codes "tick"
uplink_word Frame = codes "frame"
uplink_word Bar = codes "bar"

abbrev pub verbs : List Verb
verbs = Open ∷ Plain ∷ Rate ∷ Tick ∷ Frame ∷ Bar ∷ []

abbrev pub verb_named : List ℕ → Option Verb
verb_named word = find (λ verb. bytes_eq (uplink_word verb) word) verbs

-- ---- a station is opened: its number, its window and its first number

abbrev pub opening_of : List Value → Event
opening_of values = event.Open (long_at values 0) (long_at values 1) (long_at values 2)

abbrev pub open_args : List Arg
open_args = Number 0 short_most ∷ Number 0 short_most ∷ Number 0 short_most ∷ []

abbrev pub open_meant : List (List ℕ) → Result Event FaultKind
open_meant words = result_seen opening_of (read_args open_args words)

-- ---- a station is opened without agreements: its number

abbrev pub plain_of : List Value → Event
plain_of values = event.Plain (long_at values 0)

abbrev pub plain_args : List Arg
plain_args = Number 0 short_most ∷ []

abbrev pub plain_meant : List (List ℕ) → Result Event FaultKind
plain_meant words = result_seen plain_of (read_args plain_args words)

-- ---- a rate is set: the number of a station, an MCS, the channel's width, and the guard interval

abbrev pub rate_of : List Value → Event
rate_of values = event.Rate (long_at values 0)
    (Ht (long_at values 1) (long_at values 2) (guard_at values 3))

-- The channel's width is the word `20` or `40`; any other word there is the fault `word`.
abbrev pub rate_args : List Arg
rate_args = Number 0 short_most ∷ Number 0 greatest_mcs ∷ Number 20 40 ∷ Guard ∷ []

abbrev pub is_other_width : Option (List ℕ) → Bool
is_other_width None = false
is_other_width (Some word) = not (bytes_eq word (codes "20") || bytes_eq word (codes "40"))

abbrev pub has_no_width : List (List ℕ) → Bool
has_no_width words = is_other_width (slice_get words 2)

abbrev pub rate_meant : List (List ℕ) → Result Event FaultKind
rate_meant words = if has_no_width words then Err kind.Word
    else result_seen rate_of (read_args rate_args words)

-- ---- time passes

abbrev pub tick_of : List Value → Event
tick_of values = event.Tick (long_at values 0)

abbrev pub tick_args : List Arg
tick_args = Number 0 greatest_tick ∷ []

abbrev pub tick_meant : List (List ℕ) → Result Event FaultKind
tick_meant words = result_seen tick_of (read_args tick_args words)

-- ---- a frame or a BlockAckReq is received: its octets

abbrev pub octets_or_fault : Option (List ℕ) → Result (List ℕ) FaultKind
octets_or_fault None = Err kind.Number
octets_or_fault (Some octets) = Ok octets

abbrev pub octets_meant : List (List ℕ) → Result (List ℕ) FaultKind
octets_meant [] = Err kind.Count
octets_meant (word ∷ []) = octets_or_fault (octets_of_word word)
octets_meant (word ∷ other ∷ words) = Err kind.Count

abbrev pub frame_meant : List (List ℕ) → Result Event FaultKind
frame_meant words = result_seen event.Frame (octets_meant words)

abbrev pub bar_meant : List (List ℕ) → Result Event FaultKind
bar_meant words = result_seen event.Bar (octets_meant words)

-- ---- any line

abbrev pub named : Option Verb → List (List ℕ) → Result Event FaultKind
named None words = Err kind.Word
named (Some Open) words = open_meant words
named (Some Plain) words = plain_meant words
named (Some Rate) words = rate_meant words
named (Some Tick) words = tick_meant words
named (Some Frame) words = frame_meant words
named (Some Bar) words = bar_meant words

abbrev pub meant : List (List ℕ) → Result Event FaultKind
meant [] = Err kind.Word
meant (word ∷ words) = named (verb_named word) words

-- A script may have any number of events.
abbrev pub grammar : Grammar Event
grammar = record { meant = meant; most = None }

-- The events of a script, and how it ends.
abbrev pub reading : Bool → List ℕ → Script Event
reading closed octets = script grammar closed octets

-- ---- facts of arguments that were read, and of an event

pub record AreOpening (values : List Value) : Type 0 where
  pub station : long_at values 0 ≤ short_most
  pub window : long_at values 1 ≤ short_most
  pub start : long_at values 2 ≤ short_most

pub record ArePlain (values : List Value) : Type 0 where
  pub station : long_at values 0 ≤ short_most

pub record AreRate (values : List Value) : Type 0 where
  pub station : long_at values 0 ≤ short_most
  pub mcs : long_at values 1 ≤ greatest_mcs
  pub mhz : (long_at values 2 ≡ 20) ⊎ (long_at values 2 ≡ 40)

-- The clock advances by at most 10,000,000 microseconds in one step.
abbrev pub IsValid : Event → Type 0
IsValid (event.Open station window start) = Unit {0}
IsValid (event.Plain station) = Unit {0}
IsValid (event.Rate station rate) = Unit {0}
IsValid (event.Tick by) = by ≤ greatest_tick
IsValid (event.Frame octets) = Unit {0}
IsValid (event.Bar octets) = Unit {0}
