-- Defines the table of calls: for each form of a call's line its number, its word and its arguments.
-- Defines also the values of the arguments of each call, and their ranges.
use Rattle.std.specs.Prelude.{ℕ, ◌==◌, ◌<◌, ◌≤◌, ◌^◌, List, [], ◌∷◌, ◌++◌, map, codes, Option, Some, None, find, option_map}
use Rattle.std.specs.Str.{bytes_eq}
use Rattle.wf_frame.specs.declared.calls.CallForm.{CallForm}
use Rattle.wf_frame.specs.declared.calls.CallForm.TheVariants as form
use Rattle.wf_frame.specs.declared.calls.RateFormat.{RateFormat}
use Rattle.wf_frame.specs.declared.calls.RateFormat.TheVariants as format
use Rattle.wf_frame.specs.declared.calls.Argument.{Argument}
use Rattle.wf_frame.specs.declared.calls.Argument.TheVariants as argument
use Rattle.wf_frame.specs.declared.calls.Arg.{Arg}
use Rattle.wf_frame.specs.declared.calls.Arg.TheVariants as kind
use Rattle.wf_frame.specs.declared.calls.Value.{Value}
use Rattle.wf_frame.specs.declared.calls.Value.TheVariants as value
use Rattle.wf_frame.specs.declared.notes.Note.{Note}
use Rattle.wf_frame.specs.declared.notes.Note.TheVariants.{Enqueue, Asked}
use Rattle.wf_frame.specs.declared.notes.Ask.{Ask}
use Rattle.wf_frame.specs.declared.notes.Ask.TheVariants.{Join, Leave, Rate, Tick, Pull, Arrive, Answer, Done, Sleep, Wake, Poll, Rx, Reap, Ampdu, Stop, Start, Unsent, GiveUp, Flush, Offload, Weight, Plain, Hold, Begin, Free, Cease, Group, Service, Bss}
use Rattle.wf_frame.specs.declared.notes.GroupCall.{GroupCall}
use Rattle.wf_frame.specs.declared.notes.GroupAsk.{GroupAsk}
use Rattle.wf_frame.specs.declared.notes.GroupAsk.TheVariants as group
use Rattle.wf_frame.specs.declared.notes.ServiceAsk.{ServiceAsk}
use Rattle.wf_frame.specs.declared.notes.ServiceAsk.TheVariants as service
use Rattle.wf_frame.specs.declared.notes.Limits.{Limits}
use Rattle.wf_frame.specs.declared.notes.AskedRate.{AskedRate}
use Rattle.wf_frame.specs.declared.notes.AskedRate.TheVariants.{Ht, Vht, He, Ofdm, Dsss}
use Rattle.wf_def_lists.specs.Lengths.{greatest_body}

-- ---- the table

-- a row: the number of a form's call in C, the word that its line begins with, and the line with names for
-- its arguments, as help shows it
pub record Row : Type 0 where
  pub number : ℕ
  pub word : List ℕ
  pub line : List ℕ

abbrev pub row : ℕ → List ℕ → List ℕ → Row
row number word line = record { number = number; word = word; line = line }

-- the table
abbrev pub form_row : CallForm → Row
form_row form.Join = row 0 (codes "join") (codes "join S W START X [WEIGHT]")
form_row form.Leave = row 1 (codes "leave") (codes "leave S")
form_row form.Rate = row 2 (codes "rate") (codes "rate S MCS MHZ GUARD")
form_row form.RateVht = row 2 (codes "rate") (codes "rate S vht MCS MHZ GUARD N")
form_row form.RateHe = row 2 (codes "rate") (codes "rate S he MCS MHZ GUARD N")
form_row form.RateOfdm = row 2 (codes "rate") (codes "rate S ofdm MBIT")
form_row form.RateDsss = row 2 (codes "rate") (codes "rate S dsss HALF_MBIT")
form_row form.Tick = row 3 (codes "tick") (codes "tick MICROSECONDS")
form_row form.Enqueue = row 4 (codes "enq") (codes "enq S TID FLOW LENGTH")
form_row form.Pull = row 5 (codes "pull") (codes "pull CLASS")
form_row form.PullFrames = row 5 (codes "pull") (codes "pull CLASS frames N")
form_row form.PullAir = row 5 (codes "pull") (codes "pull CLASS air MICROSECONDS")
form_row form.PullLimited = row 5 (codes "pull") (codes "pull CLASS frames N air MICROSECONDS")
form_row form.Arrive = row 6 (codes "arrive") (codes "arrive EXCHANGE INDEX")
form_row form.Answer = row 7 (codes "answer") (codes "answer EXCHANGE")
form_row form.Done = row 8 (codes "done") (codes "done EXCHANGE HEARD")
form_row form.DoneAir = row 8 (codes "done") (codes "done EXCHANGE HEARD air MICROSECONDS")
form_row form.Sleep = row 9 (codes "sleep") (codes "sleep S")
form_row form.Wake = row 10 (codes "wake") (codes "wake S")
form_row form.Poll = row 11 (codes "poll") (codes "poll S")
form_row form.Rx = row 12 (codes "rx") (codes "rx S CLASS MICROSECONDS")
form_row form.Reap = row 13 (codes "reap") (codes "reap")
form_row form.Ampdu = row 14 (codes "ampdu") (codes "ampdu S OCTETS")
form_row form.Stop = row 15 (codes "stop") (codes "stop S")
form_row form.Start = row 16 (codes "start") (codes "start S")
form_row form.Unsent = row 17 (codes "unsent") (codes "unsent EXCHANGE INDEX")
form_row form.GiveUp = row 18 (codes "giveup") (codes "giveup EXCHANGE INDEX")
form_row form.Flush = row 19 (codes "flush") (codes "flush S TID")
form_row form.Offload = row 20 (codes "offload") (codes "offload S X [G]")
form_row form.Weight = row 21 (codes "weight") (codes "weight S G")
form_row form.Plain = row 22 (codes "plain") (codes "plain S START X [G]")
form_row form.Hold = row 23 (codes "hold") (codes "hold S TID")
form_row form.Begin = row 24 (codes "begin") (codes "begin S TID W")
form_row form.Free = row 25 (codes "free") (codes "free S TID")
form_row form.Cease = row 26 (codes "cease") (codes "cease S TID")
form_row form.Group = row 27 (codes "group") (codes "group LENGTH [B]")
form_row form.Beacon = row 28 (codes "beacon") (codes "beacon [B]")
form_row form.Gpull = row 29 (codes "gpull") (codes "gpull [B]")
form_row form.Gdone = row 30 (codes "gdone") (codes "gdone [B]")
form_row form.Apsd = row 31 (codes "apsd") (codes "apsd S CLASSES MAX")
form_row form.Trigger = row 32 (codes "trigger") (codes "trigger S")
form_row form.Eosp = row 33 (codes "eosp") (codes "eosp S")
form_row form.Bss = row 34 (codes "bss") (codes "bss S B")

-- The form is one of a call about agreements.
abbrev pub IsOfAgreement : CallForm → Type 0
IsOfAgreement form.Hold = Unit {0}
IsOfAgreement form.Begin = Unit {0}
IsOfAgreement form.Free = Unit {0}
IsOfAgreement form.Cease = Unit {0}
IsOfAgreement _ = ⊥

-- The form is one of a call about a BSS: about its group frames, or by which a station gets it.
abbrev pub IsOfGroup : CallForm → Type 0
IsOfGroup form.Group = Unit {0}
IsOfGroup form.Beacon = Unit {0}
IsOfGroup form.Gpull = Unit {0}
IsOfGroup form.Gdone = Unit {0}
IsOfGroup form.Bss = Unit {0}
IsOfGroup _ = ⊥

-- The form is one of a call about service periods.
abbrev pub IsOfService : CallForm → Type 0
IsOfService form.Apsd = Unit {0}
IsOfService form.Trigger = Unit {0}
IsOfService form.Eosp = Unit {0}
IsOfService _ = ⊥

-- the number of a form's call
abbrev pub form_number : CallForm → ℕ
form_number form = (form_row form).number

-- the word that a line of this form begins with
abbrev pub call_word : CallForm → List ℕ
call_word form = (form_row form).word

-- the line of a form, with names for its arguments
abbrev pub form_line : CallForm → List ℕ
form_line form = (form_row form).line

-- the arguments of a form, in order
abbrev pub arguments_of : CallForm → List Argument
arguments_of form.Join =
    argument.Station ∷ argument.Window ∷ argument.Start ∷ argument.Exponent ∷ argument.Weight ∷ []
arguments_of form.Leave = argument.Station ∷ []
arguments_of form.Rate = argument.Station ∷ argument.Mcs ∷ argument.Mhz ∷ argument.Guard ∷ []
arguments_of form.RateVht =
    argument.Station ∷ argument.Format ∷ argument.Mcs ∷ argument.Mhz ∷ argument.Guard ∷ argument.Streams ∷ []
arguments_of form.RateHe =
    argument.Station ∷ argument.Format ∷ argument.Mcs ∷ argument.Mhz ∷ argument.Nanoseconds ∷ argument.Streams
    ∷ []
arguments_of form.RateOfdm = argument.Station ∷ argument.Format ∷ argument.Speed ∷ []
arguments_of form.RateDsss = argument.Station ∷ argument.Format ∷ argument.HalfSpeed ∷ []
arguments_of form.Tick = argument.By ∷ []
arguments_of form.Enqueue = argument.Station ∷ argument.Tid ∷ argument.Flow ∷ argument.Length ∷ []
arguments_of form.Pull = argument.Class ∷ []
arguments_of form.PullFrames = argument.Class ∷ argument.Framed ∷ argument.Frames ∷ []
arguments_of form.PullAir = argument.Class ∷ argument.Measured ∷ argument.Allowed ∷ []
arguments_of form.PullLimited =
    argument.Class ∷ argument.Framed ∷ argument.Frames ∷ argument.Measured ∷ argument.Allowed ∷ []
arguments_of form.Arrive = argument.Exchange ∷ argument.Index ∷ []
arguments_of form.Answer = argument.Exchange ∷ []
arguments_of form.Done = argument.Exchange ∷ argument.Heard ∷ []
arguments_of form.DoneAir = argument.Exchange ∷ argument.Heard ∷ argument.Measured ∷ argument.Air ∷ []
arguments_of form.Sleep = argument.Station ∷ []
arguments_of form.Wake = argument.Station ∷ []
arguments_of form.Poll = argument.Station ∷ []
arguments_of form.Rx = argument.Station ∷ argument.Class ∷ argument.Air ∷ []
arguments_of form.Reap = []
arguments_of form.Ampdu = argument.Station ∷ argument.Octets ∷ []
arguments_of form.Stop = argument.Station ∷ []
arguments_of form.Start = argument.Station ∷ []
arguments_of form.Unsent = argument.Exchange ∷ argument.Index ∷ []
arguments_of form.GiveUp = argument.Exchange ∷ argument.Index ∷ []
arguments_of form.Flush = argument.Station ∷ argument.Tid ∷ []
arguments_of form.Offload = argument.Station ∷ argument.Exponent ∷ argument.Weight ∷ []
arguments_of form.Weight = argument.Station ∷ argument.NewWeight ∷ []
arguments_of form.Plain = argument.Station ∷ argument.Start ∷ argument.Exponent ∷ argument.Weight ∷ []
arguments_of form.Hold = argument.Station ∷ argument.Tid ∷ []
arguments_of form.Begin = argument.Station ∷ argument.Tid ∷ argument.Window ∷ []
arguments_of form.Free = argument.Station ∷ argument.Tid ∷ []
arguments_of form.Cease = argument.Station ∷ argument.Tid ∷ []
arguments_of form.Group = argument.Length ∷ argument.Bss ∷ []
arguments_of form.Beacon = argument.Bss ∷ []
arguments_of form.Gpull = argument.Bss ∷ []
arguments_of form.Gdone = argument.Bss ∷ []
arguments_of form.Apsd = argument.Station ∷ argument.Classes ∷ argument.Most ∷ []
arguments_of form.Trigger = argument.Station ∷ []
arguments_of form.Eosp = argument.Station ∷ []
arguments_of form.Bss = argument.Station ∷ argument.NewBss ∷ []

-- the greatest number of frames that a line gives to a pull as its limit
abbrev pub greatest_frames : ℕ
greatest_frames = 65535

-- the kind of an argument
abbrev pub argument_kind : Argument → Arg
argument_kind argument.Station = kind.Short
argument_kind argument.Window = kind.Short
argument_kind argument.Start = kind.Short
argument_kind argument.Exponent = kind.Octet
argument_kind argument.Weight = kind.Weight
argument_kind argument.NewWeight = kind.Octet
argument_kind argument.Format = kind.Format
argument_kind argument.Mcs = kind.Octet
argument_kind argument.Mhz = kind.Octet
argument_kind argument.Guard = kind.Guard
argument_kind argument.Nanoseconds = kind.Short
argument_kind argument.Streams = kind.Octet
argument_kind argument.Speed = kind.Octet
argument_kind argument.HalfSpeed = kind.Octet
argument_kind argument.By = kind.Long
argument_kind argument.Tid = kind.Octet
argument_kind argument.Flow = kind.Long
argument_kind argument.Length = kind.Length
argument_kind argument.Class = kind.Class
argument_kind argument.Exchange = kind.Exchange
argument_kind argument.Index = kind.Short
argument_kind argument.Heard = kind.Heard
argument_kind argument.Measured = kind.Air
argument_kind argument.Air = kind.Long
argument_kind argument.Framed = kind.Frames
argument_kind argument.Frames = kind.Number 1 greatest_frames
argument_kind argument.Allowed = kind.Number 1 4294967295
argument_kind argument.Octets = kind.Long
argument_kind argument.Classes = kind.Octet
argument_kind argument.Most = kind.Octet
argument_kind argument.Bss = kind.Bss
argument_kind argument.NewBss = kind.Octet

-- the kinds of a form's arguments, in order
abbrev pub args_of : CallForm → List Arg
args_of form = map argument_kind (arguments_of form)

-- the weight of a station whose `join` gives none
abbrev pub weight_default : ℕ
weight_default = 1

-- the BSS of a call about group frames that gives none
abbrev pub bss_default : ℕ
bss_default = 0

-- the value of an argument that is left out, if it may be
abbrev pub default_of : Arg → Option Value
default_of kind.Weight = Some (value.Octet weight_default)
default_of kind.Bss = Some (value.Octet bss_default)
default_of _ = None

-- all forms, in the order of the help
abbrev pub forms : List CallForm
forms =
    form.Join ∷ form.Leave ∷ form.Rate ∷ form.RateVht ∷ form.RateHe ∷ form.RateOfdm ∷ form.RateDsss
    ∷ form.Tick ∷ form.Enqueue ∷ form.Pull ∷ form.PullFrames ∷ form.PullAir ∷ form.PullLimited ∷ form.Arrive
    ∷ form.Answer ∷ form.Done ∷ form.DoneAir ∷ form.Sleep ∷ form.Wake ∷ form.Poll ∷ form.Rx ∷ form.Reap
    ∷ form.Ampdu ∷ form.Stop ∷ form.Start ∷ form.Unsent ∷ form.GiveUp ∷ form.Flush ∷ form.Offload
    ∷ form.Weight ∷ form.Plain ∷ form.Hold ∷ form.Begin ∷ form.Free ∷ form.Cease ∷ form.Group ∷ form.Beacon
    ∷ form.Gpull ∷ form.Gdone ∷ form.Apsd ∷ form.Trigger ∷ form.Eosp ∷ form.Bss ∷ []

-- all calls, in their first forms
abbrev pub calls : List CallForm
calls =
    form.Join ∷ form.Leave ∷ form.Rate ∷ form.Tick ∷ form.Enqueue ∷ form.Pull ∷ form.Arrive ∷ form.Answer
    ∷ form.Done ∷ form.Sleep ∷ form.Wake ∷ form.Poll ∷ form.Rx ∷ form.Reap ∷ form.Ampdu ∷ form.Stop
    ∷ form.Start ∷ form.Unsent ∷ form.GiveUp ∷ form.Flush ∷ form.Offload ∷ form.Weight ∷ form.Plain
    ∷ form.Hold ∷ form.Begin ∷ form.Free ∷ form.Cease ∷ form.Group ∷ form.Beacon ∷ form.Gpull ∷ form.Gdone
    ∷ form.Apsd ∷ form.Trigger ∷ form.Eosp ∷ form.Bss ∷ []

-- the first form of the call with this word
abbrev pub call_named : List ℕ → Option CallForm
call_named word = find (λ call. bytes_eq (call_word call) word) calls

-- the first form of the call with this number
abbrev pub call_numbered : ℕ → Option CallForm
call_numbered number = find (λ call. form_number call == number) calls

-- the word of a format
abbrev pub format_word : RateFormat → List ℕ
format_word format.Vht = codes "vht"
format_word format.He = codes "he"
format_word format.Ofdm = codes "ofdm"
format_word format.Dsss = codes "dsss"

-- all formats that have a word
abbrev pub formats : List RateFormat
formats = format.Vht ∷ format.He ∷ format.Ofdm ∷ format.Dsss ∷ []

-- the format with this word
abbrev pub format_named : List ℕ → Option RateFormat
format_named word = find (λ f. bytes_eq (format_word f) word) formats

-- ---- the values of a call

-- the form of a rate's line
abbrev pub form_of_rate : AskedRate → CallForm
form_of_rate (Ht mcs mhz short) = form.Rate
form_of_rate (Vht mcs mhz short streams) = form.RateVht
form_of_rate (He mcs mhz guard streams) = form.RateHe
form_of_rate (Ofdm mbps) = form.RateOfdm
form_of_rate (Dsss half) = form.RateDsss

-- the form of the line of a Pull, by the limits that it gives
abbrev pub form_of_limits : Option ℕ → Option ℕ → CallForm
form_of_limits None None = form.Pull
form_of_limits (Some frames) None = form.PullFrames
form_of_limits None (Some air) = form.PullAir
form_of_limits (Some frames) (Some air) = form.PullLimited

-- the form of the line of a Done
abbrev pub form_of_end : Option ℕ → CallForm
form_of_end None = form.Done
form_of_end (Some air) = form.DoneAir

-- the form of the line of a call about group frames
abbrev pub form_of_group : GroupAsk → CallForm
form_of_group (group.Accept len) = form.Group
form_of_group group.Beacon = form.Beacon
form_of_group group.Pull = form.Gpull
form_of_group group.Done = form.Gdone

-- the form of the line of a call about service periods
abbrev pub form_of_service : ServiceAsk → CallForm
form_of_service (service.Set station classes most) = form.Apsd
form_of_service (service.Trigger station) = form.Trigger
form_of_service (service.End station) = form.Eosp

-- the form of a call's line
abbrev pub note_form : Note → CallForm
note_form (Enqueue station tid flow len) = form.Enqueue
note_form (Asked (Join station window start exponent weight)) = form.Join
note_form (Asked (Leave station)) = form.Leave
note_form (Asked (Rate station rate)) = form_of_rate rate
note_form (Asked (Tick by)) = form.Tick
note_form (Asked (Pull class limits)) = form_of_limits limits.frames limits.air
note_form (Asked (Arrive exchange index)) = form.Arrive
note_form (Asked (Answer exchange)) = form.Answer
note_form (Asked (Done exchange heard air)) = form_of_end air
note_form (Asked (Sleep station)) = form.Sleep
note_form (Asked (Wake station)) = form.Wake
note_form (Asked (Poll station)) = form.Poll
note_form (Asked (Rx station class air)) = form.Rx
note_form (Asked Reap) = form.Reap
note_form (Asked (Ampdu station octets)) = form.Ampdu
note_form (Asked (Stop station)) = form.Stop
note_form (Asked (Start station)) = form.Start
note_form (Asked (Unsent exchange index)) = form.Unsent
note_form (Asked (GiveUp exchange index)) = form.GiveUp
note_form (Asked (Flush station tid)) = form.Flush
note_form (Asked (Offload station exponent weight)) = form.Offload
note_form (Asked (Weight station weight)) = form.Weight
note_form (Asked (Plain station start exponent weight)) = form.Plain
note_form (Asked (Hold station tid)) = form.Hold
note_form (Asked (Begin station tid window)) = form.Begin
note_form (Asked (Free station tid)) = form.Free
note_form (Asked (Cease station tid)) = form.Cease
note_form (Asked (Group call)) = form_of_group call.ask
note_form (Asked (Service ask)) = form_of_service ask
note_form (Asked (Bss station bss)) = form.Bss

-- the values of a rate's arguments after the station
abbrev pub values_of_rate : AskedRate → List Value
values_of_rate (Ht mcs mhz short) = value.Octet mcs ∷ value.Octet mhz ∷ value.Guard short ∷ []
values_of_rate (Vht mcs mhz short streams) =
    value.Format format.Vht ∷ value.Octet mcs ∷ value.Octet mhz ∷ value.Guard short ∷ value.Octet streams ∷ []
values_of_rate (He mcs mhz guard streams) =
    value.Format format.He ∷ value.Octet mcs ∷ value.Octet mhz ∷ value.Short guard ∷ value.Octet streams ∷ []
values_of_rate (Ofdm mbps) = value.Format format.Ofdm ∷ value.Octet mbps ∷ []
values_of_rate (Dsss half) = value.Format format.Dsss ∷ value.Octet half ∷ []

-- the values of an airtime, if there is one: that of a Done, or the limit of a Pull
abbrev pub values_of_air : Option ℕ → List Value
values_of_air None = []
values_of_air (Some air) = value.Air ∷ value.Long air ∷ []

-- the values of the limit on frames of a Pull, if it gives one
abbrev pub values_of_frames : Option ℕ → List Value
values_of_frames None = []
values_of_frames (Some frames) = value.Frames ∷ value.Long frames ∷ []

-- the values of the arguments of a call about group frames before its BSS
abbrev pub values_of_group : GroupAsk → List Value
values_of_group (group.Accept len) = value.Short len ∷ []
values_of_group group.Beacon = []
values_of_group group.Pull = []
values_of_group group.Done = []

-- the values of the arguments of a call about service periods, in order
abbrev pub values_of_service : ServiceAsk → List Value
values_of_service (service.Set station classes most) =
    value.Short station ∷ value.Octet classes ∷ value.Octet most ∷ []
values_of_service (service.Trigger station) = value.Short station ∷ []
values_of_service (service.End station) = value.Short station ∷ []

-- the values of a call's arguments, in order
abbrev pub note_values : Note → List Value
note_values (Enqueue station tid flow len) =
    value.Short station ∷ value.Octet tid ∷ value.Long flow ∷ value.Short len ∷ []
note_values (Asked (Join station window start exponent weight)) =
    value.Short station ∷ value.Short window ∷ value.Short start ∷ value.Octet exponent ∷ value.Octet weight
    ∷ []
note_values (Asked (Leave station)) = value.Short station ∷ []
note_values (Asked (Rate station rate)) = value.Short station ∷ values_of_rate rate
note_values (Asked (Tick by)) = value.Long by ∷ []
note_values (Asked (Pull class limits)) =
    value.Class class ∷ (values_of_frames limits.frames ++ values_of_air limits.air)
note_values (Asked (Arrive exchange index)) = value.Exchange exchange ∷ value.Short index ∷ []
note_values (Asked (Answer exchange)) = value.Exchange exchange ∷ []
note_values (Asked (Done exchange heard air)) =
    value.Exchange exchange ∷ value.Heard heard ∷ values_of_air air
note_values (Asked (Sleep station)) = value.Short station ∷ []
note_values (Asked (Wake station)) = value.Short station ∷ []
note_values (Asked (Poll station)) = value.Short station ∷ []
note_values (Asked (Rx station class air)) = value.Short station ∷ value.Class class ∷ value.Long air ∷ []
note_values (Asked Reap) = []
note_values (Asked (Ampdu station octets)) = value.Short station ∷ value.Long octets ∷ []
note_values (Asked (Stop station)) = value.Short station ∷ []
note_values (Asked (Start station)) = value.Short station ∷ []
note_values (Asked (Unsent exchange index)) = value.Exchange exchange ∷ value.Short index ∷ []
note_values (Asked (GiveUp exchange index)) = value.Exchange exchange ∷ value.Short index ∷ []
note_values (Asked (Flush station tid)) = value.Short station ∷ value.Octet tid ∷ []
note_values (Asked (Offload station exponent weight)) =
    value.Short station ∷ value.Octet exponent ∷ value.Octet weight ∷ []
note_values (Asked (Weight station weight)) = value.Short station ∷ value.Octet weight ∷ []
note_values (Asked (Plain station start exponent weight)) =
    value.Short station ∷ value.Short start ∷ value.Octet exponent ∷ value.Octet weight ∷ []
note_values (Asked (Hold station tid)) = value.Short station ∷ value.Octet tid ∷ []
note_values (Asked (Begin station tid window)) =
    value.Short station ∷ value.Octet tid ∷ value.Short window ∷ []
note_values (Asked (Free station tid)) = value.Short station ∷ value.Octet tid ∷ []
note_values (Asked (Cease station tid)) = value.Short station ∷ value.Octet tid ∷ []
note_values (Asked (Group call)) = values_of_group call.ask ++ value.Octet call.bss ∷ []
note_values (Asked (Service ask)) = values_of_service ask
note_values (Asked (Bss station bss)) = value.Short station ∷ value.Octet bss ∷ []

-- the Enqueue call with these values; None if they are no values of its arguments
abbrev pub enqueued : List Value → Option Note
enqueued (value.Short station ∷ value.Octet tid ∷ value.Long flow ∷ value.Short len ∷ []) =
    Some (Enqueue station tid flow len)
enqueued _ = None

-- the limits of a Pull
abbrev pub limits : Option ℕ → Option ℕ → Limits
limits frames air = record { frames = frames; air = air }

-- the limits of a Pull that gives none
abbrev pub no_limits : Limits
no_limits = limits None None

-- a call about the group frames of a BSS
abbrev pub in_bss : ℕ → GroupAsk → GroupCall
in_bss bss ask = record { bss = bss; ask = ask }

-- the call without a frame that has this form and these values
abbrev pub ask_of : CallForm → List Value → Option Ask
ask_of form.Join (value.Short station ∷ value.Short window ∷ value.Short start ∷ value.Octet exponent
    ∷ value.Octet weight ∷ []) = Some (Join station window start exponent weight)
ask_of form.Leave (value.Short station ∷ []) = Some (Leave station)
ask_of form.Rate (value.Short station ∷ value.Octet mcs ∷ value.Octet mhz ∷ value.Guard short ∷ []) =
    Some (Rate station (Ht mcs mhz short))
ask_of form.RateVht (value.Short station ∷ value.Format format.Vht ∷ value.Octet mcs ∷ value.Octet mhz
    ∷ value.Guard short ∷ value.Octet streams ∷ []) = Some (Rate station (Vht mcs mhz short streams))
ask_of form.RateHe (value.Short station ∷ value.Format format.He ∷ value.Octet mcs ∷ value.Octet mhz
    ∷ value.Short guard ∷ value.Octet streams ∷ []) = Some (Rate station (He mcs mhz guard streams))
ask_of form.RateOfdm (value.Short station ∷ value.Format format.Ofdm ∷ value.Octet mbps ∷ []) =
    Some (Rate station (Ofdm mbps))
ask_of form.RateDsss (value.Short station ∷ value.Format format.Dsss ∷ value.Octet half ∷ []) =
    Some (Rate station (Dsss half))
ask_of form.Tick (value.Long by ∷ []) = Some (Tick by)
ask_of form.Pull (value.Class class ∷ []) = Some (Pull class (limits None None))
ask_of form.PullFrames (value.Class class ∷ value.Frames ∷ value.Long frames ∷ []) =
    Some (Pull class (limits (Some frames) None))
ask_of form.PullAir (value.Class class ∷ value.Air ∷ value.Long air ∷ []) =
    Some (Pull class (limits None (Some air)))
ask_of form.PullLimited (value.Class class ∷ value.Frames ∷ value.Long frames ∷ value.Air ∷ value.Long air
    ∷ []) = Some (Pull class (limits (Some frames) (Some air)))
ask_of form.Arrive (value.Exchange exchange ∷ value.Short index ∷ []) = Some (Arrive exchange index)
ask_of form.Answer (value.Exchange exchange ∷ []) = Some (Answer exchange)
ask_of form.Done (value.Exchange exchange ∷ value.Heard heard ∷ []) = Some (Done exchange heard None)
ask_of form.DoneAir (value.Exchange exchange ∷ value.Heard heard ∷ value.Air ∷ value.Long air ∷ []) =
    Some (Done exchange heard (Some air))
ask_of form.Sleep (value.Short station ∷ []) = Some (Sleep station)
ask_of form.Wake (value.Short station ∷ []) = Some (Wake station)
ask_of form.Poll (value.Short station ∷ []) = Some (Poll station)
ask_of form.Rx (value.Short station ∷ value.Class class ∷ value.Long air ∷ []) = Some (Rx station class air)
ask_of form.Reap [] = Some Reap
ask_of form.Ampdu (value.Short station ∷ value.Long octets ∷ []) = Some (Ampdu station octets)
ask_of form.Stop (value.Short station ∷ []) = Some (Stop station)
ask_of form.Start (value.Short station ∷ []) = Some (Start station)
ask_of form.Unsent (value.Exchange exchange ∷ value.Short index ∷ []) = Some (Unsent exchange index)
ask_of form.GiveUp (value.Exchange exchange ∷ value.Short index ∷ []) = Some (GiveUp exchange index)
ask_of form.Flush (value.Short station ∷ value.Octet tid ∷ []) = Some (Flush station tid)
ask_of form.Offload (value.Short station ∷ value.Octet exponent ∷ value.Octet weight ∷ []) =
    Some (Offload station exponent weight)
ask_of form.Weight (value.Short station ∷ value.Octet weight ∷ []) = Some (Weight station weight)
ask_of form.Plain (value.Short station ∷ value.Short start ∷ value.Octet exponent ∷ value.Octet weight ∷ []) =
    Some (Plain station start exponent weight)
ask_of form.Hold (value.Short station ∷ value.Octet tid ∷ []) = Some (Hold station tid)
ask_of form.Begin (value.Short station ∷ value.Octet tid ∷ value.Short window ∷ []) =
    Some (Begin station tid window)
ask_of form.Free (value.Short station ∷ value.Octet tid ∷ []) = Some (Free station tid)
ask_of form.Cease (value.Short station ∷ value.Octet tid ∷ []) = Some (Cease station tid)
ask_of form.Group (value.Short len ∷ value.Octet bss ∷ []) = Some (Group (in_bss bss (group.Accept len)))
ask_of form.Beacon (value.Octet bss ∷ []) = Some (Group (in_bss bss group.Beacon))
ask_of form.Gpull (value.Octet bss ∷ []) = Some (Group (in_bss bss group.Pull))
ask_of form.Gdone (value.Octet bss ∷ []) = Some (Group (in_bss bss group.Done))
ask_of form.Apsd (value.Short station ∷ value.Octet classes ∷ value.Octet most ∷ []) =
    Some (Service (service.Set station classes most))
ask_of form.Trigger (value.Short station ∷ []) = Some (Service (service.Trigger station))
ask_of form.Eosp (value.Short station ∷ []) = Some (Service (service.End station))
ask_of form.Bss (value.Short station ∷ value.Octet bss ∷ []) = Some (Bss station bss)
ask_of _ _ = None

-- the call of a form with these values; None if they are no values of its arguments
abbrev pub note_made : CallForm → List Value → Option Note
note_made form.Enqueue values = enqueued values
note_made form values = option_map Asked (ask_of form values)

-- ---- the ranges of the values

-- an argument of this kind may have this value
abbrev pub IsOfKind : Arg → Value → Type 0
IsOfKind kind.Short (value.Short n) = n < 2 ^ 16
IsOfKind kind.Octet (value.Octet n) = n < 2 ^ 8
IsOfKind kind.Long (value.Long n) = n < 2 ^ 32
IsOfKind kind.Exchange (value.Exchange n) = n < 2 ^ 32
IsOfKind kind.Length (value.Short n) = (1 ≤ n) × (n ≤ greatest_body)
IsOfKind kind.Weight (value.Octet n) = n < 2 ^ 8
IsOfKind kind.Bss (value.Octet n) = n < 2 ^ 8
IsOfKind kind.Class (value.Class c) = Unit {0}
IsOfKind kind.Format (value.Format f) = Unit {0}
IsOfKind kind.Guard (value.Guard short) = Unit {0}
IsOfKind kind.Heard (value.Heard heard) = Unit {0}
IsOfKind kind.Air value.Air = Unit {0}
IsOfKind kind.Frames value.Frames = Unit {0}
IsOfKind kind.End (value.End recipient) = Unit {0}
IsOfKind (kind.Number low high) (value.Long n) = (low ≤ n) × (n ≤ high)
IsOfKind _ _ = ⊥

-- arguments of these kinds may have these values, one by one
abbrev pub AreOfKinds : List Arg → List Value → Type 0
AreOfKinds [] [] = Unit {0}
AreOfKinds (arg ∷ args) (v ∷ values) = IsOfKind arg v × AreOfKinds args values
AreOfKinds _ _ = ⊥

-- the line has room for the value of an argument: an exchange number has at most 32 bits, a length is 1 to
-- 2304 octets, and a limit of a Pull is at least 1, a limit on frames at most 65,535. The types of Rust bound
-- all other values.
abbrev pub FitsLine : Argument → Value → Type 0
FitsLine argument.Exchange (value.Exchange n) = n < 2 ^ 32
FitsLine argument.Length (value.Short n) = (1 ≤ n) × (n ≤ greatest_body)
FitsLine argument.Frames (value.Long n) = (1 ≤ n) × (n ≤ greatest_frames)
FitsLine argument.Allowed (value.Long n) = 1 ≤ n
FitsLine _ _ = Unit {0}

-- the same for each argument
abbrev pub AllFitLine : List Argument → List Value → Type 0
AllFitLine (a ∷ arguments) (v ∷ values) = FitsLine a v × AllFitLine arguments values
AllFitLine _ _ = Unit {0}

-- each number of a call is in the range of its argument
abbrev pub NumbersAreInRange : Note → Type 0
NumbersAreInRange note = AreOfKinds (args_of (note_form note)) (note_values note)

-- the line has room for each number of a call
abbrev pub IsPrintable : Note → Type 0
IsPrintable note = AllFitLine (arguments_of (note_form note)) (note_values note)
