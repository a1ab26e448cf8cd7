-- Defines how the fields of a struct show a call, by the table of calls: each argument has its own field.
use Rattle.std.specs.Prelude.{ℕ, nat_lt, ◌==◌, List, ◌∷◌, Option, Some, None, map, option_and_then, if◌then◌else◌}
use Rattle.wf_frame.specs.Calls.{form_number, call_numbered, arguments_of, form_of_end, form_of_limits, note_form, note_values, note_made}
use Rattle.wf_frame.specs.Classes.{all_classes, class_among, class_number}
use Rattle.wf_frame.specs.declared.calls.Argument.{Argument}
use Rattle.wf_frame.specs.declared.calls.Argument.TheVariants as argument
use Rattle.wf_frame.specs.declared.calls.CallForm.{CallForm}
use Rattle.wf_frame.specs.declared.calls.CallForm.TheVariants as form
use Rattle.wf_frame.specs.declared.calls.RateFormat.{RateFormat}
use Rattle.wf_frame.specs.declared.calls.RateFormat.TheVariants as format
use Rattle.wf_frame.specs.declared.calls.Value.{Value}
use Rattle.wf_frame.specs.declared.calls.Value.TheVariants as value
use Rattle.wf_frame.specs.declared.notes.Ask.{Ask}
use Rattle.wf_frame.specs.declared.notes.Ask.TheVariants.{Reap}
use Rattle.wf_frame.specs.declared.notes.Note.{Note}
use Rattle.wf_frame.specs.declared.notes.Note.TheVariants.{Enqueue, Asked}
use Rattle.wf_def_lists.specs.Lengths.{greatest_body}
use Rattle.wf_def_world.specs.Refusals.{is_within}
use Rattle.wf_c.specs.Numbers.{flag_of, is_up, given_number}
use Rattle.wf_c.specs.declared.cell.calls.CallNumbers.{CallNumbers}

-- all fields are 0
abbrev pub blank_call : CallNumbers
blank_call = record {
  exchange = 0;
  flow = 0;
  by = 0;
  air = 0;
  frames = 0;
  octets = 0;
  station = 0;
  window = 0;
  start = 0;
  index = 0;
  length = 0;
  guard = 0;
  kind = 0;
  tid = 0;
  class = 0;
  exponent = 0;
  weight = 0;
  form = 0;
  mcs = 0;
  mhz = 0;
  short = 0;
  streams = 0;
  heard = 0;
  speed = 0;
  classes = 0;
  most = 0;
  bss = 0;
}

-- ---- the fields of arguments

-- the number of a format; 0 is the number of HT, which is no value of the argument
abbrev pub format_number : RateFormat → ℕ
format_number format.Vht = 1
format_number format.He = 2
format_number format.Ofdm = 3
format_number format.Dsss = 4

-- the format with this number
abbrev pub format_shown : ℕ → RateFormat
format_shown n =
    if n == 1 then format.Vht
    else (if n == 2 then format.He
    else (if n == 3 then format.Ofdm else format.Dsss))

-- the value of an argument that the fields show
abbrev pub value_in : CallNumbers → Argument → Value
value_in c argument.Station = value.Short c.station
value_in c argument.Window = value.Short c.window
value_in c argument.Start = value.Short c.start
value_in c argument.Exponent = value.Octet c.exponent
value_in c argument.Weight = value.Octet c.weight
value_in c argument.NewWeight = value.Octet c.weight
value_in c argument.Format = value.Format (format_shown c.form)
value_in c argument.Mcs = value.Octet c.mcs
value_in c argument.Mhz = value.Octet c.mhz
value_in c argument.Guard = value.Guard (is_up c.short)
value_in c argument.Nanoseconds = value.Short c.guard
value_in c argument.Streams = value.Octet c.streams
value_in c argument.Speed = value.Octet c.speed
value_in c argument.HalfSpeed = value.Octet c.speed
value_in c argument.By = value.Long c.by
value_in c argument.Tid = value.Octet c.tid
value_in c argument.Flow = value.Long c.flow
value_in c argument.Length = value.Short c.length
value_in c argument.Class = value.Class (class_among all_classes c.class)
value_in c argument.Exchange = value.Exchange c.exchange
value_in c argument.Index = value.Short c.index
value_in c argument.Heard = value.Heard (is_up c.heard)
value_in c argument.Measured = value.Air
value_in c argument.Air = value.Long c.air
value_in c argument.Framed = value.Frames
value_in c argument.Frames = value.Long c.frames
value_in c argument.Allowed = value.Long c.air
value_in c argument.Octets = value.Long c.octets
value_in c argument.Classes = value.Octet c.classes
value_in c argument.Most = value.Octet c.most
value_in c argument.Bss = value.Octet c.bss
value_in c argument.NewBss = value.Octet c.bss

-- the fields after they are set to this value of an argument
abbrev pub with_argument : CallNumbers → Argument → Value → CallNumbers
with_argument c argument.Station (value.Short n) = record c { station = n }
with_argument c argument.Window (value.Short n) = record c { window = n }
with_argument c argument.Start (value.Short n) = record c { start = n }
with_argument c argument.Exponent (value.Octet n) = record c { exponent = n }
with_argument c argument.Weight (value.Octet n) = record c { weight = n }
with_argument c argument.NewWeight (value.Octet n) = record c { weight = n }
with_argument c argument.Format (value.Format f) = record c { form = format_number f }
with_argument c argument.Mcs (value.Octet n) = record c { mcs = n }
with_argument c argument.Mhz (value.Octet n) = record c { mhz = n }
with_argument c argument.Guard (value.Guard short) = record c { short = flag_of short }
with_argument c argument.Nanoseconds (value.Short n) = record c { guard = n }
with_argument c argument.Streams (value.Octet n) = record c { streams = n }
with_argument c argument.Speed (value.Octet n) = record c { speed = n }
with_argument c argument.HalfSpeed (value.Octet n) = record c { speed = n }
with_argument c argument.By (value.Long n) = record c { by = n }
with_argument c argument.Tid (value.Octet n) = record c { tid = n }
with_argument c argument.Flow (value.Long n) = record c { flow = n }
with_argument c argument.Length (value.Short n) = record c { length = n }
with_argument c argument.Class (value.Class class) = record c { class = class_number class }
with_argument c argument.Exchange (value.Exchange n) = record c { exchange = n }
with_argument c argument.Index (value.Short n) = record c { index = n }
with_argument c argument.Heard (value.Heard heard) = record c { heard = flag_of heard }
with_argument c argument.Air (value.Long n) = record c { air = n }
with_argument c argument.Frames (value.Long n) = record c { frames = n }
with_argument c argument.Allowed (value.Long n) = record c { air = n }
with_argument c argument.Octets (value.Long n) = record c { octets = n }
with_argument c argument.Classes (value.Octet n) = record c { classes = n }
with_argument c argument.Most (value.Octet n) = record c { most = n }
with_argument c argument.Bss (value.Octet n) = record c { bss = n }
with_argument c argument.NewBss (value.Octet n) = record c { bss = n }
with_argument c _ _ = c

-- the fields after they are set to these values of several arguments
abbrev pub with_arguments : CallNumbers → List Argument → List Value → CallNumbers
with_arguments c (a ∷ arguments) (v ∷ values) = with_arguments (with_argument c a v) arguments values
with_arguments c _ _ = c

-- ---- the fields of a call

-- The fields of a call: those of its arguments, and the number of its form. A Done with the airtime 0 has the
-- same fields as one without an airtime, and a Pull with the limit 0 as one without this limit: no fields
-- show such a call, so no history of a cell in C has it.
abbrev pub numbers_of_call : Note → CallNumbers
numbers_of_call note =
    record (with_arguments blank_call (arguments_of (note_form note)) (note_values note)) {
      kind = form_number (note_form note);
    }

-- ---- the call of fields

-- the form of a rate call, by the number of its format
abbrev pub form_of_format : ℕ → Option CallForm
form_of_format n =
    if n == 0 then Some form.Rate
    else (if n == 1 then Some form.RateVht
    else (if n == 2 then Some form.RateHe
    else (if n == 3 then Some form.RateOfdm
    else (if n == 4 then Some form.RateDsss
    else None))))

-- the form of a call that has a class, if there is a class with this number
abbrev pub form_of_class : CallForm → ℕ → Option CallForm
form_of_class f class = if nat_lt 3 class then None else Some f

-- the form of a call that brings a body, if a body may have this length
abbrev pub form_of_length : CallForm → ℕ → Option CallForm
form_of_length f len = if is_within 1 greatest_body len then Some f else None

-- The form of a call that the fields show: for a rate by its format, for a Done by whether it gives an
-- airtime, for a Pull by its limits. A call of a class that does not exist has none, nor has a group frame
-- with a length that no body has.
abbrev pub form_of_fields : CallNumbers → CallForm → Option CallForm
form_of_fields c form.Rate = form_of_format c.form
form_of_fields c form.Done = Some (form_of_end (given_number c.air))
form_of_fields c form.Pull =
    form_of_class (form_of_limits (given_number c.frames) (given_number c.air)) c.class
form_of_fields c form.Rx = form_of_class form.Rx c.class
form_of_fields c form.Group = form_of_length form.Group c.length
form_of_fields c call = Some call

-- the form that the fields show
abbrev pub form_shown : CallNumbers → Option CallForm
form_shown c = option_and_then (form_of_fields c) (call_numbered c.kind)

-- the call of a form, with the values that the fields show
abbrev pub note_in : CallNumbers → CallForm → Option Note
note_in c f = note_made f (map (value_in c) (arguments_of f))

-- the call, if it neither enqueues nor reaps a frame
abbrev pub without_frame : Note → Option Ask
without_frame (Enqueue station tid flow len) = None
without_frame (Asked Reap) = None
without_frame (Asked ask) = Some ask

-- the call that the fields show
unfoldable pub call_noted : CallNumbers → Option Note
call_noted c = option_and_then (note_in c) (form_shown c)

-- the call that the fields show, if it neither enqueues nor reaps a frame
unfoldable pub asked : CallNumbers → Option Ask
asked c = option_and_then without_frame (call_noted c)
