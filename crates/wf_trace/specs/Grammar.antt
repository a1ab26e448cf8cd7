-- Defines the call lines of a trace: the form of a line by the table of calls, and the values of its words.
use Rattle.std.specs.Prelude.{ℕ, List, [], ◌∷◌, ◌++◌, codes, Bool, true, false, if◌then◌else◌, Option, Some, None, Result, Ok, Err, find, option_map}
use Rattle.std.specs.Str.{bytes_eq}
use Rattle.wf_trace.specs.declared.fault.FaultKind.{FaultKind}
use Rattle.wf_trace.specs.declared.fault.FaultKind.TheVariants as kind
use Rattle.wf_frame.specs.declared.calls.CallForm.{CallForm}
use Rattle.wf_frame.specs.declared.calls.CallForm.TheVariants.{Rate, RateVht, RateHe, RateOfdm, RateDsss, Pull, PullFrames, PullAir, PullLimited, Done, DoneAir}
use Rattle.wf_frame.specs.declared.calls.RateFormat.{RateFormat}
use Rattle.wf_frame.specs.declared.calls.RateFormat.TheVariants.{Vht, He, Ofdm, Dsss}
use Rattle.wf_frame.specs.declared.calls.Arg.{Arg}
use Rattle.wf_frame.specs.declared.calls.Arg.TheVariants.{Short, Octet, Long, Exchange, Length, Weight, Bss, Class, Format, Guard, Heard, Air, Frames, Number, End}
use Rattle.wf_frame.specs.declared.calls.Value.{Value}
use Rattle.wf_frame.specs.declared.calls.Value.TheVariants as value
use Rattle.wf_def_lists.specs.Lengths.{greatest_body}
use Rattle.wf_frame.specs.Calls.{default_of, format_named}
use Rattle.wf_frame.specs.Classes.{class_named}
use Rattle.wf_trace.specs.Faults.{earlier_fault}
use Rattle.wf_trace.specs.Words.{number_of, in_range}

-- the form of a rate's line, by its format, if it has one
abbrev pub rate_form : Option RateFormat → CallForm
rate_form None = Rate
rate_form (Some Vht) = RateVht
rate_form (Some He) = RateHe
rate_form (Some Ofdm) = RateOfdm
rate_form (Some Dsss) = RateDsss

-- the word before the airtime of a `done`, or the one that a `pull` allows
abbrev pub air_word : List ℕ
air_word = codes "air"

-- the word before the number of frames that a `pull` allows
abbrev pub frames_word : List ℕ
frames_word = codes "frames"

-- the form of a `pull` line that has a limit on frames, by its words after `frames`
abbrev pub frames_form : List (List ℕ) → CallForm
frames_form (frames ∷ word ∷ words) = if bytes_eq air_word word then PullLimited else PullFrames
frames_form words = PullFrames

-- the form of a `pull` line, by its words after the class: it may have a limit on frames, one on airtime, or
-- both in this order
abbrev pub pull_form : List (List ℕ) → CallForm
pull_form (word ∷ words) =
    if bytes_eq frames_word word then frames_form words
    else (if bytes_eq air_word word then PullAir else Pull)
pull_form [] = Pull

-- the form of a `done` line, by its word after the other arguments
abbrev pub done_form : List ℕ → CallForm
done_form word = if bytes_eq air_word word then DoneAir else Done

-- the form of a call's line, by its words after the first: the second argument of a rate may be a format,
-- that of a `pull` `frames` or `air`, and the third of a `done` `air`
abbrev pub call_form : CallForm → List (List ℕ) → CallForm
call_form Rate (station ∷ format ∷ words) = rate_form (format_named format)
call_form Pull (class ∷ words) = pull_form words
call_form Done (exchange ∷ heard ∷ word ∷ words) = done_form word
call_form call words = call

-- the greatest number of 8 bits
abbrev pub octet_most : ℕ
octet_most = 255

-- the greatest number of 16 bits
abbrev pub short_most : ℕ
short_most = 65535

-- the greatest number of 32 bits
abbrev pub long_most : ℕ
long_most = 4294967295

-- the word of a guard interval
abbrev pub guard_word : Bool → List ℕ
guard_word short = if short then codes "short" else codes "long"

-- the word that says whether an answer was heard
abbrev pub heard_word : Bool → List ℕ
heard_word heard = if heard then codes "heard" else codes "lost"

-- the word of an end of an agreement: `a` is the originator, and `b` the recipient
abbrev pub end_word : Bool → List ℕ
end_word recipient = if recipient then codes "b" else codes "a"

-- the value of a word, for an argument whose values are words
abbrev pub known_value : Arg → List ℕ → Option Value
known_value Class word = option_map value.Class (class_named word)
known_value Format word = option_map value.Format (format_named word)
known_value Guard word =
    option_map value.Guard (find (λ short. bytes_eq (guard_word short) word) (false ∷ true ∷ []))
known_value Heard word =
    option_map value.Heard (find (λ heard. bytes_eq (heard_word heard) word) (true ∷ false ∷ []))
known_value End word =
    option_map value.End (find (λ recipient. bytes_eq (end_word recipient) word) (false ∷ true ∷ []))
known_value Air word = if bytes_eq air_word word then Some value.Air else None
known_value Frames word = if bytes_eq frames_word word then Some value.Frames else None
known_value _ word = None

-- a result with f applied to its value
abbrev pub result_seen : {X Y : Type 0} → (X → Y) → Result X FaultKind → Result Y FaultKind
result_seen f (Ok x) = Ok (f x)
result_seen f (Err fault) = Err fault

-- the value, or the fault that the word is none of those allowed
abbrev pub among : Option Value → Result Value FaultKind
among None = Err kind.Word
among (Some value) = Ok value

-- the value of an argument, given its word
abbrev pub read_arg : Arg → List ℕ → Result Value FaultKind
read_arg Short word = result_seen value.Short (in_range 0 short_most (number_of word))
read_arg Octet word = result_seen value.Octet (in_range 0 octet_most (number_of word))
read_arg Long word = result_seen value.Long (in_range 0 long_most (number_of word))
read_arg Exchange word = result_seen value.Exchange (in_range 0 long_most (number_of word))
read_arg Length word = result_seen value.Short (in_range 1 greatest_body (number_of word))
read_arg Weight word = result_seen value.Octet (in_range 0 octet_most (number_of word))
read_arg Bss word = result_seen value.Octet (in_range 0 octet_most (number_of word))
read_arg (Number low high) word = result_seen value.Long (in_range low high (number_of word))
read_arg arg word = among (known_value arg word)

-- the value, or the fault that a word is missing
abbrev pub wanted : Option Value → Result Value FaultKind
wanted None = Err kind.Count
wanted (Some value) = Ok value

-- the value of an argument that has no word
abbrev pub absent_arg : Arg → Result Value FaultKind
absent_arg arg = wanted (default_of arg)

-- one value before others, or the first of the faults in the order of the kinds
abbrev pub both : Result Value FaultKind → Result (List Value) FaultKind → Result (List Value) FaultKind
both (Ok value) (Ok values) = Ok (value ∷ values)
both (Ok value) (Err fault) = Err fault
both (Err fault) (Ok values) = Err fault
both (Err one) (Err two) = Err (earlier_fault one two)

-- the values of arguments, given the words of a line
abbrev pub read_args : List Arg → List (List ℕ) → Result (List Value) FaultKind
read_args [] [] = Ok []
read_args [] (word ∷ words) = Err kind.Count
read_args (arg ∷ args) [] = both (absent_arg arg) (read_args args [])
read_args (arg ∷ args) (word ∷ words) = both (read_arg arg word) (read_args args words)

-- the result of reading all arguments, given the fault and the values of the first ones and the result of
-- the rest
abbrev pub behind : Option FaultKind → List Value → Result (List Value) FaultKind →
    Result (List Value) FaultKind
behind None front (Ok values) = Ok (front ++ values)
behind None front (Err fault) = Err fault
behind (Some fault) front (Ok values) = Err fault
behind (Some fault) front (Err other) = Err (earlier_fault fault other)
