-- Defines the call of a line by its words, and how the values of other lines are read.
use Rattle.std.specs.Prelude.{ℕ, Bool, false, List, [], ◌∷◌, Option, Some, None, Result, Ok, Err, slice_get}
use Rattle.wf_trace.specs.declared.fault.FaultKind.{FaultKind}
use Rattle.wf_trace.specs.declared.fault.FaultKind.TheVariants as kind
use Rattle.wf_frame.specs.declared.calls.CallForm.{CallForm}
use Rattle.wf_frame.specs.declared.calls.Value.{Value}
use Rattle.wf_frame.specs.declared.calls.Value.TheVariants as value
use Rattle.wf_frame.specs.declared.notes.Note.{Note}
use Rattle.wf_frame.specs.Calls.{args_of, call_named, note_made}
use Rattle.wf_trace.specs.Grammar.{call_form, read_args}

-- ---- lines of other commands

-- the number of 32 bits of a value; 0 if it is none
abbrev pub long_in : Option Value → ℕ
long_in (Some (value.Long l)) = l
long_in _ = 0

-- the same for the value at an index
abbrev pub long_at : List Value → ℕ → ℕ
long_at values i = long_in (slice_get values i)

-- whether the guard interval of a value is short; false if it is none
abbrev pub guard_in : Option Value → Bool
guard_in (Some (value.Guard g)) = g
guard_in _ = false

-- the same for the value at an index
abbrev pub guard_at : List Value → ℕ → Bool
guard_at values i = guard_in (slice_get values i)

-- whether the end of a value is the recipient; false if it is none
abbrev pub end_in : Option Value → Bool
end_in (Some (value.End e)) = e
end_in _ = false

-- the same for the value at an index
abbrev pub end_at : List Value → ℕ → Bool
end_at values i = end_in (slice_get values i)

-- ---- calls

-- The call with the values that were read. They are values of its arguments, so None is unreached.
abbrev pub made : Option Note → Result Note FaultKind
made None = Err kind.Word
made (Some note) = Ok note

-- the call, if its arguments were read
abbrev pub noted : CallForm → Result (List Value) FaultKind → Result Note FaultKind
noted form (Ok values) = made (note_made form values)
noted form (Err fault) = Err fault

-- the call of this form, given its words after the first
abbrev pub in_form : CallForm → List (List ℕ) → Result Note FaultKind
in_form form words = noted form (read_args (args_of form) words)

-- the call, given the form of its first word and the words after it
abbrev pub called : Option CallForm → List (List ℕ) → Result Note FaultKind
called None words = Err kind.Word
called (Some call) words = in_form (call_form call words) words

-- the call of a line, given its words
abbrev pub read_call : List (List ℕ) → Result Note FaultKind
read_call [] = Err kind.Word
read_call (name ∷ words) = called (call_named name) words
