-- Defines the canonical line of an entry, by the table of calls.
use Rattle.std.specs.Prelude.{ℕ, List, [], ◌∷◌, ◌++◌, codes, decimal, Bool, false, ◌==◌, Option, Some, if◌then◌else◌}
use Rattle.std.specs.List.{join_with_byte}
use Rattle.wf_frame.specs.declared.calls.Arg.{Arg}
use Rattle.wf_frame.specs.declared.calls.Value.{Value}
use Rattle.wf_frame.specs.declared.calls.Value.TheVariants as value
use Rattle.wf_frame.specs.declared.notes.Note.{Note}
use Rattle.wf_frame.specs.Classes.{class_word}
use Rattle.wf_frame.specs.Words.{line}
use Rattle.wf_frame.specs.Calls.{args_of, call_word, default_of, note_form, format_word, note_values}
pub use Rattle.wf_frame.specs.Calls.{IsPrintable, NumbersAreInRange}
use Rattle.wf_trace.specs.Grammar.{guard_word, heard_word, end_word, air_word, frames_word}

-- the word of a value
abbrev pub value_word : Value → List ℕ
value_word (value.Short n) = decimal n
value_word (value.Octet n) = decimal n
value_word (value.Long n) = decimal n
value_word (value.Exchange n) = decimal n
value_word (value.Class class) = class_word class
value_word (value.Format format) = format_word format
value_word (value.Guard short) = guard_word short
value_word (value.Heard heard) = heard_word heard
value_word value.Air = air_word
value_word value.Frames = frames_word
value_word (value.End recipient) = end_word recipient

-- whether a value is left out: it equals the default of its argument. Only a number of 8 bits has a
-- default.
abbrev pub is_left_out : Option Value → Value → Bool
is_left_out (Some (value.Octet usual)) (value.Octet n) = n == usual
is_left_out _ _ = false

-- the word of an argument's value, unless it is left out
abbrev pub words_of_value : Arg → Value → List (List ℕ)
words_of_value arg v = if is_left_out (default_of arg) v then [] else value_word v ∷ []

-- the words of the values of arguments
abbrev pub words_of_values : List Arg → List Value → List (List ℕ)
words_of_values (arg ∷ args) (v ∷ values) = words_of_value arg v ++ words_of_values args values
words_of_values _ _ = []

-- the words of a call: the word of its form, and those of its values
abbrev pub note_words : Note → List (List ℕ)
note_words note = call_word (note_form note) ∷ words_of_values (args_of (note_form note)) (note_values note)

-- the word of a caller, which is left out if the caller is 0
abbrev pub caller_words : ℕ → List (List ℕ)
caller_words caller = if caller == 0 then [] else (codes "@" ++ decimal caller) ∷ []

-- the words of the canonical line of an entry
abbrev pub entry_words : ℕ → Note → List (List ℕ)
entry_words caller note = caller_words caller ++ note_words note

-- the line without its octet 10: its words, separated by one space
abbrev pub note_text : ℕ → Note → List ℕ
note_text caller note = join_with_byte 32 (entry_words caller note)

-- the canonical line of an entry
abbrev pub note_line : ℕ → Note → List ℕ
note_line caller note = line (entry_words caller note)
