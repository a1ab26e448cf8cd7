-- Defines the words of the frames of an exchange, and which answers are one or two words.
use Rattle.std.specs.Prelude.{ℕ, Bool, true, false, List, ◌++◌, codes, decimal}
use Rattle.wf_frame.specs.declared.answers.Brief.{Brief}
use Rattle.wf_frame.specs.declared.answers.Brief.TheVariants.{Joined, Set, Slept, Woken, Stopped, Started, Marked, Ack, Begun, Freed, Left, Flushed, Now, Held, Polled, Charged}

-- A frame of an aggregate or of a plain exchange: its id and its sequence number.
abbrev pub pair_text : ℕ × ℕ → List ℕ
pair_text p = decimal p.0 ++ codes ":" ++ decimal p.1

-- whether the line of an answer is one or two words
abbrev pub is_one_or_two_words : Brief → Bool
is_one_or_two_words Joined = true
is_one_or_two_words Set = true
is_one_or_two_words Slept = true
is_one_or_two_words Woken = true
is_one_or_two_words Stopped = true
is_one_or_two_words Started = true
is_one_or_two_words Marked = true
is_one_or_two_words Ack = true
is_one_or_two_words Begun = true
is_one_or_two_words Freed = true
is_one_or_two_words (Left dropped) = true
is_one_or_two_words (Flushed dropped) = true
is_one_or_two_words (Now now) = true
is_one_or_two_words (Held start) = true
is_one_or_two_words (Polled class) = true
is_one_or_two_words (Charged deficit) = true
is_one_or_two_words _ = false
