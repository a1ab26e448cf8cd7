-- Defines what a replay writes, call by call.
use Rattle.std.specs.Prelude.{ℕ, List, [], Option, Some, None}
use Rattle.wf_frame.specs.declared.notes.Note.{Note}
use Rattle.wf_trace.specs.declared.reader.Item.{Item}
use Rattle.wf_trace.specs.declared.reader.Item.TheVariants.{Head, Entry, Finish, Bad}
use Rattle.wf_trace.specs.Faults.{fault_line}
use Rattle.wf_def_world.specs.World.{World}
use Rattle.wf_def_world.specs.Step.{Outcome, step}
use Rattle.wf_def_world.specs.Run.{Past}
use Rattle.wf_def_world.specs.Text.{answer_line, summary}
use Rattle.wf_trace_laws.specs.Running.{progress_of}
use Rattle.wf_trace_laws.specs.Tellings.{Telling}

-- The answer line of a call.
abbrev pub answer_in : World → Note → List ℕ
answer_in w note = let o : Outcome = step w note in answer_line o.reply

-- The last lines, after this number of calls.
abbrev pub closing : Option World → ℕ → Option Item → List ℕ
closing (Some w) calls (Some Finish) = summary w calls
closing None calls (Some Finish) = []
closing w calls (Some (Bad fault)) = fault_line fault
closing w calls (Some (Head config)) = []
closing w calls (Some (Entry caller note)) = []
closing w calls None = []

-- Nothing at first, then the answer line of each call, and the last lines.
abbrev pub telling : Telling
telling = record { front = []; call = answer_in; last = closing }

-- The last octets of a telling after a history, when the trace ends.
abbrev pub told_at_end : Telling → Option Past → List ℕ
told_at_end t p = t.last (progress_of p).world (progress_of p).calls (Some Finish)

-- The last octets of a replay.
abbrev pub closing_of : Option Past → List ℕ
closing_of p = told_at_end telling p
