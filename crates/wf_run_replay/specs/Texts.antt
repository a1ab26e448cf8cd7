-- Defines the text that is written for a trace.
use Rattle.std.specs.Prelude.{ℕ, List, [], ◌++◌, Option, Some, None}
use Rattle.wf_frame.specs.declared.settings.Config.{Config}
use Rattle.wf_trace.specs.declared.reader.Item.{Item}
use Rattle.wf_trace.specs.declared.reader.Item.TheVariants as item
use Rattle.wf_trace.specs.Faults.{fault_line}
use Rattle.wf_trace.specs.Reading.{Reading}
use Rattle.wf_trace_laws.specs.Histories.{settings_among, history_among}
use Rattle.wf_def_world.specs.Run.{Entry}
use Rattle.wf_def_world.specs.Text.{answer_lines, text_of}

-- The answer lines of a history, or none if there is no head.
abbrev pub answers_of : Option Config → List Entry → List ℕ
answers_of None history = []
answers_of (Some config) history = answer_lines config history

-- By how a trace ends: the text of its history, or its answer lines and the fault line.
abbrev pub text_by : Option Config → List Entry → Option Item → List ℕ
text_by (Some config) history (Some item.Finish) = text_of config history
text_by None history (Some item.Finish) = []
text_by config history (Some (item.Bad fault)) = answers_of config history ++ fault_line fault
text_by config history (Some (item.Head other)) = answers_of config history
text_by config history (Some (item.Entry caller note)) = answers_of config history
text_by config history None = answers_of config history

-- The answers to a trace.
abbrev pub answers : Reading → List ℕ
answers r = answers_of (settings_among r.items) (history_among r.items)

-- The complete text that is written for a trace.
abbrev pub text : Reading → List ℕ
text r = text_by (settings_among r.items) (history_among r.items) r.ending
