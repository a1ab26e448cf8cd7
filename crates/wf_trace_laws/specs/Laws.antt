-- Defines the laws that hold for the run of a trace.
use Rattle.std.specs.Prelude.{◌≡◌, Some}
use Rattle.wf_frame.specs.declared.settings.Config.{Config}
use Rattle.wf_law_runs.specs.Laws.{Laws}
use Rattle.wf_law_runs.specs.Lengths.{HasLengths}
use Rattle.wf_trace.specs.Reading.{Reading}
use Rattle.wf_trace_laws.specs.Histories.{settings_among, history_among}

-- If a trace has a head, the laws hold for the run of its calls: the window law, the deficit law, the
-- fairness law, and the others. Its frames also have the lengths that some of these laws require.
abbrev pub HasLaws : Reading → Type 0
HasLaws r = (config : Config) → settings_among r.items ≡ Some config →
    Laws config (history_among r.items) × HasLengths (history_among r.items)
