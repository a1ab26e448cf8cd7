-- Defines what the status of a replay means.
use Rattle.std.specs.Prelude.{ℕ, List}
use Rattle.wf_io.specs.declared.status.Status.{Status}
use Rattle.wf_trace_laws.specs.Outcomes.{TraceOutcome}
use Rattle.wf_run_replay.specs.Texts.{text, answers}

-- By the octets of the input, those of them that were read, and those that were written: the text, or the
-- answers to the calls so far.
abbrev pub StatusSays : Status → List ℕ → List ℕ → List ℕ → Type 0
StatusSays status input taken written = TraceOutcome answers text status input taken written
