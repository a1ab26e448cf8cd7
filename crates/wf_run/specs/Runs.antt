-- Defines how a run ends, by its command.
use Rattle.std.specs.Prelude.{◌≡◌, ℕ, List, Option, Some, None}
use Rattle.wf_io.specs.declared.status.Status.{Status}
use Rattle.wf_io.specs.declared.status.Status.TheVariants.{Usage}
use Rattle.wf_trace.specs.CommandEnds.{CommandEnds, CommandWrites}
use Rattle.wf_trace_laws.specs.Endings.{TraceAnswered}
use Rattle.wf_run_replay.specs.Outcome.{StatusSays}
use Rattle.wf_run_replay.specs.CaptureOutcome.{CaptureOutcome}
use Rattle.wf_run_scripts.specs.SessionOutcome.{SessionOutcome, SessionAnswered}
use Rattle.wf_run_scripts.specs.UplinkOutcome.{UplinkOutcome, UplinkAnswered}
use Rattle.wf_report.specs.ListingOutcome.{FramesOutcome, FramesAnswered}
use Rattle.wf_run_histories.specs.Lives.{LiveStatusSays}
use Rattle.wf_run.specs.Telling.{TellingStatusSays}
use Rattle.wf_run.specs.Topics.{help_text, version_text}
use Rattle.wf_run.specs.declared.help.words.Command.{Command}
use Rattle.wf_run.specs.declared.help.words.Command.TheVariants.{Replay, Soak, Live, Session, Uplink, Frames, Capture, Help, Version}
use Rattle.wf_run.specs.Outcome.{SoakStatusSays}

-- How a run ends, by its command and by the contents of source and sink, as in `CommandEnds`. Words that are
-- no command leave both unchanged; a command that does not read leaves the source unchanged.
abbrev pub EndsBy : {S K : Type 0} → Option Command → (S → Option (List ℕ)) → (S → ℕ) →
    (K → Option (List ℕ)) → (K → ℕ) → S → S → K → K → Status → Type 0
EndsBy None left read_faults held write_faults source source_new sink sink_new status =
    (status ≡ Usage) × (source_new ≡ source) × (sink_new ≡ sink)
EndsBy (Some Replay) left read_faults held write_faults source source_new sink sink_new status =
    CommandEnds left read_faults held write_faults StatusSays TraceAnswered source source_new sink sink_new
    status
EndsBy (Some Capture) left read_faults held write_faults source source_new sink sink_new status =
    CommandEnds left read_faults held write_faults CaptureOutcome TraceAnswered source source_new sink
    sink_new status
EndsBy (Some Session) left read_faults held write_faults source source_new sink sink_new status =
    CommandEnds left read_faults held write_faults SessionOutcome SessionAnswered source source_new sink
    sink_new status
EndsBy (Some Uplink) left read_faults held write_faults source source_new sink sink_new status =
    CommandEnds left read_faults held write_faults UplinkOutcome UplinkAnswered source source_new sink
    sink_new status
EndsBy (Some Frames) left read_faults held write_faults source source_new sink sink_new status =
    CommandEnds left read_faults held write_faults FramesOutcome FramesAnswered source source_new sink
    sink_new status
EndsBy (Some (Soak seed calls kind)) left read_faults held write_faults source source_new sink sink_new
    status =
    (source_new ≡ source) × CommandWrites held write_faults
    (λ ended written. SoakStatusSays ended seed calls kind written) sink sink_new status
EndsBy (Some (Live seed senders frames)) left read_faults held write_faults source source_new sink sink_new
    status =
    (source_new ≡ source) × CommandWrites held write_faults
    (λ ended written. LiveStatusSays ended seed senders frames written) sink sink_new status
EndsBy (Some (Help topic)) left read_faults held write_faults source source_new sink sink_new status =
    (source_new ≡ source) × CommandWrites held write_faults
    (λ ended written. TellingStatusSays ended (help_text topic) written) sink sink_new status
EndsBy (Some Version) left read_faults held write_faults source source_new sink sink_new status =
    (source_new ≡ source) × CommandWrites held write_faults
    (λ ended written. TellingStatusSays ended version_text written) sink sink_new status

-- How a run of this command ends.
pub record RunEnds {S K : Type 0} (command : Option Command) (left : S → Option (List ℕ)) (read_faults : S
    → ℕ)
    (held : K → Option (List ℕ)) (write_faults : K → ℕ) (source source_new : S) (sink sink_new : K)
    (status : Status) : Type 0 where
  pub ends : EndsBy command left read_faults held write_faults source source_new sink sink_new status
