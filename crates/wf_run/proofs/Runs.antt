-- Proves the clauses of `run` about faults and about words that are no command, and splits the end of a
-- run into one statement per command. By cases of the command.
use Rattle.std.proofs.Common.{◌≡◌, ℕ, List, ap, refl, subst}
use Rattle.std.specs.Prelude.{◌≢◌, Option, Some, None}
use Rattle.wf_io.specs.declared.status.Status.{Status}
use Rattle.wf_io.specs.declared.status.Status.TheVariants.{Usage, ReadFault, WriteFault}
use Rattle.wf_trace.specs.CommandEnds.{TellsFault, CommandEnds, CommandWrites}
use Rattle.wf_run.specs.declared.help.words.Command.{Command}
use Rattle.wf_run.specs.declared.help.words.Command.TheVariants.{Replay, Soak, Live, Session, Uplink, Frames, Capture, Help, Version}
use Rattle.wf_run.specs.Runs.{EndsBy, RunEnds}
use Rattle.wf_trace_laws.specs.Endings.{TraceAnswered}
use Rattle.wf_run_replay.specs.Outcome.{StatusSays}
use Rattle.wf_run_replay.specs.CaptureOutcome.{CaptureOutcome}
use Rattle.wf_run_scripts.specs.SessionOutcome.{SessionOutcome, SessionAnswered}
use Rattle.wf_run_scripts.specs.UplinkOutcome.{UplinkOutcome, UplinkAnswered}
use Rattle.wf_report.specs.ListingOutcome.{FramesOutcome, FramesAnswered}
use Rattle.wf_run_histories.specs.Lives.{LiveStatusSays}
use Rattle.wf_run.specs.Telling.{TellingStatusSays}
use Rattle.wf_run.specs.Topics.{help_text, version_text}
use Rattle.wf_run.specs.Outcome.{SoakStatusSays}
use Rattle.wf_run.specs.declared.help.topic.Topic.{Topic}
use Rattle.wf_run_histories.specs.declared.soak.soaks.SoakKind.{SoakKind}

-- For every command: when the status is `Usage`, and how the status depends on faults.
pub record RunSays {S K : Type 0} (command : Option Command) (read_faults : S → ℕ) (write_faults : K → ℕ)
    (source source_new : S) (sink sink_new : K) (status : Status) : Type 0 where
  pub usage : status ≡ Usage → command ≡ None
  pub none : command ≡ None → status ≡ Usage
  pub source_kept : status ≡ Usage → source_new ≡ source
  pub sink_kept : status ≡ Usage → sink_new ≡ sink
  pub read : TellsFault ReadFault (read_faults source) (read_faults source_new) status
  pub write : TellsFault WriteFault (write_faults sink) (write_faults sink_new) status

-- A command that reads the source: both facts are in how it ends.
of_reader : {S K : Type 0} (command : Command) (left : S → Option (List ℕ)) (read_faults : S → ℕ)
    (held : K → Option (List ℕ)) (write_faults : K → ℕ)
    (outcome : Status → List ℕ → List ℕ → List ℕ → Type 0) (answered : List ℕ → Status → Type 0)
    (source source_new : S) (sink sink_new : K) (status : Status) →
    CommandEnds left read_faults held write_faults outcome answered source source_new sink sink_new status →
    RunSays (Some command) read_faults write_faults source source_new sink sink_new status
of_reader command left read_faults held write_faults outcome answered source source_new sink sink_new status
    ends = record {
      usage = λ is. absurd (ends.command is);
      none = λ is. absurd (cc);
      source_kept = λ is. absurd (ends.command is);
      sink_kept = λ is. absurd (ends.command is);
      read = ends.read;
      write = ends.write;
    }

-- A command that does not read the source never ends with `ReadFault` or `Usage`.
of_writer : {S K : Type 0} (command : Command) (read_faults : S → ℕ) (held : K → Option (List ℕ))
    (write_faults : K → ℕ) (outcome : Status → List ℕ → Type 0) (source source_new : S) (sink sink_new : K)
    (status : Status) → ((written : List ℕ) → outcome Usage written → ⊥) →
    ((written : List ℕ) → outcome ReadFault written → ⊥) →
    (source_new ≡ source) × CommandWrites held write_faults outcome sink sink_new status →
    RunSays (Some command) read_faults write_faults source source_new sink sink_new status
of_writer command read_faults held write_faults outcome source source_new sink sink_new status unused unread
    ends =
    let is_used : status ≢ Usage = λ is. unused ends.1.text.0
    (subst (λ s. outcome s ends.1.text.0) is ends.1.text.2) in
    record {
      usage = λ is. absurd (is_used is);
      none = λ is. absurd (cc);
      source_kept = λ is. absurd (is_used is);
      sink_kept = λ is. absurd (is_used is);
      read = record {
        risen = λ is. absurd (unread ends.1.text.0
            (subst (λ s. outcome s ends.1.text.0) is ends.1.text.2));
        quiet = λ other. ap read_faults ends.0;
      };
      write = ends.1.write;
    }

-- No command: neither source nor sink changes.
of_none : {S K : Type 0} (read_faults : S → ℕ) (write_faults : K → ℕ) (source source_new : S)
    (sink sink_new : K) (status : Status) →
    (status ≡ Usage) × (source_new ≡ source) × (sink_new ≡ sink) →
    RunSays None read_faults write_faults source source_new sink sink_new status
of_none read_faults write_faults source source_new sink sink_new status ends = record {
  usage = λ is. refl;
  none = λ is. ends.0;
  source_kept = λ is. ends.1;
  sink_kept = λ is. ends.2;
  read = record { risen = λ is. cc; quiet = λ other. ap read_faults ends.1 };
  write = record { risen = λ is. cc; quiet = λ other. ap write_faults ends.2 };
}

says_by : {S K : Type 0} (command : Option Command) (left : S → Option (List ℕ)) (read_faults : S → ℕ)
    (held : K → Option (List ℕ)) (write_faults : K → ℕ) (source source_new : S) (sink sink_new : K)
    (status : Status) →
    EndsBy command left read_faults held write_faults source source_new sink sink_new status →
    RunSays command read_faults write_faults source source_new sink sink_new status
says_by None left read_faults held write_faults source source_new sink sink_new status ends =
    of_none read_faults write_faults source source_new sink sink_new status ends
says_by (Some Replay) left read_faults held write_faults source source_new sink sink_new status ends =
    of_reader Replay left read_faults held write_faults _ _ source source_new sink sink_new status ends
says_by (Some Capture) left read_faults held write_faults source source_new sink sink_new status ends =
    of_reader Capture left read_faults held write_faults _ _ source source_new sink sink_new status ends
says_by (Some Session) left read_faults held write_faults source source_new sink sink_new status ends =
    of_reader Session left read_faults held write_faults _ _ source source_new sink sink_new status ends
says_by (Some Uplink) left read_faults held write_faults source source_new sink sink_new status ends =
    of_reader Uplink left read_faults held write_faults _ _ source source_new sink sink_new status ends
says_by (Some Frames) left read_faults held write_faults source source_new sink sink_new status ends =
    of_reader Frames left read_faults held write_faults _ _ source source_new sink sink_new status ends
says_by (Some (Soak seed calls kind)) left read_faults held write_faults source source_new sink sink_new
    status ends =
    of_writer (Soak seed calls kind) read_faults held write_faults _ source source_new sink sink_new status
    (λ written none. none) (λ written none. none) ends
says_by (Some (Live seed senders frames)) left read_faults held write_faults source source_new sink sink_new
    status ends =
    of_writer (Live seed senders frames) read_faults held write_faults _ source source_new sink sink_new
    status (λ written none. none) (λ written none. none) ends
says_by (Some (Help topic)) left read_faults held write_faults source source_new sink sink_new status ends =
    of_writer (Help topic) read_faults held write_faults _ source source_new sink sink_new status
    (λ written none. none) (λ written none. none) ends
says_by (Some Version) left read_faults held write_faults source source_new sink sink_new status ends =
    of_writer Version read_faults held write_faults _ source source_new sink sink_new status
    (λ written none. none) (λ written none. none) ends

pub run_says : {S K : Type 0} (command : Option Command) (left : S → Option (List ℕ)) (read_faults : S → ℕ)
    (held : K → Option (List ℕ)) (write_faults : K → ℕ) (source source_new : S) (sink sink_new : K)
    (status : Status) →
    RunEnds command left read_faults held write_faults source source_new sink sink_new status →
    RunSays command read_faults write_faults source source_new sink sink_new status
run_says command left read_faults held write_faults source source_new sink sink_new status run =
    says_by command left read_faults held write_faults source source_new sink sink_new status run.ends

-- How a run ends, as one statement for each command.
pub record EndsAsAsked {S K : Type 0} (command : Option Command) (left : S → Option (List ℕ)) (read_faults
    : S → ℕ)
    (held : K → Option (List ℕ)) (write_faults : K → ℕ) (source source_new : S) (sink sink_new : K)
    (status : Status) : Type 0 where
  pub replay : command ≡ Some Replay → CommandEnds left read_faults held write_faults StatusSays
      TraceAnswered source source_new sink sink_new status
  pub capture : command ≡ Some Capture → CommandEnds left read_faults held write_faults CaptureOutcome
      TraceAnswered source source_new sink sink_new status
  pub session : command ≡ Some Session → CommandEnds left read_faults held write_faults SessionOutcome
      SessionAnswered source source_new sink sink_new status
  pub uplink : command ≡ Some Uplink → CommandEnds left read_faults held write_faults UplinkOutcome
      UplinkAnswered source source_new sink sink_new status
  pub frames : command ≡ Some Frames → CommandEnds left read_faults held write_faults FramesOutcome
      FramesAnswered source source_new sink sink_new status
  pub soak : (seed calls : ℕ) (kind : SoakKind) → command ≡ Some (Soak seed calls kind) →
      (source_new ≡ source) × CommandWrites held write_faults
      (λ ended written. SoakStatusSays ended seed calls kind written) sink sink_new status
  pub live : (seed senders frames : ℕ) → command ≡ Some (Live seed senders frames) → (source_new ≡ source)
      × CommandWrites held write_faults (λ ended written. LiveStatusSays ended seed senders frames
      written) sink sink_new status
  pub help : (topic : Topic) → command ≡ Some (Help topic) → (source_new ≡ source) × CommandWrites held
      write_faults (λ ended written. TellingStatusSays ended (help_text topic) written) sink sink_new status
  pub version : command ≡ Some Version → (source_new ≡ source) × CommandWrites held write_faults (λ ended
      written. TellingStatusSays ended version_text written) sink sink_new status

pub ends_as_asked : {S K : Type 0} (command : Option Command) (left : S → Option (List ℕ)) (read_faults :
    S → ℕ)
    (held : K → Option (List ℕ)) (write_faults : K → ℕ) (source source_new : S) (sink sink_new : K)
    (status : Status) →
    RunEnds command left read_faults held write_faults source source_new sink sink_new status →
    EndsAsAsked command left read_faults held write_faults source source_new sink sink_new status
ends_as_asked command left read_faults held write_faults source source_new sink sink_new status run =
    let by_command : (asked : Option Command) → command ≡ asked →
    EndsBy asked left read_faults held write_faults source source_new sink sink_new status =
    λ asked is. subst (λ (c : Option Command). EndsBy c left read_faults held write_faults source
    source_new sink sink_new status) is run.ends in
    record {
      replay = λ is. by_command (Some Replay) is;
      capture = λ is. by_command (Some Capture) is;
      session = λ is. by_command (Some Session) is;
      uplink = λ is. by_command (Some Uplink) is;
      frames = λ is. by_command (Some Frames) is;
      soak = λ seed calls kind is. by_command (Some (Soak seed calls kind)) is;
      live = λ seed senders frames is. by_command (Some (Live seed senders frames)) is;
      help = λ topic is. by_command (Some (Help topic)) is;
      version = λ is. by_command (Some Version) is;
    }

-- Carries the end of a run over to an equal command.
pub of_same : {S K : Type 0} (command other : Option Command) (left : S → Option (List ℕ))
    (read_faults : S → ℕ) (held : K → Option (List ℕ)) (write_faults : K → ℕ) (source source_new : S)
    (sink sink_new : K) (status : Status) → command ≡ other →
    RunEnds command left read_faults held write_faults source source_new sink sink_new status →
    RunEnds other left read_faults held write_faults source source_new sink sink_new status
of_same command other left read_faults held write_faults source source_new sink sink_new status is run =
    subst (λ (c : Option Command). RunEnds c left read_faults held write_faults source source_new sink
    sink_new status) is run
