-- Defines what the status of a soak means, and the laws of the program.
use Rattle.std.specs.Prelude.{◌≡◌, ◌≤◌, ℕ, List, length, true, Option, Some}
use Rattle.wf_frame.specs.Settings.{standard}
use Rattle.wf_io.specs.Fronts.{IsFrontOf}
use Rattle.wf_io.specs.declared.status.Status.{Status}
use Rattle.wf_io.specs.declared.status.Status.TheVariants.{Done, Usage, BadTrace, ReadFault, WriteFault, NoMemory}
use Rattle.wf_trace.specs.Reading.{reading}
use Rattle.wf_def_world.specs.World.{opening}
use Rattle.wf_def_world.specs.Run.{Entry, world_after}
use Rattle.wf_def_world.specs.Text.{summary, text_of}
use Rattle.wf_law_runs.specs.Laws.{Laws}
use Rattle.wf_law_runs.specs.Lengths.{HasLengths}
use Rattle.wf_trace_laws.specs.Laws.{HasLaws}
use Rattle.wf_run_replay.specs.Texts.{text}
use Rattle.wf_run_replay.specs.CaptureOutcome.{CaptureLaw}
use Rattle.wf_run_scripts.specs.SessionOutcome.{SessionLaw}
use Rattle.wf_run_scripts.specs.UplinkOutcome.{UplinkLaw}
use Rattle.wf_report.specs.ListingLaw.{FramesLaw}
use Rattle.wf_run_histories.specs.declared.soak.soaks.SoakKind.{SoakKind}
use Rattle.wf_run_histories.specs.Soak.{soak_history}
use Rattle.wf_run_histories.specs.Lives.{IsLiveHistory, TellsOf}

-- The text that a soak writes: the summary of its history.
unfoldable pub soak_text : ℕ → ℕ → SoakKind → List ℕ
soak_text seed calls kind = summary (world_after (opening standard) (soak_history seed calls kind)) calls

-- The part of a soak's summary that was written, by its status: all of it after `Done`, a prefix after a
-- failed write or out of memory.
abbrev pub SoakStatusSays : Status → ℕ → ℕ → SoakKind → List ℕ → Type 0
SoakStatusSays Done seed calls kind written = (written ≡ soak_text seed calls kind) ×
    (length (soak_history seed calls kind) ≡ calls)
SoakStatusSays WriteFault seed calls kind written = IsFrontOf written (soak_text seed calls kind)
SoakStatusSays NoMemory seed calls kind written = IsFrontOf written (soak_text seed calls kind)
SoakStatusSays BadTrace seed calls kind written = ⊥
SoakStatusSays ReadFault seed calls kind written = ⊥
SoakStatusSays Usage seed calls kind written = ⊥

-- The laws of the commands. They hold for the source's input, if it is known, for every soak, and for every
-- history of `live`.
pub record ProgramLaws (left : Option (List ℕ)) : Type 0 where
  -- All laws hold for the run of the trace that is the input.
  pub laws : (input : List ℕ) → left ≡ Some input → HasLaws (reading true input)
  -- `frames` lists the packets of its capture, in order.
  pub capture_law : (input : List ℕ) → left ≡ Some input → CaptureLaw input
  -- The law of agreements holds for the script that is the input.
  pub session_law : (input : List ℕ) → left ≡ Some input → SessionLaw input
  -- The laws of the uplink hold for the script that is the input.
  pub uplink_law : (input : List ℕ) → left ≡ Some input → UplinkLaw input
  -- The law of lists holds for the capture that is the input.
  pub frames_law : (input : List ℕ) → left ≡ Some input → FramesLaw input
  pub soak_laws : (seed calls : ℕ) (kind : SoakKind) → Laws standard (soak_history seed calls kind)
  pub soak_lengths : (seed calls : ℕ) (kind : SoakKind) → HasLengths (soak_history seed calls kind)
  -- A replay of the trace that `live` writes ends with the summary that `live` writes.
  pub live_again : (history : List Entry) (written : List ℕ) → TellsOf history written →
      text (reading true written) ≡ text_of standard history
  pub live_laws : (seed senders frames : ℕ) (history : List Entry) →
      IsLiveHistory seed senders frames history → Laws standard history
  pub live_lengths : (seed senders frames : ℕ) (history : List Entry) → senders ≤ 8 →
      IsLiveHistory seed senders frames history → HasLengths history
