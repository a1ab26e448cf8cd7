-- Defines when the reply and the returned frame of a cell's call are right.
use Rattle.std.specs.Prelude.{◌≡◌, ℕ, List, Option, None, Some, length}
use Rattle.wf_frame.specs.Frames.{FrameValue}
use Rattle.wf_frame.specs.declared.classes.Fate.{Fate}
use Rattle.wf_frame.specs.declared.notes.Ask.TheVariants.{Reap}
use Rattle.wf_frame.specs.declared.notes.Note.TheVariants.{Enqueue}
use Rattle.wf_frame.specs.declared.notes.ReplyNote.{ReplyNote}
use Rattle.wf_frame.specs.declared.notes.ReplyNote.TheVariants.{Reaped, Refused}
use Rattle.wf_frame.specs.declared.settings.Config.{Config}
use Rattle.wf_def_world.specs.World.{World, frame, opening}
use Rattle.wf_def_world.specs.Run.{Entry, world_after}
use Rattle.wf_def_world.specs.Step.{step}
use Rattle.wf_path.specs.declared.job.Job.{Job}
use Rattle.wf_path.specs.declared.job.Job.TheVariants.{Give, Call}
use Rattle.wf_path.specs.Jobs.{note_of}

-- f is the frame of a reaped id: it has this id and fate, and the station, TID, flow and length of the id's
-- note
pub record IsReaped (w : World) (id : ℕ) (fate : Fate) (f : FrameValue) : Type 0 where
  pub id_is : f.id ≡ id
  pub fate_is : f.fate ≡ fate
  pub note_is : (frame w id).note ≡ Enqueue f.station f.tid f.flow (length f.body)

-- a frame is returned, and it is the frame of the reaped id
abbrev pub ComesBack : World → ℕ → Fate → Option FrameValue → Type 0
ComesBack w id fate None = ⊥
ComesBack w id fate (Some f) = IsReaped w id fate f

-- The frame that is returned with a reply: with a refused Enqueue its own frame, unchanged; with a Reaped the
-- frame of the reaped id; otherwise none.
abbrev pub IsBack : World → Job → ReplyNote → Option FrameValue → Type 0
IsBack w (Give f) (Refused reason) back = back ≡ Some f
IsBack w (Call Reap) (Reaped id fate) back = ComesBack w id fate back
IsBack w job answered back = back ≡ None

-- The answer to a job is right: the reply is the last one in the run of the history with this entry appended,
-- and the returned frame fits it.
pub record IsRight (settings : Config) (history : List Entry) (job : Job) (answered : ReplyNote)
    (back : Option FrameValue) : Type 0 where
  pub reply : answered ≡ (step (world_after (opening settings) history) (note_of job)).reply
  pub back_is : IsBack (world_after (opening settings) history) job answered back
