-- Defines the bodies of the frames in a cell after a call, by their ids.
use Rattle.std.specs.Prelude.{ℕ, ◌==◌, List, Option, None, Some, if◌then◌else◌}
use Rattle.wf_frame.specs.declared.notes.ReplyNote.{ReplyNote}
use Rattle.wf_frame.specs.declared.notes.ReplyNote.TheVariants.{Accepted, Reaped}
use Rattle.wf_send_half_model.specs.Half.{TransmitValue, body_of}
use Rattle.wf_path.specs.declared.job.Job.{Job}
use Rattle.wf_path.specs.declared.job.Job.TheVariants.{Give}

-- The body of each id after a call: an accepted frame adds the body of its new id, a reaped frame removes its
-- own, and all others are unchanged.
abbrev pub body_after : TransmitValue → ReplyNote → Job → ℕ → Option (List ℕ)
body_after v (Accepted new dropped) (Give f) id = if id == new then Some f.body else body_of v id
body_after v (Reaped gone fate) job id = if id == gone then None else body_of v id
body_after v answered job id = body_of v id
