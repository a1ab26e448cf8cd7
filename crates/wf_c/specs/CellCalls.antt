-- Defines what the calls of a cell's handle do to the cell that it holds.
use Rattle.std.specs.Prelude.{◌≡◌, ◌<◌, ℕ, ℤ, pos, List, Option, Some, None}
use Rattle.wf_frame.specs.Answers.{reply_of}
use Rattle.wf_frame.specs.Frames.{FrameValue}
use Rattle.wf_frame.specs.Refusals.{refusal_number}
use Rattle.wf_frame.specs.declared.notes.Ask.{Ask}
use Rattle.wf_frame.specs.declared.notes.Ask.TheVariants.{Reap}
use Rattle.wf_frame.specs.declared.notes.Refusal.TheVariants.{BadIndex, HistoryFull}
use Rattle.wf_frame.specs.declared.notes.ReplyNote.TheVariants.{Refused}
use Rattle.wf_def_world.specs.Run.{Entry, Past, by, world_of}
use Rattle.wf_def_world.specs.Step.{step}
use Rattle.wf_def_world.specs.World.{World}
use Rattle.wf_law_runs.specs.Laws.{Laws}
use Rattle.wf_send_half_model.specs.Half.{body_of}
use Rattle.wf_send_half_model.specs.Standing.{StandsFor}
use Rattle.wf_path.specs.Jobs.{note_of, bodies_after, frame_given_back}
use Rattle.wf_path.specs.declared.job.Job.{Job}
use Rattle.wf_path.specs.declared.job.Job.TheVariants.{Call}
use Rattle.wf_cell.specs.Bodies.{body_after}
use Rattle.wf_cell.specs.Cells.{calls_left_in, with_entry}
use Rattle.wf_c.specs.Bodies.{ShowsBack}
use Rattle.wf_c.specs.CallNumbers.{numbers_of_call}
use Rattle.wf_c.specs.Numbers.{numbers_of}
use Rattle.wf_c.specs.declared.cell.calls.CallNumbers.{CallNumbers}
use Rattle.wf_c.specs.declared.cell.held.HeldCell.{HeldCell}
use Rattle.wf_c.specs.declared.frames.Taken.{Taken}
use Rattle.wf_c.specs.declared.reply.Reply.{Reply}

-- the handle holds a cell with this past
abbrev pub HasPast : Option HeldCell → Past → Type 0
HasPast None p = ⊥
HasPast (Some h) p = h.cell.past ≡ p

-- the path of the cell that the handle holds represents world w
abbrev pub StandsIn : Option HeldCell → World → (ℕ → FrameValue) → Type 0
StandsIn None w bodies = ⊥
StandsIn (Some h) w bodies = StandsFor h.cell.half w bodies

-- the handle holds something before and after, and R relates the two
abbrev pub TurnsInto : (HeldCell → HeldCell → Type 0) → Option HeldCell → Option HeldCell → Type 0
TurnsInto R (Some h) (Some k) = R h k
TurnsInto R _ _ = ⊥

-- The effect of a caller's call: h before, k after, and the caller's struct.
--
--   past       if there is room, the history has the call,
--   reply      and the answer is the machine's
--   stands     for all bodies with which the path represented the world before, it represents the world after
--              the history
--   bodies     an accepted frame adds the body of its id, and a reaped frame removes it; all other bodies are
--              unchanged
--   full       if there is no room, the call is refused,
--   unchanged  and nothing changes
--   laws       all laws of runs hold of the cell's past
--   shows      the struct shows the answer
pub record IsStepped (h : HeldCell) (caller : ℕ) (job : Job) (k : HeldCell) (shown : Reply) : Type 0 where
  pub past : 0 < calls_left_in h.cell.past → k.cell.past ≡ with_entry (by caller (note_of job)) h.cell.past
  pub reply : 0 < calls_left_in h.cell.past → reply_of k.answer ≡ (step (world_of h.cell.past)
      (note_of job)).reply
  pub stands : 0 < calls_left_in h.cell.past → (bodies : ℕ → FrameValue) →
      StandsFor h.cell.half (world_of h.cell.past) bodies →
      StandsFor k.cell.half (world_of k.cell.past)
      (bodies_after h.cell.half (world_of h.cell.past) job (reply_of k.answer) bodies)
  pub bodies : 0 < calls_left_in h.cell.past → (id : ℕ) →
      body_of k.cell.half id ≡ body_after h.cell.half (reply_of k.answer) job id
  pub full : calls_left_in h.cell.past ≡ 0 → reply_of k.answer ≡ Refused HistoryFull
  pub unchanged : calls_left_in h.cell.past ≡ 0 → k.cell ≡ h.cell
  pub laws : Laws k.cell.past.config k.cell.past.history
  pub shows : shown ≡ numbers_of k.answer.brief

-- the code of numbers that show no call without a frame
abbrev pub bad_call : ℕ
bad_call = 63

-- The effect of a call by numbers on a handle and on the caller's struct: if the numbers show a call, it is
-- made; otherwise nothing changes.
abbrev pub IsAsked : Option Ask → ℕ → Option HeldCell → Reply → Option HeldCell → Reply → ℤ → Type 0
IsAsked (Some ask) caller old before new shown code =
    TurnsInto (λ h k. IsStepped h caller (Call ask) k shown) old new × (code ≡ pos shown.refusal)
IsAsked None caller old before new shown code = (new ≡ old) × ((shown ≡ before) × (code ≡ pos bad_call))

-- The effect of a reap: h before, k after, and the caller's struct and buffer, which then show the frame that
-- was accepted with the id that was reaped. If none is reaped, or the history is full, both are unchanged
-- (`was` and `before`).
pub record IsTakenBack (h : HeldCell) (caller : ℕ) (k : HeldCell) (shown : Reply) (was : Taken)
    (before : List ℕ) (taken : Taken) (buffer : List ℕ) : Type 0 where
  pub stepped : IsStepped h caller (Call Reap) k shown
  pub back : 0 < calls_left_in h.cell.past → (bodies : ℕ → FrameValue) →
      StandsFor h.cell.half (world_of h.cell.past) bodies →
      ShowsBack (frame_given_back bodies (Call Reap) (reply_of k.answer)) was before taken buffer
  pub full : calls_left_in h.cell.past ≡ 0 → ShowsBack None was before taken buffer

-- the code of an entry that the history does not have
abbrev pub no_entry : ℕ
no_entry = refusal_number BadIndex

-- the caller's numbers show an entry; or the code says that there is none, and they are unchanged (`was` and
-- `before`)
abbrev pub ShowsEntry : Option Entry → ℕ → CallNumbers → ℤ → ℕ → CallNumbers → Type 0
ShowsEntry (Some e) was before code caller shown =
    (code ≡ pos 0) × ((caller ≡ e.0) × (shown ≡ numbers_of_call e.1))
ShowsEntry None was before code caller shown =
    (code ≡ pos no_entry) × ((caller ≡ was) × (shown ≡ before))
