-- Defines the law of the finished list, and the ids that were reaped from it, after every entry of every
-- run.
use Rattle.std.specs.Prelude.{◌≡◌, ◌≢◌, ◌↔◌, ℕ, ◌<◌, true, List, [], ◌∷◌, ◌++◌, take}
use Rattle.wf_frame.specs.declared.settings.Config.{Config}
use Rattle.wf_frame.specs.declared.classes.Fate.TheVariants.{Held}
use Rattle.wf_frame.specs.declared.notes.ReplyNote.{ReplyNote}
use Rattle.wf_frame.specs.declared.notes.ReplyNote.TheVariants.{Reaped}
use Rattle.wf_def_lists.specs.Lists.{IsOnce}
use Rattle.wf_def_lists.specs.Table.{has}
use Rattle.wf_def_world.specs.World.{World, frame, accepted_count, opening}
use Rattle.wf_def_world.specs.Step.{step}
use Rattle.wf_def_world.specs.Run.{Entry}
use Rattle.wf_def_world.specs.Stretches.{world_at}

-- Returns the id that a reply reports as reaped.
abbrev pub reaped_id : ReplyNote → List ℕ
reaped_id (Reaped id fate) = id ∷ []
reaped_id reply = []

-- Returns the ids that the replies of a history report as reaped, in their order.
abbrev pub reaped_ids : World → List Entry → List ℕ
reaped_ids w [] = []
reaped_ids w (e ∷ es) = reaped_id (step w e.1).reply ++ reaped_ids (step w e.1).world es

-- The frame was accepted, and its fate is not Held.
abbrev pub IsSettled : World → ℕ → Type 0
IsSettled w id = (id < accepted_count w) × ((frame w id).fate ≢ Held)

-- The finished list of a world; `reaped` are the ids that were reaped before.
pub record KeepsFinished (reaped : List ℕ) (w : World) : Type 0 where
  -- No id is reaped twice, on the finished list twice, or both reaped and on the list.
  pub once : IsOnce (reaped ++ w.finished)
  -- An id was reaped or is on the finished list if and only if its frame has a fate other than Held.
  pub exactly : (id : ℕ) → (has (reaped ++ w.finished) id ≡ true) ↔ IsSettled w id

-- The law: `KeepsFinished` holds after each entry of a history.
abbrev pub FinishedLaw : Config → List Entry → Type 0
FinishedLaw config history =
    (m : ℕ) → KeepsFinished (reaped_ids (opening config) (take m history)) (world_at config history m)
