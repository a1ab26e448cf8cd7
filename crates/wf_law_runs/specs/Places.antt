-- Defines the law of places: the place of each held frame.
use Rattle.std.specs.Prelude.{◌≡◌, ℕ, ◌<◌, ◌≤◌, true, false, List, map}
use Rattle.wf_frame.specs.declared.settings.Config.{Config}
use Rattle.wf_frame.specs.declared.classes.Fate.TheVariants.{Held}
use Rattle.wf_def_lists.specs.Table.{has}
use Rattle.wf_def_agreement.specs.Session.{slot, is_settled, next_number}
use Rattle.wf_def_world.specs.World.{World, session, queue, frame, accepted_count}
use Rattle.wf_def_world.specs.Run.{Entry}
use Rattle.wf_def_world.specs.Stretches.{world_at}
use Rattle.wf_law_runs.specs.Queues.{IsFor, QueueIsListed}

-- A place of a frame: a flow queue, or a number of a station's TID.
pub data Place : Type 0 where
  Queued : (queue : ℕ) → Place
  Numbered : (station : ℕ) → (tid : ℕ) → (number : ℕ) → Place

-- Number n of the TID carries the frame and is not settled: it waits or is on the air.
pub record IsNumbered (w : World) (id s t n : ℕ) : Type 0 where
  pub from : (session w s t).first ≤ n
  pub below : n < next_number (session w s t)
  pub carries : (slot (session w s t) n).id ≡ id
  pub unsettled : is_settled (slot (session w s t) n).state ≡ false

-- The frame is in this place.
abbrev pub StandsAt : World → ℕ → Place → Type 0
StandsAt w id (Queued q) = has (map (λ x. x.id) (queue w q).items) id ≡ true
StandsAt w id (Numbered s t n) = IsNumbered w id s t n

-- The place belongs to the TID of the frame's Enqueue: this TID lists the queue, or the number is its own.
abbrev pub IsRightFor : World → ℕ → Place → Type 0
IsRightFor w id (Queued q) = (s t : ℕ) → QueueIsListed w s t q → IsFor s t (frame w id).note
IsRightFor w id (Numbered s t n) = IsFor s t (frame w id).note

-- The frame is in one place and in no other.
pub record StandsOnce (w : World) (id : ℕ) : Type 0 where
  pub place : Place
  pub stands : StandsAt w id place
  pub only : (p : Place) → StandsAt w id p → p ≡ place
  pub right : IsRightFor w id place

-- Each held frame is in exactly one place, and each frame in a place is held.
pub record KeepsPlaces (w : World) : Type 0 where
  pub held : (id : ℕ) → id < accepted_count w → (frame w id).fate ≡ Held → StandsOnce w id
  pub only_held : (id : ℕ) (p : Place) → StandsAt w id p → (id < accepted_count w) ×
      ((frame w id).fate ≡ Held)

-- The law: `KeepsPlaces` holds after each entry of a history.
abbrev pub PlaceLaw : Config → List Entry → Type 0
PlaceLaw config history = (m : ℕ) → KeepsPlaces (world_at config history m)
