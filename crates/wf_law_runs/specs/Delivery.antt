-- Defines the law of delivery: each acknowledged frame has reached the receiver for which it was enqueued.
use Rattle.std.specs.Prelude.{◌≡◌, ℕ, ◌<◌, ◌≤◌, Bool, true, false, ◌||◌, List, [], ◌∷◌, ◌++◌, map, Option, None, Some}
use Rattle.wf_frame.specs.declared.notes.Ask.TheVariants.{Done}
use Rattle.wf_frame.specs.declared.notes.Note.{Note}
use Rattle.wf_frame.specs.declared.notes.Note.TheVariants.{Asked}
use Rattle.wf_def_world.specs.Step.{step}
use Rattle.wf_frame.specs.declared.settings.Config.{Config}
use Rattle.wf_frame.specs.declared.classes.Fate.TheVariants.{Held, Acked}
use Rattle.wf_def_lists.specs.Table.{has}
use Rattle.wf_def_agreement.specs.Session.{State, slot, next_number}
use Rattle.wf_def_world.specs.World.{World, Exchange, session, receiver, is_live, frame, exchange, opening}
use Rattle.wf_def_world.specs.Exchanges.{mpdus_of}
use Rattle.wf_def_world.specs.Run.{Entry, world_after}
use Rattle.wf_law_runs.specs.Queues.{IsFor}

-- A number of the station and TID of the frame's Enqueue carries the frame, is acknowledged, and has
-- arrived at the receiver.
pub record HasReached (w : World) (id : ℕ) : Type 0 where
  pub station : ℕ
  pub tid : ℕ
  pub number : ℕ
  pub own : IsFor station tid (frame w id).note
  pub live : is_live w station ≡ true
  pub from : (session w station tid).first ≤ number
  pub below : number < next_number (session w station tid)
  pub carries : (slot (session w station tid) number).id ≡ id
  pub acked : (slot (session w station tid) number).state ≡ State.Acked
  pub arrived : has (receiver w station tid).arrived number ≡ true

-- Returns the ids of the frames that an exchange sends, or none if it is not open.
abbrev pub ids_sent : Option Exchange → List ℕ
ids_sent None = []
ids_sent (Some x) = map (λ m. m.id) (mpdus_of x.content)

-- Returns whether an exchange is open and is for an offloaded station.
abbrev pub is_batch : Option Exchange → Bool
is_batch None = false
is_batch (Some x) = x.batch

-- The call is a Done of an exchange that sends the frame, and the answer was heard. A batch has no answer:
-- its device said before which frames were acknowledged.
abbrev pub EndsHeard : World → Note → ℕ → Type 0
EndsHeard w (Asked (Done e heard air)) id =
    (has (ids_sent (exchange w e)) id ≡ true) × (heard || is_batch (exchange w e) ≡ true)
EndsHeard w note id = ⊥

-- The entries contain a Done of an exchange that sends the frame, and it was heard. The frame's fate was
-- Held before this Done and Acked after it, and the frame had reached its receiver.
pub record ReachedWithin (w : World) (entries : List Entry) (id : ℕ) : Type 0 where
  pub before : List Entry
  pub end : Entry
  pub after : List Entry
  pub split : entries ≡ before ++ end ∷ after
  pub held : (frame (world_after w before) id).fate ≡ Held
  pub heard : EndsHeard (world_after w before) end.1 id
  pub fate : (frame (step (world_after w before) end.1).world id).fate ≡ Acked
  pub reached : HasReached (step (world_after w before) end.1).world id

-- The law of delivery: a frame whose fate is Acked reached its receiver in the part of the history that
-- ends with its Done.
abbrev pub DeliveryLaw : Config → List Entry → Type 0
DeliveryLaw config history =
    (id : ℕ) → (frame (world_after (opening config) history) id).fate ≡ Acked →
    ReachedWithin (opening config) history id
