-- Defines the laws of flows: with the setting `keep_order`, the queued frames of a flow are in one queue,
-- and the frames of a flow are sent and passed up in the order in which they were enqueued. The rule for the
-- overflow queue is in wf_def_world, specs/FlowQueues (`goes_over`).
use Rattle.std.specs.Prelude.{◌≡◌, ℕ, ◌==◌, Bool, true, false, not, ◌&&◌, List, [], ◌∷◌, ◌++◌, filter, map}
use Rattle.wf_frame.specs.declared.settings.Config.{Config}
use Rattle.wf_frame.specs.declared.notes.Note.{Note}
use Rattle.wf_frame.specs.declared.notes.Note.TheVariants.{Enqueue, Asked}
use Rattle.wf_frame.specs.declared.notes.Part.TheVariants.{Mpdus, Batch, Plain}
use Rattle.wf_frame.specs.declared.notes.ReplyNote.{ReplyNote}
use Rattle.wf_frame.specs.declared.notes.ReplyNote.TheVariants.{Send}
use Rattle.wf_def_lists.specs.Table.{has}
use Rattle.wf_def_lists.specs.Lists.{IsRising}
use Rattle.wf_def_world.specs.World.{World, frame, queue, opening}
use Rattle.wf_def_world.specs.Step.{Outcome, step}
use Rattle.wf_def_world.specs.Run.{Entry, world_after}
use Rattle.wf_def_world.specs.Stretches.{world_at}
use Rattle.wf_law_runs.specs.Releases.{named_from}

-- Whether a call enqueues a frame of this flow for TID t of station s.
abbrev pub is_of_flow : ℕ → ℕ → ℕ → Note → Bool
is_of_flow s t flow (Enqueue i j f len) = (i == s) && ((j == t) && (f == flow))
is_of_flow s t flow (Asked ask) = false

-- Queue q holds the frame with this id, which is of this flow of TID t of station s.
pub record HoldsOfFlow (w : World) (s t flow q id : ℕ) : Type 0 where
  pub held : has (map (λ x. x.id) (queue w q).items) id ≡ true
  pub for : is_of_flow s t flow (frame w id).note ≡ true

-- The law of queued flows: if flows keep their order, all queued frames of a flow of a TID are in one
-- queue, at every moment. Their ids increase there (specs/Queues, `KeepsQueues`).
abbrev pub FlowQueueLaw : Config → List Entry → Type 0
FlowQueueLaw config history =
    config.keep_order ≡ 1 → (m s t flow q r a b : ℕ) → HoldsOfFlow (world_at config history m) s t flow q a →
    HoldsOfFlow (world_at config history m) s t flow r b → q ≡ r

-- The ids of a flow that the replies of a history release, in their order: those of its frames that are
-- passed up to TID t of station s, over all joins of the station.
abbrev pub released_of : Config → List Entry → ℕ → ℕ → ℕ → List ℕ
released_of config history s t flow =
    filter (λ id. is_of_flow s t flow (frame (world_after (opening config) history) id).note)
    (named_from (opening config) [] history)

-- The law of released flows: if flows keep their order, the ids of each flow that are released in the
-- whole run increase strictly. An id is the number of frames that were accepted before it, so each flow is
-- passed up in the order in which it was put in, and no frame twice.
abbrev pub FlowReleaseLaw : Config → List Entry → Type 0
FlowReleaseLaw config history =
    config.keep_order ≡ 1 → (s t flow : ℕ) → IsRising 0 (released_of config history s t flow)

-- Returns the ids that a reply sends, in their order. Only the reply to a Pull sends frames. A frame of an
-- exchange counts as sent, even if it never goes on the air.
abbrev pub ids_sent_by : ReplyNote → List ℕ
ids_sent_by (Send exchange station tid air (Mpdus mpdus) more eosp) = map (λ m. m.0) mpdus
ids_sent_by (Send exchange station tid air (Batch ids) more eosp) = ids
ids_sent_by (Send exchange station tid air (Plain mpdus) more eosp) = map (λ m. m.0) mpdus
ids_sent_by reply = []

-- Returns the ids that are not among the old ones.
abbrev pub not_among : List ℕ → List ℕ → List ℕ
not_among old ids = filter (λ id. not (has old id)) ids

-- Returns all ids that the replies of a history send, after the ids `before`. Each is listed once, at the
-- place of its first send.
unfoldable pub sent_from : World → List ℕ → List Entry → List ℕ
sent_from w before [] = before
sent_from w before (e ∷ es) =
    let o : Outcome = step w e.1 in
    sent_from o.world (before ++ not_among before (ids_sent_by o.reply)) es

-- The ids of a flow that the replies of a history send, in the order of their first sends: those of its
-- frames for TID t of station s, over all joins of the station.
abbrev pub first_sends : Config → List Entry → ℕ → ℕ → ℕ → List ℕ
first_sends config history s t flow =
    filter (λ id. is_of_flow s t flow (frame (world_after (opening config) history) id).note)
    (sent_from (opening config) [] history)

-- The law of sent flows: if flows keep their order, the ids of each flow increase strictly in the order in
-- which they are sent first, in the whole run.
abbrev pub FlowSendLaw : Config → List Entry → Type 0
FlowSendLaw config history =
    config.keep_order ≡ 1 → (s t flow : ℕ) → IsRising 0 (first_sends config history s t flow)
