-- Proves that the call that brought each accepted frame stays the same through all calls.
use Rattle.std.proofs.Common.{◌≡◌, refl, ap, sym, ◌∙◌, subst, arith, ℕ, ◌+◌, ◌<◌, List, [], ◌∷◌, length, inl, inr}
use Rattle.std.proofs.lemmas.Bool.{cases_eq}
use Rattle.wf_frame.specs.declared.classes.Fate.{Fate}
use Rattle.wf_frame.specs.declared.classes.Fate.TheVariants.{Held}
use Rattle.wf_frame.specs.declared.notes.Note.{Note}
use Rattle.wf_frame.specs.declared.notes.Note.TheVariants.{Enqueue}
use Rattle.wf_frame.specs.Frames.{FrameValue, source_octets}
use Rattle.wf_def_rotation.specs.Rotation.{Rotation}
use Rattle.wf_def_agreement.specs.Session.{Session, after_flush}
use Rattle.wf_def_world.specs.World.{World, Queue, Frame, no_frame, accepted_count, on_queue, on_session, with_queues, with_station, on_station, on_tid, with_fate, with_frame_finished, with_frames_finished}
use Rattle.wf_def_world.specs.FlowQueues.{after_limit, queue_for, after_put_in, taken_for_tid}
use Rattle.wf_def_world.specs.Step.{with_frame, next_item, enqueue_outcome, reap_outcome, after_tid_left}
use Rattle.wf_law_runs.proofs.Deficits.Books.{upd_idle, put_upd}
use Rattle.wf_law_runs.proofs.Queues.ShelvedStep.{accepted_put}
use Rattle.wf_queue_flows.specs.Flows.{FlowsValue}
use Rattle.wf_queue_flows_refines.specs.Standing.{FlowsStandFor, tid_emptied}
use Rattle.wf_queue_flows_refines.specs.Frames.{notes, IsAccepted, AreAccepted, with_body}
use Rattle.wf_queue_flows_refines.proofs.Parts.{end_is, end_other}
use Rattle.wf_queue_flows_refines.proofs.Limits.{beside_limit}
use Rattle.wf_queue_flows_refines.proofs.Puts.{accepted_enqueued}
use Rattle.wf_queue_flows_refines.proofs.Through.{stays_finish_all, stays_limit, stays_put_in, stays_take, stays_left, stays_flushed}
use Rattle.wf_queue_flows_refines.proofs.Bodies.{body_other, body_own}

notes_queue : (w : World) (q : ℕ) (f : Queue → Queue) → notes (on_queue w q f) ≡ notes w
unfolding on_queue
notes_queue w q f = refl

notes_lists : (w : World) (s t : ℕ) (r : Rotation) → notes (with_queues w s t r) ≡ notes w
unfolding with_queues on_tid on_station with_station
notes_lists w s t r = refl

pub notes_finish : (w : World) (fate : Fate) (id : ℕ) → notes (with_frame_finished w fate id) ≡ notes w
unfolding with_frame_finished with_fate
notes_finish w fate id = put_upd (λ (x : Frame). x.note) no_frame w.frames id _ ∙ upd_idle (notes w) id _ refl

pub notes_finish_all : (l : List ℕ) (w : World) (fate : Fate) →
    notes (with_frames_finished w fate l) ≡ notes w
notes_finish_all = stays_finish_all notes notes_queue notes_lists notes_finish

pub notes_take : (w : World) (s t : ℕ) → notes (taken_for_tid w s t).world ≡ notes w
notes_take = stays_take notes notes_queue notes_lists notes_finish

pub notes_left : (w : World) (s t : ℕ) → notes (after_tid_left w s t) ≡ notes w
notes_left = stays_left notes notes_queue notes_lists notes_finish

pub notes_session : (w : World) (s t : ℕ) (f : Session → Session) → notes (on_session w s t f) ≡ notes w
unfolding on_session on_tid on_station with_station
notes_session w s t f = refl

pub notes_flushed : (w : World) (s t : ℕ) → notes (tid_emptied w s t) ≡ notes w
notes_flushed w s t = stays_flushed notes notes_queue notes_lists notes_finish w s t
    ∙ notes_session w s t (after_flush w.config.attempts)

pub notes_reaped : (w : World) (l : List ℕ) → notes (reap_outcome w l).world ≡ notes w
unfolding reap_outcome
notes_reaped w [] = refl
notes_reaped w (id ∷ l) = refl

-- ---- put

notes_accepted : (w : World) (note : Note) (id : ℕ) → (id ≡ accepted_count w → ⊥) →
    notes (with_frame w note) id ≡ notes w id
unfolding with_frame
notes_accepted w note id other = ap (λ (x : Frame). x.note) (end_other w.frames _ id other)

note_accepted : (w : World) (note : Note) → notes (with_frame w note) (accepted_count w) ≡ note
unfolding with_frame
note_accepted w note = ap (λ (x : Frame). x.note) (end_is w.frames _)

module _ (v : FlowsValue) (w : World) (s t flow len : ℕ) (st : FlowsStandFor v w) where
  -- the world in which the frame is in its queue, but not accepted yet
  abbrev before : World
  before = after_put_in (after_limit w) s t (queue_for (after_limit w) s t flow) (next_item w len)

  as_many : accepted_count before ≡ accepted_count w
  as_many = accepted_put (after_limit w) s t (queue_for (after_limit w) s t flow) (next_item w len)
      ∙ (beside_limit v w st).accepted

  notes_before : notes before ≡ notes w
  notes_before = stays_put_in notes notes_queue notes_lists (after_limit w) s t _ _
      ∙ stays_limit notes notes_queue notes_lists notes_finish w

  pub notes_put : (id : ℕ) → id < accepted_count w →
      notes (enqueue_outcome w s t flow len).world id ≡ notes w id
  unfolding enqueue_outcome
  notes_put id low = notes_accepted before (Enqueue s t flow len) id (λ e. omega (arith, e, low, as_many))
      ∙ ap (λ (f : ℕ → Note). f id) notes_before

  pub note_put : notes (enqueue_outcome w s t flow len).world (accepted_count w) ≡ Enqueue s t flow len
  unfolding enqueue_outcome
  note_put = ap (notes (with_frame before (Enqueue s t flow len))) (sym as_many)
      ∙ note_accepted before (Enqueue s t flow len)

-- ---- the accepted frames

-- the same number of frames, brought by the same calls
pub accepted_same : (w x : World) (bodies : ℕ → FrameValue) → accepted_count x ≡ accepted_count w →
    notes x ≡ notes w → AreAccepted w bodies → AreAccepted x bodies
accepted_same w x bodies as_many same ok id low =
    subst (λ (n : Note). IsAccepted id n (bodies id)) (sym (ap (λ (f : ℕ → Note). f id) same))
    (ok id (omega (arith, low, as_many)))

-- one more frame
pub accepted_more : (v : FlowsValue) (w : World) (bodies : ℕ → FrameValue) (f : FrameValue) →
    FlowsStandFor v w → f.id ≡ accepted_count w → length f.source ≡ source_octets → f.fate ≡ Held →
    AreAccepted w bodies →
    AreAccepted (enqueue_outcome w f.station f.tid f.flow (length f.body)).world (with_body bodies f)
accepted_more v w bodies f st next source fate ok id low =
    let x : World = (enqueue_outcome w f.station f.tid f.flow (length f.body)).world in
    let count : accepted_count x ≡ accepted_count w + 1 =
    accepted_enqueued v w f.station f.tid f.flow (length f.body) st in
    elim (cases_eq id f.id) [
      | inl e ↦
          let note : notes x f.id ≡ Enqueue f.station f.tid f.flow (length f.body) =
          ap (notes x) next ∙ note_put v w f.station f.tid f.flow (length f.body) st in
          subst (λ (k : ℕ). IsAccepted k (notes x k) (with_body bodies f k)) (sym e)
          (subst (λ (g : FrameValue). IsAccepted f.id (notes x f.id) g) (sym (body_own bodies f))
          (record { id = refl; source = source; fate = fate; note = note }))
      | inr other ↦
          let below : id < accepted_count w = omega (arith, low, count, next, other) in
          subst (λ (g : FrameValue). IsAccepted id (notes x id) g) (sym (body_other bodies f id other))
          (subst (λ (n : Note). IsAccepted id n (bodies id))
          (sym (notes_put v w f.station f.tid f.flow (length f.body) st id below)) (ok id below))
    ]
