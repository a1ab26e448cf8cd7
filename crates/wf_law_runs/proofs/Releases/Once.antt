-- Proves that each frame has one place in every run, and is released at most once. Each call keeps the
-- places, because each elementary change keeps them (Steps).
use Rattle.std.proofs.Common.{◌≡◌, ℕ, Bool, List, [], ◌∷◌, ◌++◌, Option, IfSome, true}
use Rattle.wf_frame.specs.declared.settings.Config.{Config}
use Rattle.wf_frame.specs.declared.notes.Note.{Note}
use Rattle.wf_frame.specs.declared.notes.Note.TheVariants.{Enqueue}
use Rattle.wf_def_codel.specs.Codel.{Item}
use Rattle.wf_def_agreement.specs.Receiver.{Receiver, released_between}
use Rattle.wf_def_agreement.specs.Session.{End}
use Rattle.wf_def_world.specs.World.{World, Mpdu, is_live, receiver, session, without_exchange, opening}
use Rattle.wf_def_world.specs.Exchanges.{Aggregate, ids_of, aggregate_of, prepared_data, with_number, with_settled, caught_up_if_plain}
use Rattle.wf_def_world.specs.Refusals.{refusals}
use Rattle.wf_def_world.specs.Step.{enqueue_outcome, join_outcome, offload_outcome, plain_outcome, begin_outcome, cease_outcome, leave_outcome, step}
use Rattle.wf_def_world.specs.Run.{Entry, world_after}
use Rattle.wf_law_runs.specs.Releases.{named_by, named_from, OnceLaw}
use Rattle.wf_law_runs.proofs.Windows.Sides.{side, Same}
use Rattle.wf_law_runs.proofs.Windows.Opened.{NoRow}
use Rattle.wf_law_runs.proofs.Windows.Agreed.{AgreedAt, IsLawful, IsReady, IsEnding, lawful_step, lawful_at_first}
use Rattle.wf_law_runs.proofs.Frames.Fewer.{Less, IsTaken}
use Rattle.wf_law_runs.proofs.Releases.Placed.{Placing, Any, Grows, placed_less, placed_session, placed_give, passes_more, passes_silent, placed_station, placed_enqueued, placed_at_first}
use Rattle.wf_law_runs.proofs.Releases.Released.{ceased_ids}
use Rattle.wf_law_runs.proofs.Releases.Steps.{through_number, through_filled, through_frames, through_settled, through_without, through_joined, through_offloaded, through_unagreed, through_begun, through_ceased, through_caught_up, through_gone, through_step}

-- The changes need nothing of the world before them.
Always : World → Type 0
Always w = Unit {0}

passes_always : (l : List ℕ) (w v : World) (s t : ℕ) (q : Receiver) (b : Bool) → Always w → Less Any w v →
    ((i j : ℕ) → (i ≡ s → j ≡ t → ⊥) → side v i j ≡ side w i j) →
    side v s t ≡ record { session = session w s t; receiver = q; agreed = b } →
    Grows (session w s t) (receiver w s t) q → Placing l w →
    Placing (l ++ ids_of (session w s t) (released_between (receiver w s t) q)) v
passes_always l w v s t q b _ h apart own g p = passes_more l w v s t q b h apart own g p

enqueued_always : (l : List ℕ) (w : World) (s t flow len : ℕ) → Always w →
    NoRow (refusals w (Enqueue s t flow len)) → Placing l w → Placing l (enqueue_outcome w s t flow len).world
enqueued_always l w s t flow len _ _ p = placed_enqueued l w s t flow len p

-- ---- the parts of a call

pub placed_number : (o : Option Item) (l : List ℕ) (u v : World) (s t : ℕ) → Same u v → Less Any u v →
    IfSome o (IsTaken u v) → Placing l u → Placing l (with_number v s t o)
placed_number = through_number Placing Always placed_less placed_session placed_give passes_always
    passes_silent placed_station enqueued_always

pub placed_filled : (l : List ℕ) (w : World) (s t : ℕ) → Placing l w → Placing l (aggregate_of w s t).world
placed_filled = through_filled Placing Always placed_less placed_session placed_give passes_always
    passes_silent placed_station enqueued_always

pub placed_frames : (l : List ℕ) (s t : ℕ) (f : Aggregate) → IsReady s t f.world f.mpdus →
    Placing l f.world → Placing l (prepared_data s t f).world
placed_frames = through_frames Placing Always placed_less placed_session placed_give passes_always
    passes_silent placed_station enqueued_always

pub placed_settled : (end : End) (l : List ℕ) (e s t : ℕ) (ends : ℕ → End) (w : World) (m : Mpdu)
    (ms : List Mpdu) → IsEnding e s t ends w (m ∷ ms) → Placing l w → Placing l (with_settled w s t end m)
placed_settled = through_settled Placing Always placed_less placed_session placed_give passes_always
    passes_silent placed_station enqueued_always

pub placed_without : (l : List ℕ) (w : World) (e : ℕ) → Placing l w → Placing l (without_exchange w e)
placed_without = through_without Placing Always placed_less placed_session placed_give passes_always
    passes_silent placed_station enqueued_always

pub placed_joined : (l : List ℕ) (w : World) (s window start exponent weight : ℕ) → Placing l w →
    Placing l (join_outcome w s window start exponent weight).world
placed_joined = through_joined Placing Always placed_less placed_session placed_give passes_always
    passes_silent placed_station enqueued_always

pub placed_offloaded : (l : List ℕ) (w : World) (s exponent weight : ℕ) → Placing l w →
    Placing l (offload_outcome w s exponent weight).world
placed_offloaded = through_offloaded Placing Always placed_less placed_session placed_give passes_always
    passes_silent placed_station enqueued_always

pub placed_unagreed : (l : List ℕ) (w : World) (s start exponent weight : ℕ) → Placing l w →
    Placing l (plain_outcome w s start exponent weight).world
placed_unagreed = through_unagreed Placing Always placed_less placed_session placed_give passes_always
    passes_silent placed_station enqueued_always

pub placed_begun : (l : List ℕ) (w : World) (s t window : ℕ) → is_live w s ≡ true → IsLawful w →
    Placing l w → Placing l (begin_outcome w s t window).world
placed_begun = through_begun Placing Always placed_less placed_session placed_give passes_always
    passes_silent placed_station enqueued_always

pub placed_ceased : (l : List ℕ) (w : World) (s t : ℕ) → is_live w s ≡ true → IsLawful w → Placing l w →
    Placing (l ++ ceased_ids w s t) (cease_outcome w s t).world
unfolding Always
placed_ceased l w s t live i p = through_ceased Placing Always placed_less placed_session placed_give
    passes_always passes_silent placed_station enqueued_always l w s t live i tt p

pub placed_caught_up : (l : List ℕ) (w : World) (s t : ℕ) → AgreedAt (side w s t) → Placing l w →
    Placing l (caught_up_if_plain w s t)
placed_caught_up = through_caught_up Placing Always placed_less placed_session placed_give passes_always
    passes_silent placed_station enqueued_always

pub placed_gone : (l : List ℕ) (w : World) (s : ℕ) → Placing l w → Placing l (leave_outcome w s).world
placed_gone = through_gone Placing Always placed_less placed_session placed_give passes_always
    passes_silent placed_station enqueued_always

-- ---- the run

pub placed_step : (l : List ℕ) (w : World) (i : IsLawful w) (note : Note) → Placing l w →
    Placing (l ++ named_by (step w note).reply) (step w note).world
unfolding Always
placed_step l w i note p = through_step Placing Always placed_less placed_session placed_give passes_always
    passes_silent placed_station enqueued_always l w i note tt p

placed_run : (h : List Entry) (l : List ℕ) (w : World) (i : IsLawful w) → Placing l w →
    Placing (named_from w l h) (world_after w h)
unfolding named_from world_after
placed_run [] l w i p = p
placed_run (e ∷ es) l w i p = placed_run es _ (step w e.1).world (lawful_step w e.1 i)
    (placed_step l w i e.1 p)

pub placed : (config : Config) (h : List Entry) →
    Placing (named_from (opening config) [] h) (world_after (opening config) h)
placed config h = placed_run h [] (opening config) (lawful_at_first config) (placed_at_first config)

pub once_law : (config : Config) (h : List Entry) → OnceLaw config h
once_law config h = (placed config h).once
