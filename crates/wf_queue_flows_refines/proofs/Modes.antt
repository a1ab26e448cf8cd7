-- Proves that flow queues and world still agree after the calls that begin and end agreements.
use Rattle.std.proofs.Common.{◌≡◌, ap, ◌∙◌, ℕ}
use Rattle.wf_def_agreement.specs.Session.{after_flush}
use Rattle.wf_def_world.specs.World.{World, accepted_count, session, on_session}
use Rattle.wf_def_world.specs.Step.{waiting_ids, hold_outcome, begin_outcome, free_outcome, after_numbers_ended, cease_outcome}
use Rattle.wf_queue_flows.specs.Flows.{FlowsValue}
use Rattle.wf_queue_flows_refines.specs.Standing.{Part, flows_part, FlowsStandFor}
use Rattle.wf_queue_flows_refines.specs.Frames.{notes}
use Rattle.wf_queue_flows_refines.specs.Rest.{rest_of_world}
use Rattle.wf_queue_flows_refines.proofs.Leaves.{stands_same, mode_alone, window_alone, caught_alone}
use Rattle.wf_queue_flows_refines.proofs.Elsewhere.{rest_finish_all}
use Rattle.wf_queue_flows_refines.proofs.Notes.{notes_finish_all, notes_session}

-- ---- a TID is held back, gets an agreement, or sends one frame at a time

pub hold_alone : (w : World) (s t : ℕ) → flows_part (hold_outcome w s t).world ≡ flows_part w
unfolding hold_outcome
hold_alone w s t = mode_alone w s t _

pub begin_alone : (w : World) (s t window : ℕ) →
    flows_part (begin_outcome w s t window).world ≡ flows_part w
unfolding begin_outcome
begin_alone w s t window = mode_alone _ s t _ ∙ window_alone _ s t window ∙ caught_alone w s t

pub free_alone : (w : World) (s t : ℕ) → flows_part (free_outcome w s t).world ≡ flows_part w
unfolding free_outcome
free_alone w s t = mode_alone w s t _

pub stands_held : (v : FlowsValue) (w : World) (s t : ℕ) → FlowsStandFor v w →
    FlowsStandFor v (hold_outcome w s t).world
stands_held v w s t = stands_same v w (hold_outcome w s t).world (hold_alone w s t)

pub stands_begun : (v : FlowsValue) (w : World) (s t window : ℕ) → FlowsStandFor v w →
    FlowsStandFor v (begin_outcome w s t window).world
stands_begun v w s t window = stands_same v w (begin_outcome w s t window).world (begin_alone w s t window)

pub stands_freed : (v : FlowsValue) (w : World) (s t : ℕ) → FlowsStandFor v w →
    FlowsStandFor v (free_outcome w s t).world
stands_freed v w s t = stands_same v w (free_outcome w s t).world (free_alone w s t)

-- ---- an agreement ends

-- after the frames of the waiting numbers are dropped, nothing of the flow queues changes
pub cease_alone : (w : World) (s t : ℕ) →
    flows_part (cease_outcome w s t).world ≡ flows_part (after_numbers_ended w s t)
unfolding cease_outcome
cease_alone w s t = mode_alone _ s t _ ∙ window_alone _ s t _ ∙ caught_alone (after_numbers_ended w s t) s t

pub stands_ceased : (v : FlowsValue) (w : World) (s t : ℕ) → FlowsStandFor v (after_numbers_ended w s t) →
    FlowsStandFor v (cease_outcome w s t).world
stands_ceased v w s t =
    stands_same v (after_numbers_ended w s t) (cease_outcome w s t).world (cease_alone w s t)

pub accepted_ceased : (w : World) (s t : ℕ) →
    accepted_count (cease_outcome w s t).world ≡ accepted_count (after_numbers_ended w s t)
accepted_ceased w s t = ap (λ (p : Part). p.accepted) (cease_alone w s t)

pub rest_ended : (w : World) (s t : ℕ) → rest_of_world (after_numbers_ended w s t)
    ≡ rest_of_world (on_session w s t (after_flush w.config.attempts))
unfolding after_numbers_ended
rest_ended w s t = rest_finish_all (waiting_ids (session w s t).slots)
    (on_session w s t (after_flush w.config.attempts)) _

pub notes_ended : (w : World) (s t : ℕ) → notes (after_numbers_ended w s t) ≡ notes w
unfolding after_numbers_ended
notes_ended w s t = notes_finish_all (waiting_ids (session w s t).slots)
    (on_session w s t (after_flush w.config.attempts)) _ ∙ notes_session w s t (after_flush w.config.attempts)
