-- A leave and a flush both empty queues, each with its cause and its effect on the CoDel state.
use Rattle.std.proofs.Common.{◌≡◌, refl, ℕ, List, [], ◌∷◌}
use Rattle.wf_frame.specs.declared.classes.Cause.TheVariants.{Left, Flushed}
use Rattle.wf_def_world.specs.World.{World}
use Rattle.wf_def_world.specs.FlowQueues.{after_queue_left, after_queues_left, after_queue_flushed, after_queues_flushed}
use Rattle.wf_def_codel.specs.Codel.{renewed}
use Rattle.wf_queue_flows.specs.Backlog.{unchanged}
use Rattle.wf_queue_flows_refines.specs.Standing.{queue_emptied, queues_emptied}

pub queues_left : (qs : List ℕ) (w : World) → queues_emptied Left renewed w qs ≡ after_queues_left w qs
unfolding queues_emptied queue_emptied after_queues_left after_queue_left
queues_left [] w = refl
queues_left (q ∷ qs) w = queues_left qs (queue_emptied Left renewed w q)

pub queues_flushed : (qs : List ℕ) (w : World) →
    queues_emptied Flushed unchanged w qs ≡ after_queues_flushed w qs
unfolding queues_emptied queue_emptied after_queues_flushed after_queue_flushed
queues_flushed [] w = refl
queues_flushed (q ∷ qs) w = queues_flushed qs (queue_emptied Flushed unchanged w q)
