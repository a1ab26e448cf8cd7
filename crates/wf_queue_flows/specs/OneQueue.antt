-- Defines one queue of a backlog as CoDel's lane (RFC 8289, section 5.5).
use Rattle.std.specs.Prelude.{◌≡◌, ℕ, []}
use Rattle.std.proofs.Common.{refl, ◌∙◌}
use Rattle.wf_queue_flows.specs.Backlog.{BacklogValue, with_frames}
use Rattle.wf_queue_flows.specs.declared.lane.OneQueue.{OneQueue}

-- the parts of a backlog that a lane on queue q does not change
abbrev pub elsewhere : BacklogValue → ℕ → BacklogValue
elsewhere v q = record (with_frames v q []) { finished = [] }

-- It is the same queue of the same backlog, and every other queue, the states and the room are as before.
pub record SameLane (a b : OneQueue) : Type 0 where
  pub queue : b.queue ≡ a.queue
  pub name : b.backlog.ghost_name ≡ a.backlog.ghost_name
  pub others : elsewhere b.backlog.now b.queue ≡ elsewhere a.backlog.now a.queue

pub SameLane-refl : (a : OneQueue) → SameLane a a
SameLane-refl a = record { queue = refl; name = refl; others = refl }

pub SameLane-trans : (a b c : OneQueue) → SameLane a b → SameLane b c → SameLane a c
SameLane-trans a b c first second = record {
  queue = second.queue ∙ first.queue;
  name = second.name ∙ first.name;
  others = second.others ∙ first.others;
}
