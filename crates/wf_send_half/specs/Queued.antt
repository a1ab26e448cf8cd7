-- Defines how many queues a world has, and how many octets a TID has in them.
use Rattle.std.specs.Prelude.{ℕ, ◌+◌, ◌*◌, sum_by}
use Rattle.wf_def_codel.specs.Codel.{octets}
use Rattle.wf_def_rotation.specs.Rotation.{in_order}
use Rattle.wf_def_world.specs.World.{World, tid_of, queue}

-- the number of queues: the flow queues, and an overflow queue for each TID
abbrev pub queue_count : World → ℕ
queue_count w = w.config.flows + 8 * w.config.stations

-- the octets of the bodies in the queues that a TID lists
abbrev pub octets_queued : World → ℕ → ℕ → ℕ
octets_queued w s t = sum_by (λ q. octets (queue w q).items) (in_order (tid_of w s t).queues)
