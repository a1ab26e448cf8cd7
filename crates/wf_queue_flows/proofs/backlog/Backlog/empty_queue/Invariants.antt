-- Emptying the rest ends as emptying the whole queue does.
use Rattle.std.proofs.Common.{◌≡◌, length}
use Rattle.wf_queue_flows.specs.Backlog.{frames_at, held_in_backlog, after_emptying, unchanged}
use Rattle.wf_queue_flows.proofs.backlog.Backlog.empty_queue.Given as goal

-- emptying the rest ends as emptying from the beginning does
abbrev pub invariant-loop-parcel : goal.invariant-loop-parcel
invariant-loop-parcel l = record {
  emptied : after_emptying l.cause unchanged l.self l.q
      ≡ after_emptying l.cause unchanged l.initial.self l.q;
  held : held_in_backlog l.self ≡ held_in_backlog l.initial.self;
  queues : length l.self.queues ≡ length l.initial.self.queues;
}

abbrev pub decreases-loop-parcel : goal.decreases-loop-parcel
decreases-loop-parcel l = length (frames_at l.self l.q)
