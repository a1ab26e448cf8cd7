-- A pop changes one queue of the backlog and nothing else.
use Rattle.std.proofs.Common.{refl}
use Rattle.wf_queue_flows.proofs.Taking.{same_elsewhere}
use Rattle.wf_queue_flows.proofs.lane.OneQueueLane.pop.Goals as goal

pub returns-clause-same : goal.returns-clause-same
returns-clause-same c =
    record {
      queue = refl;
      name = refl;
      others = same_elsewhere _ _ c.args.self.now.queue _
          c.pop.ensures.others;
    }
