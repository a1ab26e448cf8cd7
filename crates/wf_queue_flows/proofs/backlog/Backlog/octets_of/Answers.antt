-- A queue has fewer than 2^32 frames, of at most 2304 octets each.
use Rattle.std.proofs.Common.{◌<◌, length, sym, subst}
use Rattle.wf_queue_flows.specs.Backlog.{BacklogValue}
use Rattle.wf_queue_flows.proofs.Holding.{few_read}
use Rattle.wf_queue_flows.proofs.backlog.Backlog.octets_of.Goals as goal

pub returns-clause-few : goal.returns-clause-few
returns-clause-few c = few_read _ _ _ _ c.self.invariant c.args.q c.value.result
    (subst (λ (v : BacklogValue). c.args.q < length v.queues) (sym c.self.view_is) c.requires) c.value.ensures
