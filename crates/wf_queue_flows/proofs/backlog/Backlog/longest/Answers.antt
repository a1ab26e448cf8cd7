-- The best leaf of the tree of octets is the longest queue.
use Rattle.std.proofs.Common.{◌≡◌, ◌↔◌, subst}
use Rattle.std.specs.Prelude.{IfSome, IsNone}
use Rattle.wf_queue_flows.specs.Backlog.{BacklogValue, in_queues, IsLongest}
use Rattle.wf_queue_flows.specs.Flows.{longest_queue}
use Rattle.wf_queue_flows.proofs.Flags.{longest_some}
use Rattle.wf_queue_flows.proofs.Holding.{best_greatest, best_none}
use Rattle.wf_queue_flows.proofs.backlog.Backlog.longest.Goals as goal

pub returns-clause-none : goal.returns-clause-none
returns-clause-none c =
    subst (λ (v : BacklogValue). IsNone c.best.result.leaf ↔ (in_queues v ≡ 0)) c.self.view_is
    (best_none _ _ _ _ c.self.invariant c.best.result.leaf c.best.ensures.none c.best.ensures.some)

pub returns-clause-some : goal.returns-clause-some
returns-clause-some c =
    subst (λ (v : BacklogValue). IfSome c.best.result.leaf (λ q. q ≡ longest_queue v)) c.self.view_is
    (longest_some _ c.best.result.leaf
    (best_greatest _ _ _ _ c.self.invariant c.best.result.leaf c.best.ensures.some))

pub returns-clause-greatest : goal.returns-clause-greatest
returns-clause-greatest c =
    subst (λ (v : BacklogValue). IfSome c.best.result.leaf (λ q. IsLongest v q)) c.self.view_is
    (best_greatest _ _ _ _ c.self.invariant c.best.result.leaf c.best.ensures.some)
