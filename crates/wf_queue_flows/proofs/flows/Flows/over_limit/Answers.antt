-- The longest queue has frames, so exactly one TID lists it.
use Rattle.wf_queue_flows.proofs.Leaves.{not_unlisted, owner_is}
use Rattle.wf_queue_flows.proofs.flows.Flows.over_limit.Goals as goal

pub returns-in_err-list-clause-roomy : goal.returns-in_err-list-clause-roomy
returns-in_err-list-clause-roomy c = absurd (not_unlisted _ _ _ c.self.view_is c.self.invariant c.in_ok-q.q
    c.in_err-list.ensures.none c.in_ok-q.ensures.has_frames)

pub returns-clause-only : goal.returns-clause-only
returns-clause-only c = owner_is _ _ _ c.self.view_is c.self.invariant c.in_ok-q.q c.in_ok-list.list _
    c.in_ok-list.ensures.some.1
