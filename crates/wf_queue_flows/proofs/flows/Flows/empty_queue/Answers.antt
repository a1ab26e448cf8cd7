-- The frames of the queue leave the TID's count.
use Rattle.wf_queue_flows.specs.Backlog.{unchanged}
use Rattle.wf_queue_flows.proofs.Leaves.{purge_fits, empty_keeps}
use Rattle.wf_queue_flows.proofs.flows.Flows.empty_queue.Goals as goal

pub overflow_sub-index_mut : goal.overflow_sub-index_mut
overflow_sub-index_mut c = purge_fits _ _ _ c.self.view_is c.self.invariant c.args.list c.args.q _
    c.empty_queue.result c.requires.list c.requires.listed c.index_mut.ensures.value
    c.empty_queue.ensures.count

pub invariant_of-self : goal.invariant_of-self
invariant_of-self c = empty_keeps _ _ _ c.self.view_is c.self.invariant c.args.list c.args.q _
    c.empty_queue.result c.requires.list c.requires.listed c.index_mut.ensures.value
    c.empty_queue.ensures.count c.args.cause unchanged c.empty_queue.new.self c.empty_queue.ensures.emptied
