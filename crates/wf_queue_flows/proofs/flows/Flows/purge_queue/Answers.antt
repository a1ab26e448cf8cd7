-- The frames of the queue leave the TID's count, and the queue leaves the rotation.
use Rattle.wf_frame.specs.declared.classes.Cause.TheVariants.{Left}
use Rattle.wf_def_codel.specs.Codel.{renewed}
use Rattle.wf_queue_flows.proofs.Leaves.{purge_fits, purge_keeps}
use Rattle.wf_queue_flows.proofs.flows.Flows.purge_queue.Goals as goal

pub overflow_sub-index_mut : goal.overflow_sub-index_mut
overflow_sub-index_mut c = purge_fits _ _ _ c.self.view_is c.self.invariant c.args.list c.args.q _
    c.purge.result c.requires.list c.requires.listed c.index_mut.ensures.value c.purge.ensures.count

pub invariant_of-self : goal.invariant_of-self
invariant_of-self c = purge_keeps _ _ _ c.self.view_is c.self.invariant c.args.list c.args.q _ c.purge.result
    c.requires.list c.requires.listed c.index_mut.ensures.value c.purge.ensures.count Left renewed
    c.purge.new.self c.purge.ensures.purged c.remove.new.self c.remove.ensures
