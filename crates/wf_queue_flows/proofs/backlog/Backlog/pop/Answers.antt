-- One frame less in a queue keeps the invariant: its octets leave the leaf of the queue.
use Rattle.std.proofs.Common.{◌<◌, length, sym, ap, subst, arith}
use Rattle.wf_frame.specs.Frames.{FrameValue}
use Rattle.wf_queue_flows.specs.Backlog.{BacklogValue}
use Rattle.wf_queue_flows.proofs.Flags.{flag_left}
use Rattle.wf_queue_flows.proofs.Holding.{kept_popped}
use Rattle.wf_queue_flows.proofs.backlog.Backlog.pop.Goals as goal

pub invariant_of-self-2 : goal.invariant_of-self-2
invariant_of-self-2 c =
    let here = subst (λ (v : BacklogValue). c.args.q < length v.queues) (sym c.self.view_is) c.requires in
    kept_popped _ _ _ _ c.self.invariant c.args.q c.value.result c.from.result c.index_mut.result.now
    c.pop_front.new.self c.in_ok-parcel.parcel c.set.new.self _ here
    c.value.ensures c.index_mut.ensures.value c.in_ok-parcel.ensures
    (flag_left c.self.inside.queues.items c.args.q c.len.result c.pop_front.new.self c.index.result.now here
    c.index.ensures c.len.ensures)
    (omega (
      arith,
      c.from.ensures,
      c.len-2.ensures.exact,
      ap (λ (f : FrameValue). length f.body) c.frame.ensures,
    ))
    c.set.ensures.values
