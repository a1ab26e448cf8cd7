-- One frame more in a queue keeps the invariant: its octets are added to the leaf of the queue.
use Rattle.std.proofs.Common.{◌<◌, true, length, refl, sym, ap, subst, arith}
use Rattle.wf_frame.specs.Frames.{FrameValue}
use Rattle.wf_queue_flows.specs.Backlog.{BacklogValue, held_in_backlog}
use Rattle.wf_queue_flows.proofs.Holding.{push_fits, kept_pushed}
use Rattle.wf_queue_flows.proofs.backlog.Backlog.push.Goals as goal

pub overflow_add-octets : goal.overflow_add-octets
overflow_add-octets c =
    let here = subst (λ (v : BacklogValue). c.args.q < length v.queues) (sym c.self.view_is)
    c.requires.queue in
    record {
      fits = push_fits _ _ _ _ c.self.invariant c.args.q c.value.result c.from.result here
          c.value.ensures (omega (arith, c.from.ensures, c.len.ensures.most));
    }

pub invariant_of-self : goal.invariant_of-self
invariant_of-self c =
    let here = subst (λ (v : BacklogValue). c.args.q < length v.queues) (sym c.self.view_is)
    c.requires.queue in
    let room = subst (λ (v : BacklogValue). held_in_backlog v < v.room) (sym c.self.view_is)
    c.requires.room in
    kept_pushed _ _ _ _ c.self.invariant c.args.q c.value.result c.from.result c.index_mut.result.now
    c.push_back.new.self c.args.parcel c.set.new.self true here c.value.ensures
    c.index_mut.ensures.value c.push_back.ensures refl
    (omega (
      arith,
      c.from.ensures,
      c.len.ensures.exact,
      ap (λ (f : FrameValue). length f.body) c.frame.ensures,
    ))
    (omega (arith, c.from.ensures, c.len.ensures.some)) (omega (arith, c.from.ensures, c.len.ensures.most))
    c.set.ensures.values room
