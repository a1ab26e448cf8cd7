-- Each iteration moves one frame to the finished list; emptying the rest ends the same.
use Rattle.std.proofs.Common.{◌<◌, [], ◌∷◌, ◌++◌, length, ap, ◌∙◌, arith, length-set}
use Rattle.wf_frame.specs.Frames.{FrameValue}
use Rattle.wf_queue_flows.specs.Backlog.{BacklogValue, frames_at}
use Rattle.wf_queue_flows.proofs.Holding.{held_popped, empty_step, empty_done}
use Rattle.wf_queue_flows.proofs.backlog.Backlog.empty_queue.Goals as goal

pub loop-parcel-preserved : goal.loop-parcel-preserved
loop-parcel-preserved c =
    let popped : BacklogValue = c.pop.new.self in
    let with_last : FrameValue → BacklogValue = λ f.
    record popped { finished = popped.finished ++ f ∷ [] } in
    let here : c.args.q < length c.loop-parcel.self.queues =
    omega (arith, c.requires, c.loop-parcel.invariant.queues) in
    record {
      emptied = empty_step c.args.cause c.loop-parcel.self popped c.finish.new.self c.args.q c.in-Some.parcel
          c.in-Some.ensures.first c.pop.ensures.others
          (c.finish.ensures.finished ∙ ap with_last c.settle.ensures) ∙ c.loop-parcel.invariant.emptied;
      held = omega (
        arith,
        c.finish.ensures.held,
        held_popped c.loop-parcel.self popped c.args.q c.in-Some.parcel here
            c.in-Some.ensures.first c.pop.ensures.others,
        c.loop-parcel.invariant.held,
      );
      queues = ap (λ b. length b.queues) c.finish.ensures.finished
          ∙ ap (λ b. length b.queues) c.pop.ensures.others
          ∙ length-set c.loop-parcel.self.queues c.args.q (frames_at popped c.args.q)
          ∙ c.loop-parcel.invariant.queues;
    }

pub returns-clause-emptied : goal.returns-clause-emptied
returns-clause-emptied c =
    c.in_default.ensures.first.1
    ∙ empty_done c.args.cause c.loop-parcel.self c.args.q c.in_default.ensures.first.0
    ∙ c.loop-parcel.invariant.emptied
