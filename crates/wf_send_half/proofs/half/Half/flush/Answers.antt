-- Proves what `Half::flush` promises. By cases of the checks: the call is refused, or the frames of the
-- waiting numbers and of the queues are dropped and counted, and the half represents the world after the
-- Flush.
use Rattle.std.proofs.Common.{◌∙◌, sym, ap, arith}
use Rattle.std.proofs.lemmas.Result.{err_from_is_err_and}
use Rattle.wf_frame.specs.Classes.{tid_number}
use Rattle.wf_queue_flows.specs.Flows.{FlowsValue, after_tid_flush}
use Rattle.wf_send_parts.specs.Tally.{Counts, counts_of}
use Rattle.wf_send_half_model.specs.Half.{TransmitValue}
use Rattle.wf_send_half.proofs.Rows.{refused_call, live_of}
use Rattle.wf_send_half.proofs.CallSteps.{view_of}
use Rattle.wf_send_half.proofs.Flushes.{queues_held, flush_fits, flush_done}
use Rattle.wf_send_half.proofs.half.Half.flush.Goals as goal

pub returns-in_err-check_flush-clause-meets : goal.returns-in_err-check_flush-clause-meets
returns-in_err-check_flush-clause-meets c w bodies h =
    let p = err_from_is_err_and c.from_residual.result c.from_residual.ensures.1 in rw (p.1, p.2)
    (refused_call c.args.self.now w bodies _ _ (λ e. cc e, (λ e. cc e, (λ e. cc e, tt))) h
    (c.in_err-check_flush.ensures.refused w bodies h))

pub drop_waiting-numbered-requires-clause-some : goal.drop_waiting-numbered-requires-clause-some
drop_waiting-numbered-requires-clause-some c =
    let r = c.requires.some in
    record {
      world = r.world;
      bodies = r.bodies;
      stands = r.stands;
      live = (live_of c.args.self.now r.world r.bodies r.stands c.args.station
          c.in_ok-check_flush.ensures.live);
    }

pub settle_all-requires-clause-held : goal.settle_all-requires-clause-held
settle_all-requires-clause-held c =
    let r = c.requires.some in
    rw (c.flush-queued.ensures.count)
    (queues_held c.args.self.now c.drop_waiting-numbered.new.self (view_of c.self.inside) c.self.view_is
    r.world
    r.bodies c.args.station c.args.tid c.drop_waiting-numbered.result
    (c.drop_waiting-numbered.ensures.flushed r.world r.bodies r.stands
    (live_of c.args.self.now r.world r.bodies r.stands c.args.station c.in_ok-check_flush.ensures.live))
    (sym (c.in_ok-check_flush.ensures.refused r.world r.bodies r.stands)))

pub overflow_add-result : goal.overflow_add-result
overflow_add-result c =
    let r = c.requires.some in
    let few = flush_fits c.args.self.now c.drop_waiting-numbered.new.self (view_of c.self.inside)
    c.self.view_is
    r.world r.bodies c.args.station c.args.tid c.drop_waiting-numbered.result
    (c.drop_waiting-numbered.ensures.flushed r.world r.bodies r.stands
    (live_of c.args.self.now r.world r.bodies r.stands c.args.station c.in_ok-check_flush.ensures.live))
    (sym (c.in_ok-check_flush.ensures.refused r.world r.bodies r.stands)) in
    omega (arith, few, c.flush-queued.ensures.count)

pub returns-clause-meets : goal.returns-clause-meets
returns-clause-meets c w bodies h =
    flush_done c.args.self.now c.drop_waiting-numbered.new.self (view_of c.self.inside) c.self.view_is w
    bodies
    c.args.station c.args.tid c.drop_waiting-numbered.result
    (c.drop_waiting-numbered.ensures.flushed w bodies h (live_of c.args.self.now w bodies h c.args.station
    c.in_ok-check_flush.ensures.live))
    (sym (c.in_ok-check_flush.ensures.refused w bodies h))
    c.flush-queued.result c.flush-queued.ensures.count
    (ap (λ (f : FlowsValue). let t : TransmitValue =
    record (view_of c.self.inside) { flows = f; tally = counts_of c.settle_all.new.self } in t)
    c.flush-queued.ensures.flushed
    ∙ ap (λ (k : Counts). let t : TransmitValue = record (view_of c.self.inside) {
      flows = after_tid_flush c.self.inside.flows (tid_number c.args.station c.args.tid);
      tally = k;
    } in t) c.settle_all.ensures.counted)
    c.catch_up.new.self c.list.new.self (λ z. c.catch_up.ensures.caught_up z bodies) c.list.ensures
