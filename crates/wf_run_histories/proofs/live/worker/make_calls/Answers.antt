-- Proves that the seat's work is done. By cases of its number: a sender's or a driver's.
use Rattle.std.proofs.Common.{rules}
use Rattle.wf_run_histories.proofs.Workers.{on_ok, sent, driven}
use Rattle.wf_run_histories.proofs.live.worker.make_calls.Goals as goal

pub returns-then-number-plan : goal.returns-then-number-plan
returns-then-number-plan g c =
    on_ok c.send.result c.send.ensures.sent
    (λ makes. sent (λ d. d.seat) c.args.desk.now.gate.now c.args.plan.seed c.args.plan.senders
    c.args.plan.frames c.args.desk.now c.send.new.desk c.requires c.number-number.result
    c.number-number.ensures.number (search rules) makes)

pub returns : goal.returns
returns g c =
    driven (λ d. d.seat) c.args.desk.now.gate.now c.args.plan.seed c.args.plan.senders c.args.plan.frames
    c.args.desk.now c.drive.new.desk c.requires
    _ _ (search rules) c.class_of.ensures (search rules) c.drive.ensures.walk
