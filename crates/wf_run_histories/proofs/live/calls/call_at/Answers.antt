-- Proves that the call adds one call with the right reply to the seat, from the contract of the gate.
use Rattle.wf_frame.specs.Answers.{reply_of}
use Rattle.wf_path.specs.Jobs.{note_of}
use Rattle.wf_run_histories.proofs.Standing.{one_more}
use Rattle.wf_run_histories.proofs.live.calls.call_at.Goals as goal

pub returns-in-Ok-clause-made : goal.returns-in-Ok-clause-made
returns-in-Ok-clause-made g c =
    let e = c.in-Ok.ensures in
    one_more c.args.gate.now c.args.seat.now c.call-back.new.seat (note_of c.args.asking.job)
    (reply_of c.answer_in.result.value) c.requires.own e.same e.left e.used e.seen e.entry e.own
    (rw (c.answer_in.ensures) e.reply.reply)
