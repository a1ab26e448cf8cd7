-- Proves that the packets of the last call are written.
use Rattle.std.proofs.Common.{◌∙◌, ap, subst}
use Rattle.std.specs.Io.KnownBytes.{append_known}
use Rattle.wf_frame.specs.Answers.{reply_of}
use Rattle.wf_io.specs.Fronts.{HoldsFront}
use Rattle.wf_report.proofs.Answered.{on_ok}
use Rattle.wf_report.proofs.Cells.{call_is}
use Rattle.wf_report.proofs.captures.packets.write_packets.Goals as goal

pub returns-in-Some-clause-written : goal.returns-in-Some-clause-written
returns-in-Some-clause-written g c =
    on_ok c.write_frames.result
    (λ wrote past caller note is reply. wrote
    ∙ ap (append_known (g.K.Sink.held c.args.sink.now))
    (call_is c.args.cell.now past caller note c.in-Some.note (reply_of c.args.answer.now)
    (c.in-Some.ensures past caller note is) is reply))
    c.write_frames.ensures.written

pub returns-in-Some-clause-front : goal.returns-in-Some-clause-front
returns-in-Some-clause-front g c = λ past caller note is reply.
    subst (HoldsFront (g.K.Sink.held c.args.sink.now) (g.K.Sink.held c.write_frames.new.sink))
    (call_is c.args.cell.now past caller note c.in-Some.note (reply_of c.args.answer.now)
    (c.in-Some.ensures past caller note is) is reply) c.write_frames.ensures.front
