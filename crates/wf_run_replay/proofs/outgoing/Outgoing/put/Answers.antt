-- Proves that the waiting octets and then the line are written, if the line does not fit.
use Rattle.wf_trace_laws.proofs.Octets.{partly, leaves_none}
use Rattle.wf_run_replay.proofs.Sendings.{on_both, then_written, then_front}
use Rattle.wf_run_replay.proofs.outgoing.Outgoing.put.Goals as goal

pub returns-clause-leaves : goal.returns-clause-leaves
returns-clause-leaves g c =
    on_both c.write_all.result c.write_all.ensures.written c.write_all.ensures.written
    (λ wrote again. rw (c.in_ok-send.ensures.none)
    (leaves_none _ _ _ (then_written _ _ _ _ _ c.in_ok-send.ensures.sent wrote)))

pub returns-clause-front : goal.returns-clause-front
returns-clause-front g c =
    then_front _ _ _ _ _ c.in_ok-send.ensures.sent (partly c.args.line.now _ _ c.write_all.ensures.prefix)
