-- Proves that a failed write leaves a prefix of the waiting octets.
use Rattle.wf_trace_laws.proofs.Octets.{partly}
use Rattle.wf_run_replay.proofs.outgoing.Outgoing.send.Goals as goal

pub returns-in_err-write_all-clause-front : goal.returns-in_err-write_all-clause-front
returns-in_err-write_all-clause-front g c =
    rw (← c.self.view_is, ← c.as_slice.ensures.value)
    (partly c.as_slice.result.now _ _ c.write_all.ensures.prefix)
