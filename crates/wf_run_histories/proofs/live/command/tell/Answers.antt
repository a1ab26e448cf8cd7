-- Proves that the written octets are the text of the history, or a prefix of it after a failed write.
use Rattle.wf_io.specs.declared.status.Status.TheVariants.{Done}
use Rattle.wf_trace.proofs.CommandEndings.{writes_quiet, writes_failed}
use Rattle.wf_run_histories.specs.Lives.{live_text}
use Rattle.wf_run_histories.proofs.Printable.{are_printable}
use Rattle.wf_run_histories.proofs.Texts.{tells}
use Rattle.wf_run_histories.proofs.live.command.tell.Goals as goal

pub write_history-requires-clause-printable : goal.write_history-requires-clause-printable
write_history-requires-clause-printable g c =
    let live = c.requires.live in
    are_printable live.0 live.1 live.2 c.args.cell.now.past.history live.3 live.4

pub returns-in-Ok : goal.returns-in-Ok
returns-in-Ok g c = record {
  ends = λ seed senders frames live.
      let history = c.args.cell.now.past.history in
      writes_quiet _ _ _ _ _ Done tt (live_text history) c.in-Ok.ensures.written
      (history, live, tells seed senders frames history live c.in-Ok.ensures.range)
      c.in-Ok.ensures.cause.quiet;
}

pub returns-in-Err : goal.returns-in-Err
returns-in-Err g c = record {
  ends = λ seed senders frames live.
      let front = c.in-Err.ensures.front in
      writes_failed _ _ _ _ _ front.written front.holds
      (c.args.cell.now.past.history, live, (front.rest, front.is)) c.in-Err.ensures.cause.risen;
}
