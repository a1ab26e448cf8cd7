-- Proves that the trace and the summary together are the text of the history, and that a failed write leaves
-- a prefix of it.
use Rattle.wf_run_histories.proofs.Texts.{on_ok, text_written, trace_front, text_front}
use Rattle.wf_run_histories.proofs.live.history.write_history.Goals as goal

pub returns-in_err-write_trace-clause-front : goal.returns-in_err-write_trace-clause-front
returns-in_err-write_trace-clause-front g c = trace_front c.args.cell.now.past _ _ c.write_trace.ensures.front

pub returns-clause-written : goal.returns-clause-written
returns-clause-written g c =
    on_ok c.write_summary.result c.write_summary.ensures.written
    (λ wrote. text_written c.args.cell.now.past c.requires.standard _ _ _ c.in_ok-write_trace.ensures.written
    wrote)

pub returns-clause-front : goal.returns-clause-front
returns-clause-front g c = text_front c.args.cell.now.past c.requires.standard _ _ _
    c.in_ok-write_trace.ensures.written c.write_summary.ensures.front
