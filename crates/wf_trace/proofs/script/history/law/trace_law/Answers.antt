-- Proves `trace_law`, by HistoryLaws.
use Rattle.wf_trace.proofs.HistoryLaws.{trace_read}
use Rattle.wf_trace.proofs.script.history.law.trace_law.Goals as goal

pub returns : goal.returns
returns c = record { read = trace_read }
