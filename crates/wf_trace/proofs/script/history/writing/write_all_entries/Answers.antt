-- Proves that a prefix of the lines was written if a write fails.
use Rattle.std.proofs.Common.{take, ◌+◌}
use Rattle.wf_io.proofs.FrontLaws.{front_next}
use Rattle.wf_trace.specs.Traces.{entry_lines}
use Rattle.wf_trace.proofs.HistoryFronts.{lines-front}
use Rattle.wf_trace.proofs.script.history.writing.write_all_entries.Goals as goal

pub returns-in_err-write_entries-clause-front : goal.returns-in_err-write_entries-clause-front
returns-in_err-write_entries-clause-front g c =
    let front = c.write_entries.ensures.front in
    lines-front (g.H.Entries.entries c.args.history.now) c.loop-from.from
    (c.loop-from.from + c.min.result) front.0 front.2
    (front_next _ _ _ (entry_lines (take c.loop-from.from (g.H.Entries.entries c.args.history.now)))
    front.0 c.loop-from.invariant.held front.1)
