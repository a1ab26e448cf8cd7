-- Proves that a prefix of the trace was written, for each of its three writes.
use Rattle.std.proofs.Common.{◌++◌}
use Rattle.wf_io.proofs.FrontLaws.{front_partly, front_first, front_next, front_whole}
use Rattle.wf_trace.specs.Traces.{head_line, entry_lines, end_line}
use Rattle.wf_trace.proofs.script.history.writing.write_trace.Goals as goal

pub returns-in_err-write_all-clause-front : goal.returns-in_err-write_all-clause-front
returns-in_err-write_all-clause-front g c =
    front_first _ _ head_line (entry_lines (g.H.Entries.entries c.args.history.now) ++ end_line)
    (front_partly head_line _ _ c.write_all.ensures.prefix)

pub returns-in_err-write_all_entries-clause-front : goal.returns-in_err-write_all_entries-clause-front
returns-in_err-write_all_entries-clause-front g c =
    let lines = entry_lines (g.H.Entries.entries c.args.history.now) in
    front_next _ _ _ head_line (lines ++ end_line) c.in_ok-write_all.ensures.written
    (front_first _ _ lines end_line c.write_all_entries.ensures.front)

pub returns-in_err-write_all-2-clause-front : goal.returns-in_err-write_all-2-clause-front
returns-in_err-write_all-2-clause-front g c =
    let lines = entry_lines (g.H.Entries.entries c.args.history.now) in
    front_next _ _ _ head_line (lines ++ end_line) c.in_ok-write_all.ensures.written
    (front_next _ _ _ lines end_line c.in_ok-write_all_entries.ensures.written
    (front_partly end_line _ _ c.write_all-2.ensures.prefix))

pub returns-clause-front : goal.returns-clause-front
returns-clause-front g c =
    let lines = entry_lines (g.H.Entries.entries c.args.history.now) in
    front_next _ _ _ head_line (lines ++ end_line) c.in_ok-write_all.ensures.written
    (front_next _ _ _ lines end_line c.in_ok-write_all_entries.ensures.written
    (front_whole _ _ end_line c.in_ok-write_all-2.ensures.written))
