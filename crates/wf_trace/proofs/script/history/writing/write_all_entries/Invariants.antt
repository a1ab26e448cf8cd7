-- The invariant of the loop of `write_all_entries`: the lines of the entries so far were written.
use Rattle.std.proofs.Common.{◌≡◌, ◌-◌, ◌≤◌, length, take}
use Rattle.std.specs.Io.KnownBytes.{append_known}
use Rattle.wf_trace.specs.Traces.{entry_lines, CanBeNamed}
use Rattle.wf_trace.proofs.script.history.writing.write_all_entries.Given as goal

abbrev pub invariant-loop-from : goal.invariant-loop-from
invariant-loop-from g l = record {
  inside : l.from ≤ length (g.H.Entries.entries l.history);
  held : g.K.Sink.held l.sink ≡ append_known (g.K.Sink.held l.fn.sink)
      (entry_lines (take l.from (g.H.Entries.entries l.history)));
  range : CanBeNamed (take l.from (g.H.Entries.entries l.history));
  quiet : g.K.Sink.faults l.sink ≡ g.K.Sink.faults l.fn.sink;
}

abbrev pub decreases-loop-from : goal.decreases-loop-from
decreases-loop-from g l = l.count - l.from
