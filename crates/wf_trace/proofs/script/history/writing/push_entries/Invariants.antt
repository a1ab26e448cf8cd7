-- The invariant of the loop of `push_entries`: the lines of the entries so far were appended.
use Rattle.std.proofs.Common.{◌≡◌, ◌+◌, ◌*◌, ◌≤◌, ◌++◌, length, take}
use Rattle.wf_trace.specs.Traces.{entry_lines, CanBeNamed}
use Rattle.wf_trace.proofs.script.history.writing.push_entries.Given as goal

abbrev pub invariant-loop-i : goal.invariant-loop-i
invariant-loop-i g l = record {
  inside : (l.from ≤ l.i) × (l.i ≤ l.to);
  lines : entry_lines (take l.from (g.H.Entries.entries l.history)) ++ l.out
      ≡ entry_lines (take l.i (g.H.Entries.entries l.history));
  short : length l.out + 161 * l.from ≤ 161 * l.i;
  range : CanBeNamed (take l.from (g.H.Entries.entries l.history)) →
      CanBeNamed (take l.i (g.H.Entries.entries l.history));
}
