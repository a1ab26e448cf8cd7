-- The invariant of the loop of `converse`: the answers to the events so far were written, without a fault.
use Rattle.std.proofs.Common.{◌≡◌, ◌≤◌, ◌+◌}
use Rattle.wf_trace.specs.Lines.{longest_trace}
use Rattle.wf_trace.specs.Cutting.{room}
use Rattle.wf_trace.proofs.Conversing.{Conversing}
use Rattle.wf_trace.proofs.script.conversation.converse.Given as goal

abbrev pub invariant-lines : goal.invariant-lines
invariant-lines g l = record {
  talk : Conversing g.C.Answers.grammar g.C.Answers.manner l.fn.command l.command l.count l.cut
      (g.S.Source.left l.fn.source) (g.S.Source.left l.source) (g.K.Sink.held l.fn.sink)
      (g.K.Sink.held l.sink);
  reads : g.S.Source.faults l.source ≡ g.S.Source.faults l.fn.source;
  writes : g.K.Sink.faults l.sink ≡ g.K.Sink.faults l.fn.sink;
  few : l.count + room l.cut.cutter ≤ longest_trace + 1;
}

abbrev pub decreases-lines : goal.decreases-lines
decreases-lines g l = room l.cut.cutter
