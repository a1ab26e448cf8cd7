-- The octets for the items so far are written or wait, the stage has their calls, and neither source nor sink
-- has failed.
use Rattle.std.proofs.Common.{◌≡◌, [], true, None}
use Rattle.std.specs.Prelude.{option_map}
use Rattle.wf_trace.specs.Cutting.{room}
use Rattle.wf_trace.specs.Reader.{will_read}
use Rattle.wf_trace_laws.specs.Running.{progress_of, IsAt}
use Rattle.wf_trace_laws.proofs.Tellings.{Running}
use Rattle.wf_run_replay.proofs.runner.play.Given as goal

abbrev pub invariant-items : goal.invariant-items
invariant-items g l = Running g.T.Tells.telling l.reader (progress_of (option_map g.M.Plays.past l.stage))
    (g.S.Source.left l.fn.source) (g.S.Source.left l.source) (g.K.Sink.held l.fn.sink)
    (g.K.Sink.held l.sink) (g.T.Tells.waiting l.teller)
    × (l.reader.ended ≡ None)
    × IsAt (option_map g.M.Plays.past l.stage) l.reader.place
    × (g.S.Source.faults l.source ≡ g.S.Source.faults l.fn.source)
    × (g.K.Sink.faults l.sink ≡ g.K.Sink.faults l.fn.sink)
    × (will_read l.reader ≡ true → g.T.Tells.waiting l.teller ≡ [])
    × (l.reader.place ≡ None → g.T.Tells.waiting l.teller ≡ [])

abbrev pub decreases-items : goal.decreases-items
decreases-items g l = room l.reader.cut.cutter
