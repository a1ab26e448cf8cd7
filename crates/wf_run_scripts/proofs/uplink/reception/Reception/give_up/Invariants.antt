-- A prefix of the timeouts' text was written, and the other timeouts remain.
use Rattle.std.proofs.Common.{◌≡◌, ◌*◌, ◌-◌}
use Rattle.wf_uplink.specs.World.{tids_of_station}
use Rattle.wf_run_scripts.specs.UplinkAnswers.{stations}
use Rattle.wf_run_scripts.proofs.UplinkCalls.{GivesUp}
use Rattle.wf_run_scripts.proofs.uplink.reception.Reception.give_up.Given as goal

abbrev pub invariant-loop : goal.invariant-loop
invariant-loop g l =
    GivesUp (g.K.Sink.held l.fn.sink) (g.K.Sink.held l.sink) l.fn.self l.self
    (tids_of_station * stations - l.counter)
    × (g.K.Sink.faults l.sink ≡ g.K.Sink.faults l.fn.sink)
