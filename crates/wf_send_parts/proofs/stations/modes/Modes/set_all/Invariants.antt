-- The loop of `Modes::set_all`: the TIDs below this one have the mode.
use Rattle.wf_send_parts.proofs.Modes.{AreSet}
use Rattle.wf_send_parts.proofs.stations.modes.Modes.set_all.Given as goal

abbrev pub invariant-loop-tid : goal.invariant-loop-tid
invariant-loop-tid l = AreSet l.initial.self l.self l.station l.mode l.tid
