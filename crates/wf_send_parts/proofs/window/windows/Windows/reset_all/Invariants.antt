-- The loop of `Windows::reset_all`: the windows of the TIDs below this one are fresh.
use Rattle.wf_send_parts.proofs.Resetting.{IsResetting}
use Rattle.wf_send_parts.proofs.window.windows.Windows.reset_all.Given as goal

abbrev pub invariant-loop-tid : goal.invariant-loop-tid
invariant-loop-tid l = IsResetting l.initial.self l.self l.station l.size l.start l.tid
