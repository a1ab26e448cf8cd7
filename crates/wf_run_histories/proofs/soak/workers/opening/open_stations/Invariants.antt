-- The history so far has the opening calls of the stations so far.
use Rattle.std.proofs.Common.{◌≡◌, ◌≤◌}
use Rattle.wf_run_histories.specs.Opening.{with_entries, opening_calls}
use Rattle.wf_run_histories.proofs.soak.workers.opening.open_stations.Given as goal

abbrev pub invariant-loop-station : goal.invariant-loop-station
invariant-loop-station g l =
    (l.station ≤ l.stations) × (g.M.Opens.past l.machine
    ≡ with_entries (opening_calls l.station) (g.M.Opens.past l.fn.machine))
