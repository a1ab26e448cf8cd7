-- Proves `in_flight_law` (lib.rt) from the lemmas.
use Rattle.wf_law_runs.proofs.Deficits.InFlight.{in_flight_law}
use Rattle.wf_law_runs.proofs.in_flight_law.Goals as goal

pub returns : goal.returns
returns c = in_flight_law
