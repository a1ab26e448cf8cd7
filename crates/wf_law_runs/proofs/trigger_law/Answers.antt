-- Proves `trigger_law` (lib.rt) from the lemmas.
use Rattle.wf_law_runs.proofs.Services.Periods.{trigger_law}
use Rattle.wf_law_runs.proofs.trigger_law.Goals as goal

pub returns : goal.returns
returns c = trigger_law
