-- Proves `sent_law` (lib.rt) from the lemmas.
use Rattle.wf_law_runs.proofs.Sent.Law.{sent_law}
use Rattle.wf_law_runs.proofs.sent_law.Goals as goal

pub returns : goal.returns
returns c = sent_law
