-- Proves the law `agreement_law` by the lemmas of Agreements.
use Rattle.wf_session.proofs.Agreements.{agreements}
use Rattle.wf_session.proofs.laws.agreement_law.Goals as goal

pub returns : goal.returns
returns c = agreements
